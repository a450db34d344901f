-- What lowering the caps to P leaves of a flow (02, Req 02): its dates, the number of its jobs, and each job but for a cap above P. So values in range
-- are used with caps from 1 to P, and where no cap is above P the flow is used as it stands. Assumes nothing.
use mathlib.Core.Path.{◌≡◌, sym, ap, ◌∙◌}
use Prim.Native.Nat.{ℕ, ◌≤◌, ◌<◌}
use native.Mathlib.Omega.{arith}
use lib.ListN.{length-map, get_or, get_or-map}
use lib.Seq.{ext_get_or}
use Rattle.rules.specs.Book.{Job, Flow, Book, flow_count, job_count, no_job, flow_in, lower_cap, lower_caps, flow_of, job_of, FlowInRange, InRange}

pub count-lowered : (P : ℕ) (w : Flow) → job_count (lower_caps P w) ≡ job_count w
unfolding lower_caps
count-lowered P w = length-map w.jobs (lower_cap P)

-- a cap at or below P is untouched
cap_kept : (P : ℕ) (j : Job) → j.cap ≤ P → lower_cap P j ≡ j
unfolding lower_cap
cap_kept P j l =
    let same : (lower_cap P j).cap ≡ j.cap = omega arith in
    λ x. record { size = j.size; cap = same x; predecessors = j.predecessors }

pub job-lowered : (P : ℕ) (w : Flow) (i : ℕ) → job_of (lower_caps P w) i ≡ lower_cap P (job_of w i)
unfolding lower_caps job_of
job-lowered P w i = ap (get_or (lower_caps P w).jobs i) (sym (cap_kept P no_job (omega arith))) ∙ get_or-map (lower_cap P) w.jobs i no_job

-- in range with any caps, a flow is in range with caps up to P, or to more, once they are lowered to P
pub lowered_in-range : {cap_limit : ℕ} (P most : ℕ) (w : Flow) → 1 ≤ P → P ≤ most → FlowInRange cap_limit w → FlowInRange most (lower_caps P w)
unfolding lower_caps lower_cap
lowered_in-range P most w some up r = record {
  deadline_least = r.deadline_least;
  deadline_most = r.deadline_most;
  release_below = r.release_below;
  jobs_least = rw (count-lowered P w) r.jobs_least;
  jobs_most = rw (count-lowered P w) r.jobs_most;
  each_job = λ i l.
      let j = r.each_job i (rw (count-lowered P w) at l) in
      rw (job-lowered P w i)
      (record {
        size_least = j.size_least;
        size_most = j.size_most;
        cap_least = omega (arith, j.cap_least);
        cap_most = omega arith;
        predecessors_below = j.predecessors_below;
      });
}

-- each flow of a book in range, as it is used
pub used_in-range : {b : Book} → InRange b → (f : ℕ) → f < flow_count b → FlowInRange b.processors (flow_of b f)
unfolding flow_of
used_in-range {b} r f l = lowered_in-range b.processors b.processors (flow_in b f) r.processors_least (omega arith) (r.each_flow f l)

-- where no cap is above P the flow is untouched
pub caps-kept : (P : ℕ) (w : Flow) → ((i : ℕ) → (job_of w i).cap ≤ P) → lower_caps P w ≡ w
unfolding job_of lower_caps
caps-kept P w l = λ x. record { deadline = w.deadline; release = w.release; jobs = same x }
  where
    same : (lower_caps P w).jobs ≡ w.jobs
    same = ext_get_or no_job (lower_caps P w).jobs w.jobs (count-lowered P w) (λ i m. job-lowered P w i ∙ cap_kept P (job_of w i) (l i))
