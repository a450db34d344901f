-- A flow's jobs on endless processors, each by its record and the ends of lower jobs, and what the ranges of sizes and
-- caps give of them. Assumes nothing.
use mathlib.Core.Path.{◌≡◌, refl, ap, sym, ◌∙◌}
use mathlib.Core.List.{List, map}
use Prim.Native.Nat.{ℕ, zero, suc, ◌+◌, ◌*◌, ◌-◌, ◌<◌, ◌≤◌, max}
use native.Mathlib.Nat.{not-suc-le-zero}
use native.Mathlib.Numerals.{add-one}
use native.Mathlib.Omega.{arith}
use lib.ListN.{length, get_or, set, take, drop, get_or-map, length-map}
use lib.Seq.{get_or-set_same, get_or-set_other}
use Rattle.std.specs.Prelude.{if◌then◌else◌}
use Rattle.rules.specs.Walks.{max_to}
use Rattle.rules.specs.Book.{Job, Flow, FlowInRange, job_count, job_of, has_bit, precedes}
use Rattle.rules.specs.Ideal.{duration, last_take, start_of, end_of, path}
use Rattle.rules.proofs.Laws.Walks.{last_or, max_ext, max_least}
use Rattle.rules.proofs.Chains.Ideal.{end_is_start_plus-duration, start_is_largest_end, duration_is-least, duration-positive, size-left, size-within-duration, Sized}
use Rattle.book.specs.declared.JobRecord.{JobRecord}
use Rattle.book.specs.declared.FlowHead.{FlowHead}
use Rattle.book.specs.Promise.{job_from}
use Rattle.book.specs.Starts.{no_record, flow_read}
use Rattle.chain.specs.declared.IdealJob.{IdealJob}
use Rattle.chain.specs.declared.Lasting.{Lasting}
use Rattle.chain.specs.Jobs.{job_with, LastsAs, start_among}
use Rattle.chain.specs.Alone.{no_ideal, starts_in, ends_in, with_first, JobLasts, JobsLast, FlowLasts, JobFits, JobsFit, FlowFits, JobsOf, Alone, AloneTo, ChainOf, ChainInRange}
use Rattle.chain.specs.Runs.{LeastFrom}
use Rattle.std.proofs.lemmas.Simd.{map-map}
use Rattle.std.proofs.lemmas.List.{length-take, get_or-take, drop-set-lt, drop-drop}
use Rattle.chain.proofs.Starts.{start-within}

-- ---- a list of values is that of the jobs' fields
pub end-in : (jobs : List IdealJob) (i : ℕ) → get_or (ends_in jobs) i 0 ≡ (get_or jobs i no_ideal).end
end-in jobs i = get_or-map (λ j. j.end) jobs i no_ideal

pub start-in : (jobs : List IdealJob) (i : ℕ) → get_or (starts_in jobs) i 0 ≡ (get_or jobs i no_ideal).start
start-in jobs i = get_or-map (λ j. j.start) jobs i no_ideal

-- ---- a walk's largest
pub max_more : (f : ℕ → ℕ) (k s r : ℕ) → s ≡ max_to f k → r ≡ max s (f k) → r ≡ max_to f (k + 1)
unfolding max_to
max_more f k s r es er = rw (add-one k) (er ∙ rw es refl)

pub max_none : (f : ℕ → ℕ) → 0 ≡ max_to f 0
unfolding max_to
max_none f = refl

-- ---- a flow's jobs and their records
-- a list of records is a flow's jobs where the flow has just these
pub jobs_are : (w : Flow) (jobs : List JobRecord) → w.jobs ≡ map job_from jobs → JobsOf w jobs
unfolding job_of
jobs_are w jobs e = record {
  count = rw e (length-map jobs job_from);
  each = λ i h. rw e (get_or-map job_from jobs i no_record);
}

pub jobs-read : (w : Flow) (h : FlowHead) (jobs : List JobRecord) → flow_read h jobs ≡ w → JobsOf w jobs
jobs-read w h jobs e = jobs_are w jobs (ap (λ (v : Flow). v.jobs) (sym e))

-- .. and there is one
pub flow_with : List JobRecord → Flow
flow_with jobs = record { deadline = 0; release = 0; jobs = map job_from jobs }

pub jobs_of-flow_with : (jobs : List JobRecord) → JobsOf (flow_with jobs) jobs
unfolding flow_with
jobs_of-flow_with jobs = jobs_are (flow_with jobs) jobs refl

-- the ranges of the records are those of the flow, and the other way round
pub flow-lasts : (w : Flow) (jobs : List JobRecord) → JobsOf w jobs → JobsLast jobs → FlowLasts w
flow-lasts w jobs of lasts = record {
  few = omega (arith, of.count, lasts.few);
  each = λ i h. let l : i < length jobs = omega (arith, of.count) in rw (of.each i l) (lasts.each i l);
}

-- .. and for the first n of them alone
pub jobs-last-to : (w : Flow) (jobs : List JobRecord) → JobsOf w jobs → (n : ℕ) → n ≤ length jobs → JobsLast (take n jobs) →
    (i : ℕ) → i < n → JobLasts (job_of w i)
jobs-last-to w jobs of n within lasts i h =
    rw (of.each i (omega arith)) (rw (get_or-take n jobs i no_record h) at (lasts.each i (omega (arith, length-take n jobs))))

-- jobs in range are so without a limit of their caps
job-lasts : (j : Job) → JobFits j → JobLasts j
job-lasts j f = record { size_least = f.size_least; size_most = f.size_most; cap_least = f.cap_least }

pub flow-fits-lasts : (w : Flow) → FlowFits w → FlowLasts w
flow-fits-lasts w fits = record { few = fits.few; each = λ i h. job-lasts (job_of w i) (fits.each i h) }

pub flow-fits : (w : Flow) (jobs : List JobRecord) → JobsOf w jobs → JobsFit jobs → FlowFits w
flow-fits w jobs of fits = record {
  few = omega (arith, of.count, fits.few);
  each = λ i h. let l : i < length jobs = omega (arith, of.count) in rw (of.each i l) (fits.each i l);
}

pub jobs-fit : (P : ℕ) → P ≤ 4096 → (w : Flow) (jobs : List JobRecord) → FlowInRange P w → JobsOf w jobs → JobsFit jobs
jobs-fit P most w jobs range of = record {
  few = omega (arith, of.count, range.jobs_most);
  each = λ i h.
      let r = range.each_job i (omega (arith, of.count)) in
      let j : JobFits (job_of w i) = record { size_least = r.size_least; size_most = r.size_most; cap_least = r.cap_least; cap_most = omega (arith, r.cap_most) } in
      rw (of.each i h) at j;
}

-- ---- what the ranges give
last-take-positive : (j : Job) → 1 ≤ j.size → 1 ≤ j.cap → 1 ≤ last_take j
unfolding last_take
last-take-positive j some pos = omega (arith, size-left j pos (duration j - 1) (omega (arith, duration-positive j pos some)))

last-take-within : (j : Job) → 1 ≤ j.size → 1 ≤ j.cap → last_take j ≤ j.cap
unfolding last_take
last-take-within j some pos =
    let d = duration j - 1 in
    let e : duration j ≡ suc d = omega (arith, duration-positive j pos some) in
    omega (arith, rw e at (size-within-duration j pos))

-- the first n jobs of a flow, whatever those behind them are
module _ (w : Flow) (n : ℕ) (lasts : (i : ℕ) → i < n → JobLasts (job_of w i)) where
  -- a job lasts as many slots as its size has units, at most
  duration-to : (i : ℕ) → i < n → duration (job_of w i) ≤ 1000000
  duration-to i h =
      let j = lasts i h in
      duration_is-least (job_of w i) j.cap_least 1000000 (omega (arith, j.size_most, j.cap_least))

  -- m jobs have ended after 1,000,000 slots each, at the latest
  pub end-to : (m : ℕ) → m ≤ n → (i : ℕ) → i < m → end_of w i ≤ 1000000 * m
  end-to zero most i h = absurd (not-suc-le-zero h)
  end-to (suc m) most i h =
      let below = end-to m (omega arith) in
      last_or i m h
      (λ q. rw q (omega (arith, end_is_start_plus-duration w m, start-within w m (1000000 * m) below, duration-to m (omega arith))))
      (λ l. omega (arith, below i l))

module _ (w : Flow) (lasts : FlowLasts w) where
  pub sized-of : Sized w
  sized-of = record { size_positive = λ i h. (lasts.each i h).size_least; cap_positive = λ i h. (lasts.each i h).cap_least }

  pub duration-most : (i : ℕ) → i < job_count w → duration (job_of w i) ≤ 1000000
  duration-most = duration-to w (job_count w) lasts.each

  pub end-most : (n : ℕ) → n ≤ job_count w → (i : ℕ) → i < n → end_of w i ≤ 1000000 * n
  end-most = end-to w (job_count w) lasts.each

  pub end-within : (i : ℕ) → i < job_count w → end_of w i ≤ 64000000
  end-within i h = omega (arith, end-most (job_count w) (omega arith) i h, lasts.few)

  -- a path reaches 64,000,000
  pub path-within : path w ≤ 64000000
  unfolding path
  path-within = max_least (end_of w) (job_count w) 64000000 end-within

  module _ (i : ℕ) (h : i < job_count w) where
    pub starts-before-end : start_of w i < end_of w i
    starts-before-end =
        omega (arith, end_is_start_plus-duration w i, duration-positive (job_of w i) (lasts.each i h).cap_least (lasts.each i h).size_least)

    pub last-some : 1 ≤ last_take (job_of w i)
    last-some = last-take-positive (job_of w i) (lasts.each i h).size_least (lasts.each i h).cap_least

pub path-most : (w : Flow) → FlowFits w → path w ≤ 64000000
path-most w fits = path-within w (flow-fits-lasts w fits)

last-most : (w : Flow) → FlowFits w → (i : ℕ) → i < job_count w → last_take (job_of w i) ≤ 4096
last-most w fits i h = omega (arith, last-take-within (job_of w i) (fits.each i h).size_least (fits.each i h).cap_least, (fits.each i h).cap_most)

-- ---- the next job
module _ (w : Flow) (k : ℕ) (r : JobRecord) (e : job_of w k ≡ job_from r) where
  -- the start that the ends of lower jobs give is the job's
  pub start-by-ends : (jobs : List IdealJob) → k ≤ length jobs → AloneTo w k jobs →
      start_among r.predecessors (ends_in (take k jobs)) (length (take k jobs)) ≡ start_of w k
  unfolding start_among
  start-by-ends jobs room below =
      let front : length (take k jobs) ≡ k = omega (arith, length-take k jobs) in
      rw front
      (max_ext
      (λ i. if has_bit r.predecessors i then get_or (ends_in (take k jobs)) i 0 else 0)
      (λ i. if precedes w i k then end_of w i else 0)
      k
      (λ i l. rw (e, end-in (take k jobs) i, get_or-take k jobs i no_ideal l, (below i l).end) refl)
      ∙ sym (start_is_largest_end w k))

  -- .. and the job by it
  pub alone-next : (start cap first : ℕ) (lasting : Lasting) → start ≡ start_of w k → cap ≡ r.cap →
      ((p : ℕ) → LastsAs (job_with r.size cap p) lasting) →
      Alone w k (record { start = start; end = start + lasting.slots; last = lasting.last; cap = cap; first = first })
  alone-next start cap first lasting es ec lasts =
      let l : LastsAs (job_from r) lasting = rw ec at (lasts r.predecessors) in
      record {
        start = es;
        end = omega (arith, es, l.slots, ap duration e, end_is_start_plus-duration w k);
        last = l.last ∙ sym (ap last_take e);
        cap = ec ∙ sym (ap (λ (q : Job). q.cap) e);
      }

  pub alone-stored : (jobs : List IdealJob) (j : IdealJob) → k < length jobs → AloneTo w k jobs → Alone w k j → AloneTo w (suc k) (set jobs k j)
  alone-stored jobs j room below here i h =
      last_or i k h
      (λ q. rw (q, get_or-set_same jobs k j no_ideal room) here)
      (λ l. rw (get_or-set_other jobs k i j no_ideal (λ q. omega arith)) (below i l))

-- .. and what stands behind it stays
pub rest-kept : (n k : ℕ) (a b : List IdealJob) (j : IdealJob) → n ≡ k + 1 → drop k a ≡ drop k b → drop n (set a k j) ≡ drop n b
rest-kept n k a b j e same = rw e (drop-set-lt (k + 1) a k j (omega arith) ∙ (sym (drop-drop 1 k a) ∙ (ap (drop 1) same ∙ drop-drop 1 k b)))

-- ---- all jobs, when each has its least start
-- nothing but the least starts differs
module _ (a b : List IdealJob) (kept : map (with_first 0) a ≡ map (with_first 0) b) where
  kept-at : (i : ℕ) → with_first 0 (get_or a i no_ideal) ≡ with_first 0 (get_or b i no_ideal)
  kept-at i =
      sym (get_or-map (with_first 0) a i no_ideal) ∙ (ap (λ (l : List IdealJob). get_or l i no_ideal) kept ∙ get_or-map (with_first 0) b i no_ideal)

  pub start-kept : (i : ℕ) → (get_or a i no_ideal).start ≡ (get_or b i no_ideal).start
  start-kept i = ap (λ (j : IdealJob). j.start) (kept-at i)

  pub starts-kept : starts_in a ≡ starts_in b
  starts-kept =
      sym (map-map (λ (j : IdealJob). j.start) (with_first 0) a) ∙ (ap (map (λ (j : IdealJob). j.start)) kept ∙ map-map (λ (j : IdealJob). j.start) (with_first 0) b)

  pub alone-kept : (w : Flow) (n : ℕ) → AloneTo w n b → AloneTo w n a
  alone-kept w n each i h =
      record {
        start = start-kept i ∙ (each i h).start;
        end = ap (λ (j : IdealJob). j.end) (kept-at i) ∙ (each i h).end;
        last = ap (λ (j : IdealJob). j.last) (kept-at i) ∙ (each i h).last;
        cap = ap (λ (j : IdealJob). j.cap) (kept-at i) ∙ (each i h).cap;
      }

-- the values of all jobs are a flow's chain
pub chain_of : (w : Flow) (records : List JobRecord) (before jobs : List IdealJob) (longest : ℕ) → JobsFit records → JobsOf w records →
    map (with_first 0) jobs ≡ map (with_first 0) before → length before ≡ length records → length jobs ≡ length before → AloneTo w (length records) before →
    ((i : ℕ) → i < length before → LeastFrom (starts_in before) (length before) i (get_or jobs i no_ideal).first) →
    longest ≡ max_to (λ i. (get_or jobs i no_ideal).end) (length jobs) → ChainOf w jobs longest
unfolding path
chain_of w records before jobs longest fits of kept eb ej each least el =
    let e : length before ≡ job_count w = eb ∙ sym of.count in
    let each-kept = alone-kept jobs before kept w (job_count w) (λ i h. each i (omega (arith, of.count))) in
    record {
      fits = flow-fits w records of fits;
      count = ej ∙ e;
      each = each-kept;
      firsts = λ i h. rw (starts-kept jobs before kept, ← e) (least i (omega (arith, e)));
      path = el ∙ rw (ej ∙ e) (max_ext (λ i. (get_or jobs i no_ideal).end) (end_of w) (job_count w) (λ i h. (each-kept i h).end));
    }

-- .. and in range
pub chain-in-range : (w : Flow) (jobs : List IdealJob) (longest : ℕ) → ChainOf w jobs longest → ChainInRange jobs
chain-in-range w jobs longest of = record {
  few = omega (arith, of.count, of.fits.few);
  each = λ i h.
      let l : i < job_count w = omega (arith, of.count) in
      let j = of.each i l in
      let f = of.fits.each i l in
      record {
        some = omega (arith, j.start, j.end, starts-before-end w (flow-fits-lasts w of.fits) i l);
        last_least = omega (arith, j.last, last-some w (flow-fits-lasts w of.fits) i l);
        last_most = omega (arith, j.last, last-most w of.fits i l);
        cap_least = omega (arith, j.cap, f.cap_least);
        cap_most = omega (arith, j.cap, f.cap_most);
      };
}
