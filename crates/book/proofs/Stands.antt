-- What stands around the offset at which the job records of a flow of a book that passes start: its head in front of it, its jobs behind it. Both
-- lie inside the bytes, and their values are the book's. Assumes nothing.
use mathlib.Core.Path.{◌≡◌, sym, ap, ◌∙◌}
use Prim.Native.Nat.{ℕ, ◌+◌, ◌-◌, ◌≤◌, ◌<◌}
use native.Mathlib.Omega.{arith}
use mathlib.Core.List.{List}
use lib.ListN.{length}
use Rattle.rules.specs.Verdicts.{Pass}
use Rattle.rules.specs.Fields.{byte}
use Rattle.rules.specs.Limits.{most_jobs}
use Rattle.rules.specs.Book.{Flow, job_count, flow_in, lower_cap, lower_caps, flow_of, job_of}
use Rattle.rules.specs.Reading.{book_head, version_of, flow_head, job_record, jobs_at, flow_start, job_start, job_at, flow_at, book_of, book_fault}
use Rattle.rules.proofs.Reading.Caps.{count-lowered, job-lowered}
use Rattle.rules.proofs.Reading.Passing.{flow-count, flow_in_book, job-count, job_of-flow, deadline_of-flow, release_of-flow, FlowPasses, book_passes, flow_of_passing}
use Rattle.book.specs.declared.FlowHead.{FlowHead}
use Rattle.book.specs.Records.{head_at}
use Rattle.book.specs.Promise.{FlowStands, HeadOf}

-- how a walk over the heads meets each flow
pub stands_at : (s : List ℕ) (f : ℕ) {records : ℕ} → book_fault s ≡ Pass → f < byte s 7 → records ≡ job_start s (flow_start s f) 0 → FlowStands s f records
stands_at s f e h q = record { passes = e; flow_in_is = rw (flow-count s) h; records_at = q }

module _ {s : List ℕ} {f records : ℕ} (stands : FlowStands s f records) where
  flow_below : f < byte s 7
  flow_below = rw (flow-count s) at stands.flow_in_is

  flow_is : flow_in (book_of s) f ≡ flow_at s (flow_start s f)
  flow_is = flow_in_book s f flow_below

  pub flow-stands-whole : FlowPasses s (flow_start s f)
  flow-stands-whole = flow_of_passing s stands.passes f flow_below

  pub job-count_is : job_count (flow_of (book_of s) f) ≡ jobs_at s (flow_start s f)
  unfolding flow_of
  job-count_is = count-lowered (book_of s).processors (flow_in (book_of s) f) ∙ ap job_count flow_is ∙ job-count s (flow_start s f)

  -- the heads of the book and of the flow lie inside the bytes
  pub book-head-fits : book_head ≤ length s
  book-head-fits = (book_passes s stands.passes).head_whole

  pub head-fits : flow_start s f + flow_head (version_of s) ≤ length s
  head-fits = flow-stands-whole.head.flow_head_whole

  -- the head of the flow stands in front of its job records
  pub head-before : {n : ℕ} → n ≡ flow_head (version_of s) → records - n ≡ flow_start s f
  head-before e = omega (arith, stands.records_at)

  pub head_is : {h : FlowHead} → h ≡ head_at s (flow_start s f) → HeadOf s f h
  unfolding flow_of lower_caps
  head_is e = record {
    deadline = ap (λ (h : FlowHead). h.deadline) e ∙ sym (ap (λ (w : Flow). w.deadline) flow_is ∙ deadline_of-flow s (flow_start s f));
    release = ap (λ (h : FlowHead). h.release) e ∙ sym (ap (λ (w : Flow). w.release) flow_is ∙ release_of-flow s (flow_start s f));
    jobs = ap (λ (h : FlowHead). h.jobs) e ∙ sym job-count_is;
  }

  pub jobs-few : jobs_at s (flow_start s f) ≤ most_jobs
  jobs-few = flow-stands-whole.head.jobs_to

  module _ (i : ℕ) (job_in : i < job_count (flow_of (book_of s) f)) where
    job-below : i < jobs_at s (flow_start s f)
    job-below = rw job-count_is at job_in

    -- the record of job i lies inside the bytes
    pub job_fits : job_start s (flow_start s f) i + job_record ≤ length s
    job_fits = (flow-stands-whole.each i job-below).job_whole

    -- it holds the job as it stands, which is used with its cap lowered to P
    pub job_is : job_of (flow_of (book_of s) f) i ≡ lower_cap (book_of s).processors (job_at s (job_start s (flow_start s f) i))
    unfolding flow_of
    job_is =
        job-lowered (book_of s).processors (flow_in (book_of s) f) i
        ∙ ap (λ w. lower_cap (book_of s).processors (job_of w i)) flow_is
        ∙ ap (lower_cap (book_of s).processors) (job_of-flow s (flow_start s f) i job-below)
