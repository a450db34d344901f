-- What the reader hands back of a book that passes, in the specification's values. Assumes nothing.
use Rattle.std.specs.Prelude.{◌≡◌, ℕ, ◌<◌, ◌≤◌, List, length, get_or}
use Rattle.rules.specs.Verdicts.{Pass}
use Rattle.rules.specs.Book.{Job, flow_count, job_count, flow_of}
use Rattle.rules.specs.Reading.{flow_start, job_start, book_of, book_fault}
use Rattle.book.specs.declared.FlowHead.{FlowHead}
use Rattle.book.specs.declared.JobRecord.{JobRecord}

-- the array holds the deadlines of the flows of the book in these bytes, which passes
pub record DeadlinesOf (s deadlines : List ℕ) : Type 0 where
  pub passes : book_fault s ≡ Pass
  pub enough : flow_count (book_of s) ≤ length deadlines
  pub same : (f : ℕ) → f < flow_count (book_of s) → get_or deadlines f 0 ≡ (flow_of (book_of s) f).deadline

-- flow f of the book in these bytes, which passes, has its job records from `records` on: what an accessor asks
pub record FlowStands (s : List ℕ) (f records : ℕ) : Type 0 where
  pub passes : book_fault s ≡ Pass
  pub flow_in_is : f < flow_count (book_of s)
  pub records_at : records ≡ job_start s (flow_start s f) 0

-- the head is that of flow f
pub record HeadOf (s : List ℕ) (f : ℕ) (h : FlowHead) : Type 0 where
  pub deadline : h.deadline ≡ (flow_of (book_of s) f).deadline
  pub release : h.release ≡ (flow_of (book_of s) f).release
  pub jobs : h.jobs ≡ job_count (flow_of (book_of s) f)

-- a job's record as the specification's job
abbrev pub job_from : JobRecord → Job
job_from r = record { size = r.size; cap = r.cap; predecessors = r.predecessors }
