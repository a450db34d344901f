-- What the walk over a table's rows keeps of the rows so far, and how it is read off them: of the flow whose rows are
-- walked each job's total and the slot from which it is complete; the use of each slot in the work area. Assumes
-- nothing.
use Rattle.std.specs.Prelude.{◌≡◌, ℕ, ◌+◌, ◌*◌, ◌-◌, ◌/◌, ◌≤◌, ◌<◌, Bool, List, length, get_or, take, set, map, ltb, eqb, if◌then◌else◌}
use Rattle.std.specs.Prelude.{Option, Some, None, Result, IfOk}
use Rattle.std.proofs.lemmas.List.Edits.{sets}
use Rattle.rules.specs.declared.Fault.{Fault}
use Rattle.rules.specs.Verdicts.{Pass}
use Rattle.rules.specs.Fields.{field, bytes_of}
use Rattle.rules.specs.Answers.{first_fault}
use Rattle.rules.specs.Limits.{slots, work_bytes}
use Rattle.rules.specs.Book.{Book, Job, no_job, job_count, flow_of, job_of}
use Rattle.rules.specs.Rows as rules
use Rattle.rules.specs.Rows.{total_of, done_before, finish_of, work_used}
use Rattle.rules.specs.Table.{table_head, row_length}
use Rattle.rules.specs.Check.{table_rows, row_fault}
use Rattle.book.specs.Promise.{job_from}
use Rattle.table_check.specs.declared.row.JobState.{JobState}
use Rattle.table_check.specs.declared.row.Ready.{Ready}
use Rattle.table_check.specs.declared.row.Asks.{Asks}
use Rattle.table_check.specs.declared.row.Tested.{Tested}
use Rattle.book.specs.Records.{number_by}
use Rattle.table_check.specs.Tests.{not_yet, test_number, asked_release, asked, ready_after}

-- ---- the jobs of a flow, by what the book says of each, and by each one's total and the slot from which it is complete
abbrev pub records_of : List JobState → List Job
records_of jobs = map (λ (j : JobState). job_from j.job) jobs

abbrev pub totals_of : List JobState → List ℕ
totals_of jobs = map (λ (j : JobState). j.total) jobs

-- a job that is complete in the last n of 65,536 slots is so from the first of these on, and where n is 0 from none on
unfoldable pub ready_of : Ready → Option ℕ
ready_of r = if eqb r.last 0 then None else Some (65536 - r.last)

abbrev pub readies_of : List JobState → List (Option ℕ)
readies_of jobs = map (λ (j : JobState). ready_of j.ready) jobs

-- the jobs are those of flow f, in order
pub record JobsHeld (b : Book) (f : ℕ) (jobs : List JobState) : Type 0 where
  pub same : records_of jobs ≡ (flow_of b f).jobs

-- of each job of flow f the list has the size and the cap
pub record AmountsHeld (b : Book) (f : ℕ) (jobs : List JobState) : Type 0 where
  pub enough : job_count (flow_of b f) ≤ length jobs
  pub size_of : (i : ℕ) → i < job_count (flow_of b f) → (get_or (records_of jobs) i no_job).size ≡ (job_of (flow_of b f) i).size
  pub cap_of : (i : ℕ) → i < job_count (flow_of b f) → (get_or (records_of jobs) i no_job).cap ≡ (job_of (flow_of b f) i).cap

-- the jobs of flow f before any row
pub record JobsLoaded (b : Book) (f : ℕ) (jobs : List JobState) : Type 0 where
  pub held : JobsHeld b f jobs
  pub no_total : (i : ℕ) → i < job_count (flow_of b f) → get_or (totals_of jobs) i 0 ≡ 0
  pub not_complete : (i : ℕ) → i < job_count (flow_of b f) → get_or (readies_of jobs) i None ≡ None

-- ---- one row
-- 15 to 18 and 25 of a row of flow f; where it passes, the use of its slot and the size of its job
pub record RowTested (b : Book) (opened : ℕ → Bool) (f : ℕ) (work : List ℕ) (least : ℕ) (r : rules.Row) (t : Result Tested Fault) : Type 0 where
  pub number : number_by t ≡ test_number b opened f (field 2 work (2 * r.slot)) least r
  pub used : IfOk t (λ x. x.used ≡ field 2 work (2 * r.slot))
  pub size : IfOk t (λ x. x.size ≡ (job_of (flow_of b f) r.job).size)

-- what 19 asks at a row in a slot, of a job
pub record AskedAt (j : JobState) (release slot : ℕ) (a : Asks) : Type 0 where
  pub unreleased : a.unreleased ≡ asked_release j.total release slot
  pub bits : a.bits ≡ asked j.total j.job.predecessors

-- there is room to count the row
pub record Countable (jobs : List JobState) (work : List ℕ) (used : ℕ) (r : rules.Row) : Type 0 where
  pub job_in : r.job < length jobs
  pub slot_in : r.slot < slots
  pub room : work_bytes ≤ length work
  pub use_fits : used + r.processors < 65536
  pub total_fits : get_or (totals_of jobs) r.job 0 + r.processors < 4294967296

-- the row is counted: in its job's total, and where that completes the job; what the book says of the jobs stays
pub record RowCounted (used : ℕ) (r : rules.Row) (jobs : List JobState) (work : List ℕ) (jobs' : List JobState) (work' : List ℕ) : Type 0 where
  pub records : records_of jobs' ≡ records_of jobs
  pub total : totals_of jobs' ≡ set (totals_of jobs) r.job (get_or (totals_of jobs) r.job 0 + r.processors)
  pub complete : readies_of jobs' ≡ set (readies_of jobs) r.job
      (ready_after (get_or (readies_of jobs) r.job None) (get_or (totals_of jobs) r.job 0) (get_or (totals_of jobs) r.job 0 + r.processors)
      (get_or (records_of jobs) r.job no_job).size r.slot)
  pub in_use : work' ≡ sets work (2 * r.slot) (bytes_of 2 (used + r.processors))

-- ---- the rows so far
-- how many rows stand before `at` in a table
unfoldable pub rows_to : Book → ℕ → ℕ
rows_to b at = (at - table_head b) / row_length

-- the first k rows end at `at`, they pass with these slots open, and the work area holds the use of each slot by them
pub record Reached (b : Book) (opened : ℕ → Bool) (table : List ℕ) (k at : ℕ) (work : List ℕ) : Type 0 where
  pub at_is : at ≡ table_head b + row_length * k
  pub within : k ≤ length (table_rows b table)
  pub passed : first_fault (row_fault b opened (table_rows b table)) k ≡ Pass
  pub use_of : work ≡ work_used slots (take k (table_rows b table)) work

-- each job's total, and whether it is complete before a slot that the flow's rows have not passed
pub record FlowTally (b : Book) (f : ℕ) (so_far : List rules.Row) (totals : List ℕ) (ready : List (Option ℕ)) : Type 0 where
  pub totals_long : length totals ≡ job_count (flow_of b f)
  pub ready_long : length ready ≡ job_count (flow_of b f)
  pub total : (i : ℕ) → i < job_count (flow_of b f) → get_or totals i 0 ≡ total_of so_far f i
  pub complete : (i t : ℕ) → i < job_count (flow_of b f) → finish_of so_far f ≤ t + 1 → t < slots →
      ltb (done_before so_far f i t) (job_of (flow_of b f) i).size ≡ not_yet t (get_or ready i None)
