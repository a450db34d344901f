-- What the walk over a table's rows asks and hands back, flow by flow: the first fault of the rows, and where there is
-- none of each flow the first job whose total differs from its size and the finish, and the work area. A test `opened`
-- tells which slots are open. Assumes nothing.
use Rattle.std.specs.Prelude.{◌≡◌, ℕ, ◌+◌, ◌*◌, ◌≤◌, ◌<◌, Bool, List, length, get_or, take, map, eqb, if◌then◌else◌, Option, Some, Result, Ok, Err, IfOk, IfErr}
use Rattle.rules.specs.declared.CheckAnswer.{CheckAnswer}
use Rattle.rules.specs.declared.Refusal.{Refusal}
use Rattle.rules.specs.Verdicts.{Verdict, Pass, Refused}
use Rattle.rules.specs.Answers.{none, ◌and_then◌, first_fault, check_accepted, check_refused}
use Rattle.rules.specs.Faults.{fault_number, verdict_by}
use Rattle.rules.specs.Limits.{slots, work_bytes}
use Rattle.rules.specs.Book.{Book, flow_count, job_count, flow_of, job_of}
use Rattle.rules.specs.Reading.{book_of}
use Rattle.rules.specs.Rows as rules
use Rattle.rules.specs.Rows.{total_of, finish_of, late_flows, work_used, work_zero}
use Rattle.rules.specs.Table.{finish_in}
use Rattle.rules.specs.Check.{no_row, table_rows, table_head_fault, row_fault, total_fault, finish_fault}
use Rattle.table_check.specs.declared.row.JobState.{JobState}
use Rattle.table_check.specs.declared.walk.Stop.{Stop}
use Rattle.table_check.specs.declared.walk.FlowEnd.{FlowEnd}
use Rattle.table_check.specs.declared.walk.FlowStop.{FlowStop}
use Rattle.table_check.specs.Tests.{service_key, ranks, least_key, mismatch_fault}
use Rattle.table_check.specs.Tally.{totals_of, JobsHeld, rows_to, Reached}

-- 15 to 19 and 25, the first fault of all rows
unfoldable pub rows_fault : Book → (ℕ → Bool) → List ℕ → Verdict
rows_fault b opened table = first_fault (row_fault b opened (table_rows b table)) (length (table_rows b table))

-- 20 of flow f, by the rows so far
unfoldable pub flow_totals : Book → List rules.Row → ℕ → Verdict
flow_totals b so_far f = first_fault (total_fault b so_far f) (job_count (flow_of b f))

-- ---- the rows of one flow
-- the next row is the flow's first one, and may come next: all rows of the flow come after those so far
pub record FlowBegins (book : List ℕ) (opened : ℕ → Bool) (table work : List ℕ) (f at : ℕ) : Type 0 where
  pub headed : table_head_fault (book_of book) table ≡ Pass
  pub room : work_bytes ≤ length work
  pub reached : Reached (book_of book) opened table (rows_to (book_of book) at) at work
  pub more : rows_to (book_of book) at < length (table_rows (book_of book) table)
  pub own : (get_or (table_rows (book_of book) table) (rows_to (book_of book) at) no_row).flow ≡ f
  pub ahead : least_key (book_of book) (table_rows (book_of book) table) (rows_to (book_of book) at) ≤ service_key (book_of book) f * ranks

-- the walk went on from row k to row m, over rows of flow f alone, and the next row is another flow's
pub record WentOn (b : Book) (opened : ℕ → Bool) (table : List ℕ) (f k m at : ℕ) (work : List ℕ) (finish : ℕ) : Type 0 where
  pub some : k < m
  pub reached : Reached b opened table m at work
  pub others_total : (g i : ℕ) → (g ≡ f → ⊥) → total_of (take m (table_rows b table)) g i ≡ total_of (take k (table_rows b table)) g i
  pub others_finish : (g : ℕ) → (g ≡ f → ⊥) → finish_of (take m (table_rows b table)) g ≡ finish_of (take k (table_rows b table)) g
  pub finish_of_is : finish ≡ finish_of (take m (table_rows b table)) f
  pub last_low : service_key b f * ranks < least_key b (table_rows b table) m
  pub last_high : least_key b (table_rows b table) m ≤ service_key b f * ranks + ranks
  pub another : m < length (table_rows b table) → (get_or (table_rows b table) m no_row).flow ≡ f → ⊥

-- the walk over the rows of flow f from `at` on, that leaves these jobs, over a work area that was `before` and is
-- `after`
pub record RowsWalked (b : Book) (opened : ℕ → Bool) (table : List ℕ) (f at : ℕ) (before after : List ℕ) (jobs : List JobState) (w : Result Stop Refusal) :
    Type 0 where
  pub held : JobsHeld b f jobs
  pub cleared : work_zero slots after ≡ work_zero slots before
  pub stopped : IfErr w (λ e. verdict_by w ≡ rows_fault b opened table)
  pub went : IfOk w (λ s. WentOn b opened table f (rows_to b at) (rows_to b s.next) s.next after s.finish)
  pub total : IfOk w (λ s. (i : ℕ) → i < job_count (flow_of b f) → get_or (totals_of jobs) i 0 ≡ total_of (take (rows_to b s.next) (table_rows b table)) f i)

-- 20 at job i of flow f, by its totals
unfoldable pub total_fault_by : Book → ℕ → List ℕ → ℕ → Verdict
total_fault_by b f totals i = if eqb (get_or totals i 0) (job_of (flow_of b f) i).size then Pass else Refused 20 f i

-- the same, with the flow closed
pub record FlowWalked (b : Book) (opened : ℕ → Bool) (table : List ℕ) (f at : ℕ) (before after : List ℕ) (w : Result FlowStop Refusal) : Type 0 where
  pub cleared : work_zero slots after ≡ work_zero slots before
  pub stopped : IfErr w (λ e. verdict_by w ≡ rows_fault b opened table)
  pub went : IfOk w (λ s. WentOn b opened table f (rows_to b at) (rows_to b s.next) s.next after s.end.finish)
  pub mismatch : IfOk w (λ s. mismatch_fault f s.end.mismatch ≡ flow_totals b (take (rows_to b s.next) (table_rows b table)) f)

-- ---- all rows
-- the table passes 14, and the work area is long enough
pub record Ready (book table work : List ℕ) : Type 0 where
  pub headed : table_head_fault (book_of book) table ≡ Pass
  pub room : work_bytes ≤ length work

-- of flows that are closed, the first job of each whose total differs from its size, and the finish of each
abbrev pub mismatches_of : List FlowEnd → List (Option ℕ)
mismatches_of ends = map (λ (e : FlowEnd). e.mismatch) ends

abbrev pub finishes_of : List FlowEnd → List ℕ
finishes_of ends = map (λ (e : FlowEnd). e.finish) ends

-- a flow without rows has its mismatch at job 0
abbrev pub without_rows : Option ℕ
without_rows = Some 0

-- every flow closed
pub record Closed (b : Book) (so_far : List rules.Row) (ends : List FlowEnd) : Type 0 where
  pub mismatch_of : (f : ℕ) → f < flow_count b → mismatch_fault f (get_or (mismatches_of ends) f without_rows) ≡ flow_totals b so_far f
  pub finish_of_is : (f : ℕ) → f < 64 → get_or (finishes_of ends) f 0 ≡ finish_of so_far f

-- the walk's result, over a work area that was `before` and is `after`
pub record TableWalked (b : Book) (opened : ℕ → Bool) (table before after : List ℕ) (w : Result (List FlowEnd) Refusal) : Type 0 where
  pub verdict : verdict_by w ≡ rows_fault b opened table
  pub cleared : work_zero slots after ≡ work_zero slots before
  pub long : IfOk w (λ ends. length ends ≡ 64)
  pub closed : IfOk w (λ ends. Closed b (table_rows b table) ends)
  pub area : IfOk w (λ _. after ≡ work_used slots (table_rows b table) before)

-- ---- 20 and 21 of what the walk handed back
-- 20, by the first job of each flow whose total differs from its size
unfoldable pub mismatches_fault : List (Option ℕ) → ℕ → Verdict
mismatches_fault mismatch flows = first_fault (λ f. mismatch_fault f (get_or mismatch f without_rows)) flows

-- 21 at flow f, by the finishes
unfoldable pub finish_fault_by : List ℕ → List ℕ → ℕ → Verdict
finish_fault_by table finish f = if eqb (finish_in table f) (get_or finish f 0) then Pass else Refused 21 f none

-- ---- the table judged: 14 to 21 and 25
-- the first fault of the table, with these slots open
unfoldable pub fault_by : Book → (ℕ → Bool) → List ℕ → Verdict
fault_by b opened table =
    table_head_fault b table
    and_then rows_fault b opened table
    and_then first_fault (flow_totals b (table_rows b table)) (flow_count b)
    and_then first_fault (finish_fault table (table_rows b table)) (flow_count b)

pub record TableJudged (b : Book) (opened : ℕ → Bool) (table before after : List ℕ) (j : Result ℕ Refusal) : Type 0 where
  pub verdict : verdict_by j ≡ fault_by b opened table
  pub cleared : work_zero slots after ≡ work_zero slots before
  pub area : IfOk j (λ _. after ≡ work_used slots (table_rows b table) before)
  pub late : IfOk j (λ late. late ≡ late_flows b (table_rows b table))

-- ---- a call's answer
-- of what the check found
abbrev pub answer_by : Result ℕ Refusal → CheckAnswer
answer_by (Ok late) = check_accepted late
answer_by (Err e) = check_refused (fault_number e.fault) e.flow e.job
