-- Demand 2 of the table check: what it accepts, and that it accepts the plans. Assumes nothing.
use Rattle.std.specs.Prelude.{◌≡◌, ℕ, ◌≤◌, ◌<◌, false, List, length, take, get_or}
use Rattle.rules.specs.Verdicts.{Pass}
use Rattle.rules.specs.Fields.{AllBytes}
use Rattle.rules.specs.Answers.{check_accepted, check_refused}
use Rattle.rules.specs.Limits.{work_bytes, slots}
use Rattle.rules.specs.Calendar.{is_open}
use Rattle.rules.specs.Book.{Book, flow_count, flow_of, job_count}
use Rattle.rules.specs.Reading.{read, read_book}
use Rattle.rules.specs.Rows.{late_flows, Row, work_used}
use Rattle.rules.specs.Planner.{plan_call}
use Rattle.rules.specs.Check.{check_call, table_rows, no_row, row_fault, table_head_fault}
use Rattle.rules.specs.Schedule.{Schedule, every_flow, Valid, InSlots, schedule_rows, schedule_table}

-- ---- demand 2, second half: "The table check accepts exactly the tables that are valid schedules of the book, written in the stated order
-- under the right head and finishes."

-- the table is that of a valid schedule of the book, with this number of late flows
pub record IsScheduleTable (b : Book) (table : List ℕ) (late : ℕ) : Type 0 where
  pub schedule : Schedule
  pub valid : Valid b every_flow schedule
  pub in_slots : InSlots schedule
  pub written : table ≡ schedule_table b schedule
  pub late_flows_is : late ≡ late_flows b (schedule_rows b schedule)

pub record AcceptsExactly : Type 0 where
  pub only_schedules : (book calendar table area : List ℕ) (b : Book) → read_book book calendar ≡ read b → AllBytes table →
      (check_call book calendar table area).answer.number ≡ 0 → IsScheduleTable b table (check_call book calendar table area).answer.late
  pub every_schedule : (book calendar table area : List ℕ) (b : Book) (late : ℕ) → read_book book calendar ≡ read b → work_bytes ≤ length area →
      IsScheduleTable b table late → (check_call book calendar table area).answer ≡ check_accepted late
  -- "After acceptance each pair holds the processors in use in that slot." "Bytes past 16,384 are untouched."
  pub area_used : (book calendar table area : List ℕ) (b : Book) → read_book book calendar ≡ read b → (check_call book calendar table area).answer.number ≡ 0 →
      (check_call book calendar table area).area ≡ work_used slots (table_rows b table) area

-- ---- planner and check together: the check accepts every table that the planner writes, with the same number of late flows
unfoldable pub AcceptsPlans : Type 0
AcceptsPlans =
    (book calendar out area other : List ℕ) → (plan_call book calendar out area).answer.number ≡ 0 → work_bytes ≤ length other →
    (check_call book calendar (take (plan_call book calendar out area).answer.length (plan_call book calendar out area).output) other).answer
    ≡ check_accepted (plan_call book calendar out area).answer.late

-- ---- "25 when a row uses a shut slot, between 15 and 16, with the row's place" (02, Req 07)

-- row k of a table that is checked against a book
abbrev pub row_in : Book → List ℕ → ℕ → Row
row_in b table k = get_or (table_rows b table) k no_row

-- the row passes 15
pub record PassesFifteen (b : Book) (r : Row) : Type 0 where
  pub slot_in : r.slot < slots
  pub flow_in_is : r.flow < flow_count b
  pub job_in : r.job < job_count (flow_of b r.flow)
  pub processors_some : 0 < r.processors

-- the first row with a fault is row k: it uses a shut slot and passes 15
pub record ShutRow (b : Book) (table : List ℕ) (k : ℕ) : Type 0 where
  pub is_row : k < length (table_rows b table)
  pub before_pass : (j : ℕ) → j < k → row_fault b (is_open b.calendar) (table_rows b table) j ≡ Pass
  pub passes_15 : PassesFifteen b (row_in b table k)
  pub shut : is_open b.calendar (row_in b table k).slot ≡ false

-- 25 is said exactly then, of a table under a right head
pub record RowsShut : Type 0 where
  pub only_shut : (book calendar table area : List ℕ) (b : Book) → read_book book calendar ≡ read b → (check_call book calendar table area).answer.number ≡ 25 →
      (k : ℕ) × ShutRow b table k × ((check_call book calendar table area).answer ≡ check_refused 25 (row_in b table k).flow (row_in b table k).job)
  pub every_shut : (book calendar table area : List ℕ) (b : Book) (k : ℕ) → read_book book calendar ≡ read b → work_bytes ≤ length area →
      table_head_fault b table ≡ Pass → ShutRow b table k →
      (check_call book calendar table area).answer ≡ check_refused 25 (row_in b table k).flow (row_in b table k).job
