-- What a call of the planner leaves behind, and what its last part asks. Assumes nothing.
use Rattle.std.specs.Prelude.{◌≡◌, ℕ, ◌≤◌, List, Result, Ok, Err}
use Rattle.rules.specs.declared.Refusal.{Refusal}
use Rattle.rules.specs.declared.PlanAnswer.{PlanAnswer}
use Rattle.rules.specs.Answers.{plan_refused}
use Rattle.rules.specs.Faults.{fault_number}
use Rattle.rules.specs.Limits.{slots}
use Rattle.rules.specs.Book.{Book}
use Rattle.rules.specs.Rows.{Row, work_zero}
use Rattle.rules.specs.Placing.{planned, plan}
use Rattle.rules.specs.Planner.{PlanOutcome, plan_outcome}
use Rattle.rules.specs.Table.{table_length}
use Rattle.planner.specs.Whole.{ended_of}

-- the answer that a call gives, a refusal by its number and place
abbrev pub answer_by : Result PlanAnswer Refusal → PlanAnswer
answer_by (Ok a) = a
answer_by (Err r) = plan_refused (fault_number r.fault) r.flow r.job

-- answer, output and work area are those of the outcome
pub record Leaves (o : PlanOutcome) (answer : PlanAnswer) (output area : List ℕ) : Type 0 where
  pub answers : answer ≡ o.answer
  pub output_left : output ≡ o.output
  pub area_left : area ≡ o.area

-- the outcome of a book and its calendar, which pass, with a work area that is long enough
abbrev pub plan_of : Book → List ℕ → List ℕ → PlanOutcome
plan_of b out area = plan_outcome b out area (plan b)

-- all flows are placed once, to count the rows: the output is as it was, and the area is cleared
pub record Counted (b : Book) (out area out' area' : List ℕ) (r : Result ℕ Refusal) : Type 0 where
  pub ends : r ≡ ended_of b (plan b)
  pub fits : (rows : List Row) → plan b ≡ planned rows → table_length b rows ≤ 201326728
  pub output_kept : out' ≡ out
  pub area_zero : area' ≡ work_zero slots area

-- all flows of the book are planned, and their table is `size` bytes long, which four bytes can hold
pub record Sized (b : Book) (size : ℕ) : Type 0 where
  pub rows : List Row
  pub planned_rows : plan b ≡ planned rows
  pub size_of : size ≡ table_length b rows
  pub size_most : size ≤ 201326728
