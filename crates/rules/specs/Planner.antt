-- A call of the planner: its answer, and the output and the work area that it leaves, for every book, calendar, output and work area. Assumes nothing.
use Rattle.std.specs.Prelude.{ℕ, List, ◌++◌, length, drop, ltb, if◌then◌else◌}
use Rattle.rules.specs.declared.PlanAnswer.{PlanAnswer}
use Rattle.rules.specs.Answers.{none, plan_accepted, plan_refused}
use Rattle.rules.specs.Limits.{slots, work_bytes}
use Rattle.rules.specs.Book.{Book}
use Rattle.rules.specs.Reading.{Reading, read, unread, read_book}
use Rattle.rules.specs.Rows.{late_flows, work_used, work_zero}
use Rattle.rules.specs.Placing.{Plan, planned, infeasible, plan}
use Rattle.rules.specs.Table.{table_length, table_bytes}

pub record PlanOutcome : Type 0 where
  pub answer : PlanAnswer
  pub output : List ℕ
  pub area : List ℕ

-- "The planner goes on with 12, 13": "infeasible by rule 6", with that flow; "table longer than the lent output"; otherwise the table,
-- and "Output past that length is untouched."
unfoldable pub plan_outcome : Book → List ℕ → List ℕ → Plan → PlanOutcome
plan_outcome b out area (infeasible f) = record { answer = plan_refused 12 f none; output = out; area = work_zero slots area }
plan_outcome b out area (planned rows) =
    if ltb (length out) (table_length b rows)
    then record { answer = plan_refused 13 none none; output = out; area = work_zero slots area }
    else record {
      answer = plan_accepted (late_flows b rows) (table_length b rows);
      output = table_bytes b rows ++ drop (table_length b rows) out;
      area = work_used slots rows area;
    }

-- 1 to 10, 22 and 24 by the reading; then "work area too short", 11. "A fault found before or by 11 leaves the work area as it was"
unfoldable pub plan_reading : List ℕ → List ℕ → Reading → PlanOutcome
plan_reading out area (unread n f j) = record { answer = plan_refused n f j; output = out; area = area }
plan_reading out area (read b) =
    if ltb (length area) work_bytes
    then record { answer = plan_refused 11 none none; output = out; area = area }
    else plan_outcome b out area (plan b)

unfoldable pub plan_call : List ℕ → List ℕ → List ℕ → List ℕ → PlanOutcome
plan_call book calendar out area = plan_reading out area (read_book book calendar)
