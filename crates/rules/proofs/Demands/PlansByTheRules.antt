-- Demand 2, first half: where the planner answers 0, it writes the table of the plan, row for row, answers with its length and its late flows,
-- and leaves the use of its rows in the work area.
-- Of the cases of a call only that of the written table answers so. Assumes nothing.
use mathlib.Core.Path.{◌≡◌, refl, ap, ◌∙◌}
use Prim.Native.Nat.{ℕ, ◌≤◌}
use mathlib.Core.List.{List}
use native.Mathlib.Omega.{arith}
use lib.ListN.{length}
use Rattle.rules.specs.Limits.{work_bytes}
use Rattle.rules.specs.Book.{Book}
use Rattle.rules.specs.Reading.{read, read_book}
use Rattle.rules.specs.Placing.{plan}
use Rattle.rules.specs.Planner.{PlanOutcome, plan_outcome, plan_call}
use Rattle.rules.specs.Demands.Planner.{WritesPlan, PlansByTheRules, PlanNumbers}
use Rattle.rules.proofs.Calls.CallCases.{PlanCase, short_11, stopped_12, long_13, written_0, call_case, call_plans, outcome-infeasible, outcome-longer, outcome-written}

pub writes-plan : {b : Book} {out area : List ℕ} {o : PlanOutcome} → PlanCase b out area o → o.answer.number ≡ 0 → WritesPlan b out area o
writes-plan (short_11 h) z = absurd (omega arith)
writes-plan (stopped_12 h f e) z = absurd (omega arith)
writes-plan (long_13 h rows e l) z = absurd (omega arith)
writes-plan (written_0 h rows e l) z = record {
  all_placed = rw e refl;
  no_place = (refl, refl);
  table = rw e refl;
  late_flows_is = rw e refl;
  table_length_is = rw e refl;
  work_area = rw e refl;
}

-- "row for row"
pub plans_by_the_rules : PlansByTheRules
unfolding PlansByTheRules
plans_by_the_rules book calendar out area b e = writes-plan (call_case book calendar out area b e)

-- ---- which number it is
module _ (book calendar out area : List ℕ) (b : Book) (reads : read_book book calendar ≡ read b) (room : work_bytes ≤ length area) where
  answered : {o : PlanOutcome} → plan_outcome b out area (plan b) ≡ o → (plan_call book calendar out area).answer ≡ o.answer
  answered e = ap (λ o. o.answer) (call_plans book calendar out area b reads room ∙ e)

pub plan_numbers : PlanNumbers
plan_numbers = record {
  infeasible_12 = λ book calendar out area b reads room f e. answered book calendar out area b reads room (outcome-infeasible b out area f e);
  longer_13 = λ book calendar out area b reads room rows e l. answered book calendar out area b reads room (outcome-longer b out area rows e l);
  fits_0 = λ book calendar out area b reads room rows e l. answered book calendar out area b reads room (outcome-written b out area rows e l);
}
