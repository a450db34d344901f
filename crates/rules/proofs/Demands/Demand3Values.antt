-- Demand 3 on values: what a plan of a book in range guarantees, and what its refusal proves. The theorems are stated of the rules' own `plan`;
-- validity is proved in PlannedValid, the refusal in Infeasible. Assumes nothing.
use mathlib.Core.Path.{◌≡◌}
use Prim.Native.Nat.{ℕ, ◌^◌, ◌≤◌, ◌<◌}
use mathlib.Core.List.{List}
use native.Mathlib.Omega.{arith}
use Rattle.rules.specs.Book.{Book, flow_count, flow_of, InRange}
use Rattle.rules.specs.Rows.{Row, finish_of}
use Rattle.rules.specs.Schedule.{Schedule, every_flow, Valid, EndsBy, schedule_of}
use Rattle.rules.specs.Placing.{planned, infeasible, plan}
use Rattle.rules.specs.Demands.Planner.{PlannedWell, NoneOnTime}
use Rattle.rules.proofs.Rows.RowSums.{finish-ends}
use Rattle.rules.proofs.Placing.PlannedRows.{placing_stops}
use Rattle.rules.proofs.Placing.PlannedValid.{all_placed, planned-valid, planned_in-slots, first-finish-least, first-finish-within-twice, first-finish_in-slots}
use Rattle.rules.proofs.Placing.Infeasible.{stopped_proves}

-- "their rows are a valid schedule of them .. and each ends within twice its deadline"
pub planned-well : (b : Book) → InRange b → (rows : List Row) → plan b ≡ planned rows → PlannedWell b rows
planned-well b range rows e = record {
  valid = planned-valid b range rows e;
  ends = λ f l. finish-ends rows f (finish_of rows f) (omega arith);
  finish_least = λ f d l. first-finish-least b range (flow_count b) rows (omega arith) (all_placed b range rows e) f d;
  within_twice = λ f l. first-finish-within-twice b range (flow_count b) rows (omega arith) (all_placed b range rows e) f;
  in_slots = planned_in-slots b range rows e;
}

-- each finish fits its field in a table
pub planned-finish-fits : (b : Book) → InRange b → (rows : List Row) → plan b ≡ planned rows → (f : ℕ) → f < flow_count b → finish_of rows f < 256 ^ 2
planned-finish-fits b range rows e f l = omega (arith, first-finish_in-slots b range (flow_count b) rows (omega arith) (all_placed b range rows e) f)

-- "no whole-slot schedule of that flow and those before it, whoever made it, keeps the same rules and ends each of them by its own deadline"
pub infeasible_proves : (b : Book) → InRange b → (f : ℕ) → plan b ≡ infeasible f → (f < flow_count b) × NoneOnTime b f
infeasible_proves b range f e = stopped_proves b range (flow_count b) f (omega arith) (placing_stops b (flow_count b) f (unfold plan in e))

-- a plan with every finish at most its deadline is a schedule on time: what a refusal denies can be had
pub on_time-plan : (b : Book) → InRange b → (rows : List Row) → plan b ≡ planned rows →
    ((f : ℕ) → f < flow_count b → finish_of rows f ≤ (flow_of b f).deadline) →
    (σ : Schedule) × Valid b every_flow σ × ((f : ℕ) → f < flow_count b → EndsBy σ f (flow_of b f).deadline)
on_time-plan b range rows e h = (schedule_of rows, planned-valid b range rows e, λ f l. finish-ends rows f (flow_of b f).deadline (h f l))
