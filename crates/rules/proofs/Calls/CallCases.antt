-- The cases of a call with a book that is read, stated once: a work area that is too short, 11, or long enough; and for the planner then 12, 13 or the
-- written table, each with its answer, output and area, and with what its number says. Assumes nothing.
use mathlib.Core.Path.{◌≡◌, refl}
use mathlib.Core.Logic.{⊎_elim}
use Prim.Native.Nat.{ℕ, ◌≤◌, ◌<◌}
use native.Mathlib.Omega.{arith}
use mathlib.Core.List.{List, ◌++◌}
use lib.ListN.{length, drop}
use lib.Dec.{ltb}
use borrow.Author.Tests.{lt-ltb, le-ltb}
use Rattle.std.specs.Prelude.{if◌then◌else◌}
use Rattle.rules.specs.Answers.{none, plan_accepted, plan_refused, check_refused}
use Rattle.rules.specs.Limits.{slots, work_bytes}
use Rattle.rules.specs.Book.{Book}
use Rattle.rules.specs.Reading.{read, read_book}
use Rattle.rules.specs.Rows.{Row, late_flows, work_used, work_zero}
use Rattle.rules.specs.Placing.{Plan, planned, infeasible, rows_of, plan}
use Rattle.rules.specs.Table.{table_length, table_bytes}
use Rattle.rules.specs.Planner.{PlanOutcome, plan_outcome, plan_reading, plan_call}
use Rattle.rules.specs.Check.{table_fault, CheckOutcome, check_outcome, check_reading}
use Rattle.rules.proofs.Laws.Division.{lt-or_ge}

-- what holds where a length is too short, and where it is long enough, holds of the choice between the two
pub by_length : {A : Type 0} (X : A → Type 0) (n least : ℕ) (short enough : A) → (n < least → X short) → (least ≤ n → X enough) →
    X (if ltb n least then short else enough)
by_length X n least short enough s e =
    ⊎_elim (λ h. rw (lt-ltb n least h) (s h)) (λ h. rw (le-ltb n least h) (e h)) (lt-or_ge n least)

-- ---- the check: 11, or by the table's first fault
pub check_cases : (b : Book) (s area : List ℕ) (X : CheckOutcome → Type 0) →
    (length area < work_bytes → X (record { answer = check_refused 11 none none; area = area })) →
    (work_bytes ≤ length area → X (check_outcome b s area (table_fault b s))) → X (check_reading s area (read b))
unfolding check_reading
check_cases b s area X = by_length X (length area) work_bytes _ _

-- ---- the planner
-- refused after 11: nothing is written, and the area is zeroed
abbrev pub refused_after : ℕ → ℕ → List ℕ → List ℕ → PlanOutcome
refused_after n f out area = record { answer = plan_refused n f none; output = out; area = work_zero slots area }

-- the table of rows is written, and the area holds their use
abbrev pub rows_written : Book → List Row → List ℕ → List ℕ → PlanOutcome
rows_written b rows out area = record {
  answer = plan_accepted (late_flows b rows) (table_length b rows);
  output = table_bytes b rows ++ drop (table_length b rows) out;
  area = work_used slots rows area;
}

-- "work area too short"; "infeasible by rule 6", with that flow; "table longer than the lent output"; the table
pub data PlanCase (b : Book) (out area : List ℕ) : PlanOutcome → Type 0 where
  short_11 : length area < work_bytes → PlanCase b out area (record { answer = plan_refused 11 none none; output = out; area = area })
  stopped_12 : work_bytes ≤ length area → (f : ℕ) → plan b ≡ infeasible f → PlanCase b out area (refused_after 12 f out area)
  long_13 : work_bytes ≤ length area → (rows : List Row) → plan b ≡ planned rows → length out < table_length b rows →
      PlanCase b out area (refused_after 13 none out area)
  written_0 : work_bytes ≤ length area → (rows : List Row) → plan b ≡ planned rows → table_length b rows ≤ length out →
      PlanCase b out area (rows_written b rows out area)

module _ (b : Book) (out area : List ℕ) where
  -- where it is known how the placing ended
  pub outcome-infeasible : (f : ℕ) → plan b ≡ infeasible f → plan_outcome b out area (plan b) ≡ refused_after 12 f out area
  unfolding plan_outcome
  outcome-infeasible f e = rw e refl

  pub outcome-longer : (rows : List Row) → plan b ≡ planned rows → length out < table_length b rows →
      plan_outcome b out area (plan b) ≡ refused_after 13 none out area
  unfolding plan_outcome
  outcome-longer rows e l = rw (e, lt-ltb (length out) (table_length b rows) l) refl

  pub outcome-written : (rows : List Row) → plan b ≡ planned rows → table_length b rows ≤ length out →
      plan_outcome b out area (plan b) ≡ rows_written b rows out area
  unfolding plan_outcome
  outcome-written rows e l = rw (e, le-ltb (length out) (table_length b rows) l) refl

  plan_case : work_bytes ≤ length area → (p : Plan) → plan b ≡ p → PlanCase b out area (plan_outcome b out area p)
  unfolding plan_outcome
  plan_case room (infeasible f) e = stopped_12 room f e
  plan_case room (planned rows) e = by_length (PlanCase b out area) (length out) (table_length b rows) _ _ (long_13 room rows e) (written_0 room rows e)

  -- these are all
  pub reading_case : PlanCase b out area (plan_reading out area (read b))
  unfolding plan_reading
  reading_case = by_length (PlanCase b out area) (length area) work_bytes _ _ short_11 (λ room. plan_case room (plan b) refl)

-- a call goes by the values of the book
module _ (book calendar out area : List ℕ) (b : Book) (reads : read_book book calendar ≡ read b) where
  pub call_case : PlanCase b out area (plan_call book calendar out area)
  unfolding plan_call
  call_case = rw reads (reading_case b out area)

  pub call_plans : work_bytes ≤ length area → plan_call book calendar out area ≡ plan_outcome b out area (plan b)
  unfolding plan_call plan_reading
  call_plans h = rw (reads, le-ltb (length area) work_bytes h) refl

-- ---- what the number says
module _ {b : Book} {out area : List ℕ} where
  pub plan-number_0 : {o : PlanOutcome} → PlanCase b out area o → o.answer.number ≡ 0 → table_length b (rows_of (plan b)) ≤ length out
  plan-number_0 (short_11 h) z = absurd (omega arith)
  plan-number_0 (stopped_12 h f e) z = absurd (omega arith)
  plan-number_0 (long_13 h rows e l) z = absurd (omega arith)
  plan-number_0 (written_0 h rows e l) z = rw e l

  pub plan-number_12 : {o : PlanOutcome} → PlanCase b out area o → o.answer.number ≡ 12 →
      (f : ℕ) × (plan b ≡ infeasible f) × (o ≡ refused_after 12 f out area)
  plan-number_12 (short_11 h) z = absurd (omega arith)
  plan-number_12 (stopped_12 h f e) z = (f, e, refl)
  plan-number_12 (long_13 h rows e l) z = absurd (omega arith)
  plan-number_12 (written_0 h rows e l) z = absurd (omega arith)

  pub plan-number_13 : {o : PlanOutcome} → PlanCase b out area o → o.answer.number ≡ 13 →
      (plan b ≡ planned (rows_of (plan b))) × (length out < table_length b (rows_of (plan b))) × (o.output ≡ out)
  plan-number_13 (short_11 h) z = absurd (omega arith)
  plan-number_13 (stopped_12 h f e) z = absurd (omega arith)
  plan-number_13 (long_13 h rows e l) z = (rw e refl, rw e l, refl)
  plan-number_13 (written_0 h rows e l) z = absurd (omega arith)
