-- Demand 3, as the specification states it of the planner's outcome: for every book that passes, every cut, every output and every work area
-- that is long enough. A cut book is a book of its own, so the theorems on values hold of it. Assumes nothing.
use mathlib.Core.Path.{◌≡◌, refl}
use mathlib.Core.Logic.{◌⊎◌, inl, inr}
use Prim.Native.Nat.{ℕ, ◌≤◌}
use mathlib.Core.List.{List}
use native.Mathlib.Omega.{arith}
use lib.ListN.{length}
use Rattle.rules.specs.Answers.{none}
use Rattle.rules.specs.Limits.{work_bytes}
use Rattle.rules.specs.Book.{Book, InRange}
use Rattle.rules.specs.Reading.{version_of, read, read_book, book_bytes}
use Rattle.rules.specs.Placing.{planned, rows_of, plan}
use Rattle.rules.specs.Planner.{PlanOutcome}
use Rattle.rules.specs.Cut.{cut}
use Rattle.rules.specs.Demands.Planner.{PlannerOwes, PlannedWell, Demand3, OfWholeBook}
use Rattle.rules.proofs.Reading.Passing.{read_in-range}
use Rattle.rules.proofs.Reading.Versions.{read_writable, read-beside}
use Rattle.rules.proofs.Reading.CutBook.{cut-calendar, cut_in-range, cut_writable, cut-whole}
use Rattle.rules.proofs.Demands.Demand3Values.{planned-well, infeasible_proves}
use Rattle.rules.proofs.Calls.CallCases.{PlanCase, short_11, stopped_12, long_13, written_0, call_case, plan-number_12, plan-number_13}
use Rattle.rules.proofs.Demands.PlansByTheRules.{writes-plan}

module _ (c : Book) (range : InRange c) (out area : List ℕ) (room : work_bytes ≤ length area) where
  -- "Where the work area is long enough the answer is 0, 12 or 13."
  answered : {o : PlanOutcome} → PlanCase c out area o → (o.answer.number ≡ 0) ⊎ ((o.answer.number ≡ 12) ⊎ (o.answer.number ≡ 13))
  answered (short_11 h) = absurd (omega arith)
  answered (stopped_12 h f e) = inr (inl refl)
  answered (long_13 h rows e l) = inr (inr refl)
  answered (written_0 h rows e l) = inl refl

  -- the places of 12 and 13
  place_of_12 : {o : PlanOutcome} → PlanCase c out area o → o.answer.number ≡ 12 → o.answer.job ≡ none
  place_of_12 (short_11 h) z = refl
  place_of_12 (stopped_12 h f e) z = refl
  place_of_12 (long_13 h rows e l) z = refl
  place_of_12 (written_0 h rows e l) z = refl

  place_of_13 : {o : PlanOutcome} → PlanCase c out area o → o.answer.number ≡ 13 → (o.answer.flow ≡ none) × (o.answer.job ≡ none)
  place_of_13 (short_11 h) z = (refl, refl)
  place_of_13 (stopped_12 h f e) z = absurd (omega arith)
  place_of_13 (long_13 h rows e l) z = (refl, refl)
  place_of_13 (written_0 h rows e l) z = (refl, refl)

  well : plan c ≡ planned (rows_of (plan c)) → PlannedWell c (rows_of (plan c))
  well = planned-well c range (rows_of (plan c))

  owed : {o : PlanOutcome} → PlanCase c out area o → PlannerOwes c out o
  owed p = record {
    answers = answered p;
    planned_0 = λ z. well (writes-plan p z).all_placed;
    planned_13 = λ z. well (plan-number_13 p z).0;
    written = λ z. (writes-plan p z).table;
    too_long = λ z. ((plan-number_13 p z).1, (plan-number_13 p z).2);
    place_12 = place_of_12 p;
    place_13 = place_of_13 p;
    infeasible_flow = λ z. let w = plan-number_12 p z in rw w.2 (infeasible_proves c range w.0 w.1);
  }

-- the cut book of a book that is read is "a book of its own", in the same version and beside the same calendar
pub read-cut : (book calendar : List ℕ) (b : Book) → read_book book calendar ≡ read b → (k : ℕ) →
    read_book (book_bytes (version_of book) (cut b k)) calendar ≡ read (cut b k)
read-cut book calendar b e k =
    read-beside book calendar b e (version_of book) (cut b k) (cut_in-range b k (read_in-range book calendar b e))
    (cut_writable b k (version_of book) (read_writable book calendar b e)) (cut-calendar b k)

pub demand_3 : Demand3
unfolding Demand3
demand_3 book calendar b e k l out area h =
    owed (cut b k) (cut_in-range b k (read_in-range book calendar b e)) out area h
    (call_case (book_bytes (version_of book) (cut b k)) calendar out area (cut b k) (read-cut book calendar b e k))

pub of_whole_book : OfWholeBook
of_whole_book = record {
  cut_after_all = cut-whole;
  owes = λ book calendar b e out area h. owed b (read_in-range book calendar b e) out area h (call_case book calendar out area b e);
}
