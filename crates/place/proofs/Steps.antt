-- One slot of a flow's placing, as a loop over slots takes it: what the progress and the rows are after one slot more,
-- what the rows of the first slots use, how many they are and when they end. Assumes nothing.
use mathlib.Core.Path.{◌≡◌, refl, ap}
use mathlib.Core.Logic.{◌⊎◌, inl, inr}
use Prim.Native.Nat.{ℕ, zero, suc, ◌+◌, ◌*◌, ◌≤◌, ◌<◌}
use native.Mathlib.Nat.{add-zero, add-suc}
use native.Mathlib.Omega.{arith}
use mathlib.Core.List.{List, [], ◌∷◌, ◌++◌, append-nil}
use lib.ListN.{length, length-append}
use borrow.Author.Tests.{eq-eqb, ne_eqb}
use Rattle.rules.specs.Walks.{join_from}
use Rattle.rules.specs.Book.{Flow, job_count}
use Rattle.rules.specs.PseudoJobs.{PseudoJob, work}
use Rattle.rules.specs.Rows.{Row, used_in, finish_of}
use Rattle.rules.specs.Placing.{share, given, after_slot, slot_rows, progress, flow_rows}
use Rattle.rules.proofs.Laws.Division.{lt-or_ge}
use Rattle.place.proofs.OneSlot.{rows_of_slot, finish-nothing, finish-append, slot-rows-few, slot-rows-finish-le}
use Rattle.place.specs.Flows.{standing}
use Rattle.rules.proofs.Chains.Ideal.{Sized}
use Rattle.rules.proofs.Rows.FlowRows.{grid-used, grid-not-used}
use Rattle.rules.proofs.Placing.Greedy.{given_in-le-free}
use Rattle.rules.proofs.Placing.PlacedFlow.{share_in, placed-together}
use Rattle.rules.proofs.Placing.PlannedRows.{flow-rows_grid}
use Rattle.rules.proofs.Laws.Walks.{join_last}

-- the rows of flow f in slot t
unfoldable pub rows_in : Flow → ℕ → (ℕ → ℕ) → ℕ → List Row
rows_in w f free t = slot_rows w f t (progress w free t).left (progress w free t).done (free t)

-- ---- the rows of one slot
module _ (w : Flow) (f t : ℕ) where
  pub slot-rows-served : (p : PseudoJob) (ps : List PseudoJob) (done free : ℕ) →
      slot_rows w f t (p ∷ ps) done free ≡ rows_of_slot t f (λ i. share w p i done (given w p done free)) (job_count w)
  unfolding slot_rows rows_of_slot
  slot-rows-served p ps done free = refl

  slot-few : (left : List PseudoJob) (done free : ℕ) → length (slot_rows w f t left done free) ≤ job_count w
  unfolding slot_rows
  slot-few [] done free = omega arith
  slot-few (p ∷ ps) done free = rw (slot-rows-served p ps done free) (slot-rows-few t f _ (job_count w))

  slot-finish-le : (left : List PseudoJob) (done free : ℕ) → finish_of (slot_rows w f t left done free) f ≤ suc t
  unfolding slot_rows finish_of
  slot-finish-le [] done free = omega arith
  slot-finish-le (p ∷ ps) done free = rw (slot-rows-served p ps done free) (slot-rows-finish-le t f _ (job_count w))

  -- the slot leaves work of the current pseudo-job, or finishes it
  pub after-slot-goes_on : (p : PseudoJob) (ps : List PseudoJob) (done free : ℕ) → done + given w p done free < work w p →
      after_slot w (p ∷ ps) done free ≡ standing (p ∷ ps) (done + given w p done free)
  unfolding after_slot
  after-slot-goes_on p ps done free l =
      rw (ne_eqb (done + given w p done free) (work w p) (λ (q : done + given w p done free ≡ work w p). omega arith)) refl

  pub after-slot-finishes : (p : PseudoJob) (ps : List PseudoJob) (done free : ℕ) → done + given w p done free ≡ work w p →
      after_slot w (p ∷ ps) done free ≡ standing ps 0
  unfolding after_slot
  after-slot-finishes p ps done free q = rw (eq-eqb (done + given w p done free) (work w p) q) refl

-- ---- slot after slot
module _ (w : Flow) (f : ℕ) (free : ℕ → ℕ) where
  flow-rows-none : flow_rows w f free 0 ≡ []
  unfolding flow_rows join_from
  flow-rows-none = refl

  pub flow-rows_next : (t : ℕ) → flow_rows w f free (suc t) ≡ flow_rows w f free t ++ rows_in w f free t
  unfolding flow_rows rows_in
  flow-rows_next t = join_last _ t

  pub rows_in-standing : (t : ℕ) (left : List PseudoJob) (done : ℕ) → progress w free t ≡ standing left done →
      rows_in w f free t ≡ slot_rows w f t left done (free t)
  unfolding rows_in
  rows_in-standing t left done e = rw e refl

  -- a flow that is finished stays so, and has no more rows
  pub stays-finished : (t k done : ℕ) → progress w free t ≡ standing [] done → progress w free (t + k) ≡ standing [] done
  unfolding progress after_slot
  stays-finished t zero done e = rw add-zero e
  stays-finished t (suc k) done e = rw add-suc (rw (stays-finished t k done e) refl)

  pub no-more_rows : (t k done : ℕ) → progress w free t ≡ standing [] done → flow_rows w f free (t + k) ≡ flow_rows w f free t
  unfolding slot_rows
  no-more_rows t zero done e = rw add-zero refl
  no-more_rows t (suc k) done e =
      rw (add-suc, flow-rows_next (t + k), rows_in-standing (t + k) [] done (stays-finished t k done e), append-nil)
      (no-more_rows t k done e)

  -- ---- what the rows of the first n slots use, how many they are, and when they end
  rows_in-few : (t : ℕ) → length (rows_in w f free t) ≤ job_count w
  unfolding rows_in
  rows_in-few t = slot-few w f t (progress w free t).left (progress w free t).done (free t)

  rows_in-finish-le : (t : ℕ) → finish_of (rows_in w f free t) f ≤ suc t
  unfolding rows_in
  rows_in-finish-le t = slot-finish-le w f t (progress w free t).left (progress w free t).done (free t)

  -- nothing from slot n on
  pub own-rows-earlier : (n t : ℕ) → n ≤ t → used_in (flow_rows w f free n) t ≡ 0
  own-rows-earlier n t l = rw (flow-rows_grid w f free n) (grid-not-used f (job_count w) n (share_in w free) t l)

  -- never more than is free
  pub own-rows-within-free : Sized w → (n t : ℕ) → used_in (flow_rows w f free n) t ≤ free t
  own-rows-within-free sized n t = go (lt-or_ge t n)
    where
      go : (t < n) ⊎ (n ≤ t) → used_in (flow_rows w f free n) t ≤ free t
      go (inl l) =
          omega (
            arith,
            ap (λ rows. used_in rows t) (flow-rows_grid w f free n),
            grid-used f (job_count w) n (share_in w free) t l,
            placed-together w free sized t,
            given_in-le-free w free t,
          )
      go (inr l) = omega (arith, own-rows-earlier n t l)

  pub own-rows-few : (n : ℕ) → length (flow_rows w f free n) ≤ job_count w * n
  own-rows-few zero = rw flow-rows-none (omega arith)
  own-rows-few (suc n) = rw (flow-rows_next n, length-append) (omega (arith, own-rows-few n, rows_in-few n))

  pub own-finish-le : (n : ℕ) → finish_of (flow_rows w f free n) f ≤ n
  own-finish-le zero = rw flow-rows-none (omega (arith, finish-nothing f))
  own-finish-le (suc n) =
      rw (flow-rows_next n, finish-append (flow_rows w f free n) (rows_in w f free n) f) (omega (arith, own-finish-le n, rows_in-finish-le n))
