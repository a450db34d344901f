-- Rows that stand in one slot: one for each of the jobs below m that has processors there, g i of them for job i. They
-- use the sum of g in their slot and nothing in another, and the flow's finish is one slot later. Assumes nothing.
use mathlib.Core.Path.{◌≡◌, refl, sym, ◌∙◌}
use mathlib.Core.Logic.{◌⊎◌, inl, inr}
use Prim.Native.Nat.{ℕ, zero, suc, ◌+◌, ◌≤◌, ◌<◌, max}
use native.Mathlib.Nat.{not-suc-le-zero}
use native.Mathlib.Omega.{arith}
use mathlib.Core.List.{List, [], ◌∷◌, ◌++◌}
use lib.ListN.{length, length-append}
use lib.Dec.{eqb}
use borrow.Author.Tests.{eq-eqb, ne_eqb}
use Rattle.rules.specs.Walks.{sum_to, join_from}
use Rattle.rules.specs.Rows.{Row, row_for, used_in, finish_of}
use Rattle.rules.proofs.Laws.Division.{lt-or_ge}
use Rattle.rules.proofs.Laws.Sums.{sum_ext, sum-nothing}
use Rattle.rules.proofs.Laws.Walks.{join_last}
use Rattle.place.proofs.Output.{row_for-none}
use Rattle.rules.proofs.Rows.FlowRows.{sum_where_join, row_counts, row_does-not-count}

pub finish-nothing : (f : ℕ) → finish_of [] f ≡ 0
unfolding finish_of
finish-nothing f = refl

pub finish-append : (rows more : List Row) (f : ℕ) → finish_of (rows ++ more) f ≡ max (finish_of rows f) (finish_of more f)
unfolding finish_of
finish-append [] more f = omega arith
finish-append (r ∷ rs) more f = omega (arith, finish-append rs more f)

-- ---- one row
row-finish : (t f i n : ℕ) → 0 < n → finish_of (row_for t f i n) f ≡ suc t
unfolding row_for finish_of
row-finish t f i zero l = absurd (not-suc-le-zero l)
row-finish t f i (suc n) l = rw (eq-eqb f f refl) (omega arith)

row-finish-le : (t f i n : ℕ) → finish_of (row_for t f i n) f ≤ suc t
unfolding row_for finish_of
row-finish-le t f i zero = omega arith
row-finish-le t f i (suc n) = rw (eq-eqb f f refl) (omega arith)

row-few : (t f i n : ℕ) → length (row_for t f i n) ≤ 1
unfolding row_for
row-few t f i zero = omega arith
row-few t f i (suc n) = omega arith

-- ---- the rows of the jobs below m
unfoldable pub rows_of_slot : ℕ → ℕ → (ℕ → ℕ) → ℕ → List Row
rows_of_slot t f g m = join_from (λ i. row_for t f i (g i)) m 0

module _ (t f : ℕ) (g : ℕ → ℕ) where
  pub slot-rows-none : rows_of_slot t f g 0 ≡ []
  unfolding rows_of_slot join_from
  slot-rows-none = refl

  pub slot-rows_next : (m : ℕ) → rows_of_slot t f g (suc m) ≡ rows_of_slot t f g m ++ row_for t f m (g m)
  unfolding rows_of_slot
  slot-rows_next m = join_last _ m

  pub slot-rows-few : (m : ℕ) → length (rows_of_slot t f g m) ≤ m
  slot-rows-few zero = rw slot-rows-none (omega arith)
  slot-rows-few (suc m) = rw (slot-rows_next m, length-append) (omega (arith, slot-rows-few m, row-few t f m (g m)))

  pub slot-rows-used : (m : ℕ) → used_in (rows_of_slot t f g m) t ≡ sum_to g m
  unfolding rows_of_slot used_in
  slot-rows-used m =
      sum_where_join (λ r. eqb r.slot t) (λ i. row_for t f i (g i)) m
      ∙ sum_ext _ g m (λ i l. row_counts (λ r. eqb r.slot t) t f i (g i) (eq-eqb t t refl))

  pub slot-rows-elsewhere : (m u : ℕ) → (u ≡ t → ⊥) → used_in (rows_of_slot t f g m) u ≡ 0
  unfolding rows_of_slot used_in
  slot-rows-elsewhere m u ne =
      sum_where_join (λ r. eqb r.slot u) (λ i. row_for t f i (g i)) m
      ∙ sum-nothing _ m (λ i l. row_does-not-count (λ r. eqb r.slot u) t f i (g i) (ne_eqb t u (λ e. ne (sym e))))

  pub slot-rows-finish-le : (m : ℕ) → finish_of (rows_of_slot t f g m) f ≤ suc t
  slot-rows-finish-le zero = rw slot-rows-none (omega (arith, finish-nothing f))
  slot-rows-finish-le (suc m) =
      rw (slot-rows_next m, finish-append (rows_of_slot t f g m) (row_for t f m (g m)) f)
      (omega (arith, slot-rows-finish-le m, row-finish-le t f m (g m)))

  -- where some job has processors
  pub slot-rows-finish : (m : ℕ) → 0 < sum_to g m → finish_of (rows_of_slot t f g m) f ≡ suc t
  unfolding sum_to
  slot-rows-finish zero l = absurd (not-suc-le-zero l)
  slot-rows-finish (suc m) l =
      rw (slot-rows_next m, finish-append (rows_of_slot t f g m) (row_for t f m (g m)) f) (go (lt-or_ge 0 (sum_to g m)) l (slot-rows-finish m))
    where
      go : (0 < sum_to g m) ⊎ (sum_to g m ≤ 0) → 0 < sum_to g m + g m → (0 < sum_to g m → finish_of (rows_of_slot t f g m) f ≡ suc t) →
          max (finish_of (rows_of_slot t f g m) f) (finish_of (row_for t f m (g m)) f) ≡ suc t
      go (inl some) h ih = omega (arith, ih some, row-finish-le t f m (g m))
      go (inr none) h ih = omega (arith, slot-rows-finish-le m, row-finish t f m (g m) (omega arith))

  pub slot-rows-nothing : (m : ℕ) → ((i : ℕ) → i < m → g i ≡ 0) → rows_of_slot t f g m ≡ []
  slot-rows-nothing zero z = slot-rows-none
  slot-rows-nothing (suc m) z = rw (slot-rows_next m, slot-rows-nothing m (λ i l. z i (omega arith)), row_for-none t f m (g m) (z m (omega arith))) refl
