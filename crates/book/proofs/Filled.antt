-- A list that is filled from the front, at indices that it has. Assumes nothing.
use mathlib.Core.Path.{◌≡◌, refl, ◌∙◌}
use mathlib.Core.List.{List}
use Prim.Native.Nat.{ℕ, ◌+◌, ◌<◌}
use native.Mathlib.Nat.{not-suc-le-zero}
use native.Mathlib.Numerals.{add-one}
use native.Mathlib.Omega.{arith}
use lib.ListN.{length, get_or, set, length-set}
use lib.Seq.{get_or-set_same, get_or-set_other}
use Rattle.rules.proofs.Laws.Walks.{last_or}

-- a list as long as another, with P of each of its first n numbers
pub record Filled (P : ℕ → ℕ → Type 0) (n : ℕ) (before l : List ℕ) : Type 0 where
  pub size : length l ≡ length before
  pub values : (k : ℕ) → k < n → P k (get_or l k 0)

-- nothing is filled in yet
pub filled_none : (P : ℕ → ℕ → Type 0) (l : List ℕ) → Filled P 0 l l
filled_none P l = record { size = refl; values = λ k h. absurd (not-suc-le-zero h) }

-- the next number is filled in
pub filled_next : (P : ℕ → ℕ → Type 0) (n v : ℕ) (before l : List ℕ) → n < length before → Filled P n before l → P n v → Filled P (n + 1) before (set l n v)
filled_next P n v before l room filled p = record {
  size = length-set l n v ∙ filled.size;
  values = λ k h.
      last_or k n (rw add-one at h)
      (λ e. rw (e, get_or-set_same l n v 0 (rw filled.size room)) p)
      (λ b. rw (get_or-set_other l n k v 0 (λ q. omega arith)) (filled.values k b));
}
