-- The bits of a number, read by halving it: after k halvings the lowest bit is bit k, and where 0 is left, no later bit is set.
-- Assumes nothing.
use mathlib.Core.Path.{◌≡◌, refl, ap, ◌∙◌}
use mathlib.Core.Bool.{Bool, true, false}
use Prim.Native.Nat.{ℕ, ◌+◌, ◌-◌, ◌/◌, ◌%◌, ◌^◌, ◌≤◌, ◌<◌}
use mathlib.Core.Logic.{◌⊎◌, inl, inr}
use native.Mathlib.Nat.{div-one, zero-div, div-eq_of_lt, pow-le-pow_right}
use native.Mathlib.Omega.{arith}
use lib.Dec.{eqb}
use lib.Pow.{shr-shr}
use borrow.Author.Tests.{eqb-true}
use Rattle.rules.specs.Book.{has_bit}
use Rattle.rules.proofs.Laws.Division.{lt-or_ge}

abbrev lowest : ℕ → Bool
lowest b = eqb (b % 2) 1

pub lowest-bit : (b : ℕ) → has_bit b 0 ≡ eqb (b % 2) 1
unfolding has_bit
lowest-bit b = ap lowest (div-one b)

-- b is what is left of p after k halvings
module _ (p b k : ℕ) (left : b ≡ p / 2 ^ k) where
  pub bit_of-left : has_bit b 0 ≡ has_bit p k
  unfolding has_bit
  bit_of-left = ap lowest (div-one b ∙ left)

  pub left-next : b / 2 ≡ p / 2 ^ (k + 1)
  left-next = ap (◌/ 2) left ∙ shr-shr p k 1

  pub no-bit-left : b ≡ 0 → (i : ℕ) → k ≤ i → has_bit p i ≡ false
  unfolding has_bit
  no-bit-left none i h =
      let e : k + (i - k) ≡ i = omega arith in
      let zero_left : p / 2 ^ i ≡ 0 = rw (← e, ← shr-shr p k (i - k), ← left, none) (zero-div (2 ^ (i - k))) in
      ap lowest zero_left

  -- where something is left of a number below 2 ^ n, there were fewer than n halvings
  pub left_below : (n : ℕ) → p < 2 ^ n → (b ≡ 0 → ⊥) → k < n
  left_below n h some = go (lt-or_ge k n)
    where
      go : (k < n) ⊎ (n ≤ k) → k < n
      go (inl l) = l
      go (inr l) = absurd (some (left ∙ div-eq_of_lt (omega (arith, pow-le-pow_right {n = 2} (omega arith) l))))

-- a bit of a number below 2 ^ n is one of the lowest n
pub bit_below : (p n k : ℕ) → p < 2 ^ n → has_bit p k ≡ true → k < n
unfolding has_bit
bit_below p n k l e = left_below p (p / 2 ^ k) k refl n l (λ none. omega (arith, eqb-true (p / 2 ^ k % 2) 1 e))
