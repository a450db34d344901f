-- The lowest set bit of a number that is not 0: `count_trailing_zeros` is its index, and `b & (b - 1)` has the bits
-- above it. Assumes nothing.
use mathlib.Core.Path.{◌≡◌, refl, sym, ap, ◌∙◌}
use mathlib.Core.Bool.{true, false}
use Prim.Native.Nat.{ℕ, zero, suc, ◌+◌, ◌*◌, ◌-◌, ◌/◌, ◌%◌, ◌^◌, ◌≤◌, ◌<◌}
use native.Mathlib.Nat.{zero-lt-suc, pow-suc, mul_assoc, mod-lt, mod_self, div-add-mod', mul-add-mod_self_right}
use native.Mathlib.Numerals.{add-one}
use native.Mathlib.Omega.{arith}
use lib.Pow.{pow-add, pow_pos, shr_lt, shr-shr, shl-shr, high}
use lib.Bits.{bit_and, and_block, and_self, and_mask, shifted_even}
use lib.Count.{count_trailing_zeros, under}
use Rattle.rules.specs.Book.{has_bit}

-- z is the index of b's lowest set bit, and c has the others
pub record Lowest (b z c : ℕ) : Type 0 where
  pub set : has_bit b z ≡ true
  pub below : (i : ℕ) → i < z → has_bit b i ≡ false
  pub off : (i : ℕ) → i ≤ z → has_bit c i ≡ false
  pub kept : (i : ℕ) → z < i → has_bit c i ≡ has_bit b i

-- a multiple of 2 ^ m has no bit below m
no-bit_below : (a m i : ℕ) → i < m → has_bit (a * 2 ^ m) i ≡ false
unfolding has_bit
no-bit_below a m i h =
    let j = m - suc i in
    let e : m ≡ suc j + i = omega arith in
    let left : a * 2 ^ m ≡ a * 2 ^ suc j * 2 ^ i = ap (λ (k : ℕ). a * 2 ^ k) e ∙ ap (a *◌) (pow-add 2 (suc j) i) ∙ sym (mul_assoc a (2 ^ suc j) (2 ^ i)) in
    rw (left, shl-shr (a * 2 ^ suc j) i, shifted_even a j) refl

-- the bits from m on are those of the quotient by 2 ^ m
same_above : (b c m i : ℕ) → c / 2 ^ m ≡ b / 2 ^ m → m ≤ i → has_bit c i ≡ has_bit b i
unfolding has_bit
same_above b c m i same h =
    let e : m + (i - m) ≡ i = omega arith in
    rw (← e, ← shr-shr c m (i - m), ← shr-shr b m (i - m), same) refl

-- b has the bits of q above z, one at z, and none below
module _ (b z q : ℕ) (e : b ≡ q * 2 ^ suc z + 2 ^ z) where
  low : 2 ^ z < 2 ^ suc z
  low = omega (arith, pow-suc 2 z, pow_pos z)

  multiple : b ≡ (q * 2 + 1) * 2 ^ z
  multiple = omega (arith, e, ap (q *◌) (pow-suc 2 z))

  above : b / 2 ^ suc z ≡ q
  above = ap (◌/ 2 ^ suc z) e ∙ high q (suc z) low

  without : bit_and b (b - 1) ≡ q * 2 ^ suc z
  without =
      let less : b - 1 ≡ q * 2 ^ suc z + (2 ^ z - 1) = omega (arith, e, pow_pos z) in
      rw (less, e, and_block (suc z) q q (2 ^ z) (2 ^ z - 1) low (omega (arith, low)), and_self q, and_mask (2 ^ z) z, mod_self (2 ^ z)) (omega arith)

  lowest-at : Lowest b z (bit_and b (b - 1))
  unfolding has_bit
  lowest-at =
      record {
        set = rw (multiple, shl-shr (q * 2 + 1) z, mul-add-mod_self_right q 2 1) refl;
        below = λ i h. rw multiple (no-bit_below (q * 2 + 1) z i h);
        off = λ i h. rw without (no-bit_below q (suc z) i (omega arith));
        kept = λ i h. rw without (same_above b (q * 2 ^ suc z) (suc z) i (shl-shr q (suc z) ∙ sym above) h);
      }

-- each number that is not 0 is of that form, at its trailing zeros
split_at : (w b : ℕ) → 0 < b → b < 2 ^ w → (q : ℕ) × (b ≡ q * 2 ^ suc (count_trailing_zeros w b) + 2 ^ count_trailing_zeros w b)
unfolding count_trailing_zeros
split_at zero b some most = absurd (omega arith)
split_at (suc w) b some most = go (b % 2) refl (λ h. split_at w (b / 2) h (shr_lt w 1 (rw (add-one w) most)))
  where
    go : (d : ℕ) → b % 2 ≡ d → (0 < b / 2 → (q : ℕ) × (b / 2 ≡ q * 2 ^ suc (count_trailing_zeros w (b / 2)) + 2 ^ count_trailing_zeros w (b / 2))) →
        (q : ℕ) × (b ≡ q * 2 ^ suc (under d (count_trailing_zeros w (b / 2))) + 2 ^ under d (count_trailing_zeros w (b / 2)))
    go zero e half =
        let r = half (omega (arith, div-add-mod' b 2)) in
        let z = count_trailing_zeros w (b / 2) in
        (r.0, omega (arith, div-add-mod' b 2, r.1, e, pow-suc 2 z, ap (r.0 *◌) (pow-suc 2 (suc z)) ∙ sym (mul_assoc r.0 (2 ^ suc z) 2)))
    go (suc d) e half = (b / 2, omega (arith, div-add-mod' b 2, mod-lt b (zero-lt-suc 1)))

pub lowest : (w b : ℕ) → 0 < b → b < 2 ^ w → Lowest b (count_trailing_zeros w b) (bit_and b (b - 1))
lowest w b some most = let s = split_at w b some most in lowest-at b (count_trailing_zeros w b) s.0 s.1
