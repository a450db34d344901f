-- Division with rest, in the forms that omega can use.
-- Assumes nothing.
use mathlib.Core.Path.{◌≡◌}
use mathlib.Core.Logic.{◌⊎◌, inl, inr}
use Prim.Native.Nat.{ℕ, zero, suc, ◌+◌, ◌*◌, ◌-◌, ◌/◌, ◌%◌, ◌≤◌, ◌<◌, min, suc-le-suc}
use native.Mathlib.Nat.{div-add-mod', mod-lt, mul-le-mul_right, le_of_suc-le-suc, div-lt_iff_lt-mul, le_antisymm, le_refl, le_of_mul-le-mul_right}
use native.Mathlib.Decide.{dec_lt}
use native.Mathlib.Omega.{arith}
use Rattle.rules.specs.Ideal.{quotient_up}

-- a comparison, as two cases
pub lt-or_ge : (a b : ℕ) → (a < b) ⊎ (b ≤ a)
lt-or_ge a b = go (dec_lt a b)
  where
    go : Dec (a < b) → (a < b) ⊎ (b ≤ a)
    go (yes h) = inl h
    go (no h) = inr (omega arith)

-- two numbers of which neither is less
pub neither-less : (m n : ℕ) → (m < n → ⊥) → (n < m → ⊥) → m ≡ n
neither-less m n p q = go (lt-or_ge m n) (lt-or_ge n m)
  where
    go : (m < n) ⊎ (n ≤ m) → (n < m) ⊎ (m ≤ n) → m ≡ n
    go (inl l) o = absurd (p l)
    go (inr l) (inl h) = absurd (q h)
    go (inr l) (inr h) = omega arith

-- order of quotient and rest is lexical
pub div-mod_mono : (x y : ℕ) {r : ℕ} → 0 < r → x ≤ y → (x / r < y / r) ⊎ ((x / r ≡ y / r) × (x % r ≤ y % r))
div-mod_mono x y {r} pos h = go (lt-or_ge (x / r) (y / r)) (lt-or_ge (y / r) (x / r))
  where
    go : (x / r < y / r) ⊎ (y / r ≤ x / r) → (y / r < x / r) ⊎ (x / r ≤ y / r) → (x / r < y / r) ⊎ ((x / r ≡ y / r) × (x % r ≤ y % r))
    go (inl l) o = inl l
    go (inr l) (inl g) = absurd (omega (arith, mul-le-mul_right r g, div-add-mod' x r, div-add-mod' y r, mod-lt y pos))
    go (inr l) (inr g) = inr (omega arith, omega (arith, mul-le-mul_right r l, div-add-mod' x r, div-add-mod' y r))

-- the rounded-up quotient is the least k with n ≤ k * d
pub quotient_up-le : (n k : ℕ) {d : ℕ} → 0 < d → n ≤ k * d → quotient_up n d ≤ k
unfolding quotient_up
quotient_up-le n k {d} pos h = le_of_suc-le-suc ((div-lt_iff_lt-mul {k = d} {x = n + (d - 1)} {y = suc k} pos).1 (omega arith))

pub le-quotient_up : (n : ℕ) {d : ℕ} → 0 < d → n ≤ quotient_up n d * d
unfolding quotient_up
le-quotient_up n {d} pos = omega (arith, div-add-mod' (n + (d - 1)) d, mod-lt (n + (d - 1)) pos)

pub quotient_up_pos : (n : ℕ) {d : ℕ} → 0 < d → 0 < n → 0 < quotient_up n d
quotient_up_pos n {d} pos h = go (quotient_up n d) (le-quotient_up n pos)
  where
    go : (k : ℕ) → n ≤ k * d → 0 < k
    go zero l = absurd (omega arith)
    go (suc k) l = omega arith

-- a slot at full rate takes one from it
pub quotient_up_fall : (n : ℕ) {d : ℕ} → 0 < d → 0 < n → quotient_up (n - min d n) d < quotient_up n d
quotient_up_fall n {d} pos h = go (quotient_up n d) (le-quotient_up n pos)
  where
    go : (k : ℕ) → n ≤ k * d → quotient_up (n - min d n) d < k
    go zero l = absurd (omega arith)
    go (suc k) l = suc-le-suc (quotient_up-le (n - min d n) k pos (omega arith))

pub quotient_up_mono : (m n : ℕ) {d : ℕ} → 0 < d → m ≤ n → quotient_up m d ≤ quotient_up n d
quotient_up_mono m n {d} pos h = quotient_up-le m (quotient_up n d) pos (omega (arith, le-quotient_up n pos))

pub quotient_up-mul : (w : ℕ) {d : ℕ} → 0 < d → quotient_up (w * d) d ≡ w
quotient_up-mul w {d} pos = le_antisymm (quotient_up-le (w * d) w pos (le_refl (w * d))) (le_of_mul-le-mul_right (le-quotient_up (w * d) pos) pos)

pub quotient_up-eq : (n k : ℕ) {d : ℕ} → 0 < d → k * d < n → n ≤ suc k * d → quotient_up n d ≡ suc k
quotient_up-eq n k {d} pos l h = le_antisymm (quotient_up-le n (suc k) pos h) (go (lt-or_ge k (quotient_up n d)))
  where
    go : (k < quotient_up n d) ⊎ (quotient_up n d ≤ k) → suc k ≤ quotient_up n d
    go (inl g) = g
    go (inr g) = absurd (omega (arith, mul-le-mul_right d g, le-quotient_up n pos))
