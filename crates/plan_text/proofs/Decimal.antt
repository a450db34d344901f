-- The digits that are printed, read back, give the number: ten of them are enough below 2 ^ 32. The last digit is the
-- remainder by ten, and those before it are the digits of the tenth. Assumes nothing.
use mathlib.Core.Path.{◌≡◌, refl, sym, ap, ◌∙◌}
use Prim.Native.Nat.{ℕ, zero, suc, ◌+◌, ◌*◌, ◌-◌, ◌/◌, ◌%◌, ◌^◌, ◌≤◌, ◌<◌}
use native.Mathlib.Nat.{pow-suc}
use native.Mathlib.Omega.{arith}
use mathlib.Core.Logic.{◌⊎◌, inl, inr}
use mathlib.Core.List.{List, [], ◌∷◌, ◌++◌}
use Rattle.rules.specs.Text.{digit, digits_of, decimal}
use Rattle.rules.proofs.Laws.Division.{lt-or_ge}
use Rattle.plan_text.proofs.Pieces.{digits_last, digits-single, digits_more}

-- what is read so far, and the digits after it
unfoldable pub read_from : ℕ → List ℕ → ℕ
read_from a [] = a
read_from a (d ∷ ds) = read_from (a * 10 + (d - 48)) ds

read-last : (a : ℕ) (ds : List ℕ) (d : ℕ) → read_from a (ds ++ d ∷ []) ≡ read_from a ds * 10 + (d - 48)
unfolding read_from
read-last a [] d = refl
read-last a (e ∷ ds) d = read-last (a * 10 + (e - 48)) ds d

-- one digit is its number
read-single : (x : ℕ) → x < 10 → read_from 0 (digit x ∷ []) ≡ x
unfolding read_from
read-single x l = omega arith

read-more : (x : ℕ) (ds : List ℕ) → 10 ≤ x → read_from 0 ds ≡ x / 10 → read_from 0 (ds ++ (48 + x % 10) ∷ []) ≡ x
read-more x ds l tenth = read-last 0 ds (48 + x % 10) ∙ omega (arith, tenth)

tenth-below : (y x : ℕ) → x < y * 10 → x / 10 < y
tenth-below y x l = omega arith

pub digits-read_back : (n x : ℕ) → x < 10 ^ suc n → read_from 0 (digits_of n x) ≡ x
digits-read_back zero x l = ap (read_from 0) (sym (digits_last 0 x refl)) ∙ read-single x (omega arith)
digits-read_back (suc n) x l = go (lt-or_ge x 10) (digits-read_back n (x / 10) (tenth-below (10 ^ suc n) x (rw pow-suc at l)))
  where
    go : (x < 10) ⊎ (10 ≤ x) → read_from 0 (digits_of n (x / 10)) ≡ x / 10 → read_from 0 (digits_of (suc n) x) ≡ x
    go (inl h) tenth = ap (read_from 0) (sym (digits-single (suc n) x h)) ∙ read-single x h
    go (inr h) tenth =
        let m : suc n - 1 ≡ n = omega arith in
        ap (read_from 0) (sym (digits_more (suc n) x (omega arith) h))
        ∙ read-more x (digits_of (suc n - 1) (x / 10)) h (ap (λ (k : ℕ). read_from 0 (digits_of k (x / 10))) m ∙ tenth)

-- a number below 2 ^ 32, printed and read back
pub decimal-reads-back : (x : ℕ) → x < 2 ^ 32 → read_from 0 (decimal x) ≡ x
decimal-reads-back x l = digits-read_back 9 x (omega arith)
