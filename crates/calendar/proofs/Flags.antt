-- Flags of shut slots, those of a window set at once. Assumes nothing.
use mathlib.Core.Path.{◌≡◌, refl, sym, ap, ◌∙◌}
use Prim.Native.Nat.{ℕ, ◌+◌, ◌-◌, ◌≤◌, ◌<◌}
use mathlib.Core.Bool.{true, not, ◌&&◌, and-true, and-false}
use mathlib.Core.List.{List, ◌++◌}
use mathlib.Core.Logic.{◌⊎◌, inl, inr}
use native.Mathlib.Omega.{arith}
use lib.ListN.{length, take, drop, replicate, length-replicate, get_or, get_or-append, get_or-replicate, get_or-eq_default, length-drop}
use lib.Dec.{eqb, ltb, leb}
use borrow.Author.Tests.{lt-ltb, le-ltb, le-leb, lt-leb}
use Rattle.std.proofs.lemmas.List.{length-take-le, get_or-take, get_or-drop, get_or-append_right}
use Rattle.rules.specs.Calendar.{in_window}
use Rattle.rules.proofs.Laws.Division.{lt-or_ge}
use Rattle.calendar.specs.Area.{open_by}

-- the flags `ones` put in the place of those of slots a to e - 1
module _ (xs ones : List ℕ) (a e : ℕ) (l : a ≤ e) (within : e ≤ length xs) (set : ones ≡ replicate (length (take (e - a) (drop a xs))) 1) where
  before : length (take a xs) ≡ a
  before = length-take-le a xs (omega arith)

  room : length (take (e - a) (drop a xs)) ≡ e - a
  room = length-take-le (e - a) (drop a xs) (omega (arith, length-drop {A = ℕ}))

  as_many : length ones ≡ e - a
  as_many = ap length set ∙ length-replicate {A = ℕ} (length (take (e - a) (drop a xs))) 1 ∙ room

  pub filled_open : (u : ℕ) → open_by (take a xs ++ (ones ++ drop (e - a) (drop a xs))) u ≡ (open_by xs u && not (in_window (record { shut = a; reopening = e }) u))
  unfolding open_by
  filled_open u = go (lt-or_ge u a) (lt-or_ge u e)
    where
      rest : List ℕ
      rest = ones ++ drop (e - a) (drop a xs)

      past : a ≤ u → get_or (take a xs ++ rest) u 0 ≡ get_or rest (u - a) 0
      past h = get_or-append_right (take a xs) rest a u 0 before h

      go : (u < a) ⊎ (a ≤ u) → (u < e) ⊎ (e ≤ u) → not (eqb (get_or (take a xs ++ rest) u 0) 1) ≡ (not (eqb (get_or xs u 0) 1) && not (leb a u && ltb u e))
      go (inl h) o =
          rw (lt-leb a u h, get_or-append (take a xs) rest 0 u (omega (arith, before)), get_or-take a xs u 0 h)
          (sym (and-true (not (eqb (get_or xs u 0) 1))))
      go (inr h) (inl m) =
          let one : get_or rest (u - a) 0 ≡ 1 =
          get_or-append ones (drop (e - a) (drop a xs)) 0 (u - a) (omega (arith, as_many)) ∙ rw set (get_or-replicate {A = ℕ} (length (take (e - a) (drop a xs))) (u - a) 1 0 (omega (arith, room))) in
          rw (le-leb a u h, lt-ltb u e m, past h, one) (sym (and-false (not (eqb (get_or xs u 0) 1))))
      go (inr h) (inr m) =
          let same : get_or rest (u - a) 0 ≡ get_or xs u 0 =
          get_or-append_right ones (drop (e - a) (drop a xs)) (e - a) (u - a) 0 as_many (omega arith)
          ∙ get_or-drop (e - a) (drop a xs) (u - a - (e - a)) 0 ∙ get_or-drop a xs (e - a + (u - a - (e - a))) 0
          ∙ ap (λ (n : ℕ). get_or xs n 0) (omega arith) in
          rw (le-leb a u h, le-ltb u e m, past h, same) (sym (and-true (not (eqb (get_or xs u 0) 1))))

-- no flag is set
pub unset_open : (n u : ℕ) → open_by (replicate n 0) u ≡ true
unfolding open_by
unset_open n u = go (lt-or_ge u n)
  where
    go : (u < n) ⊎ (n ≤ u) → open_by (replicate n 0) u ≡ true
    go (inl b) = rw (get_or-replicate {A = ℕ} n u 0 0 b) refl
    go (inr b) = rw (get_or-eq_default {A = ℕ} (replicate n 0) 0 {n = u} (omega (arith, length-replicate {A = ℕ} n 0))) refl
