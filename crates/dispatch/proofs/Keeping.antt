-- The rows that pass a test: of rows one after the other, where none passes, where all do; no rows. Assumes nothing.
use mathlib.Core.Path.{◌≡◌, refl, sym, ap, ◌∙◌}
use mathlib.Core.Logic.{◌⊎◌, inl, inr}
use mathlib.Core.Bool.{Bool, true, false, false≢true}
use Prim.Native.Nat.{ℕ, suc, ◌<◌}
use native.Mathlib.Omega.{arith}
use mathlib.Core.List.Memᴰ
use mathlib.Core.List.{List, [], ◌∷◌, ◌++◌}
use lib.ListN.{length, get_or}
use Rattle.std.specs.Prelude.{if◌then◌else◌}
use Rattle.std.proofs.lemmas.List.{nil_from_length}
use Rattle.rules.specs.Rows.{Row}
use Rattle.rules.specs.Check.{no_row}
use Rattle.rules.proofs.Rows.Rising.{◌∈◌, first_in, Rising}
use Rattle.dispatch.specs.Merge.{keep_rows}

pub no_rows : (xs : List Row) → length xs ≡ 0 → xs ≡ []
no_rows = nil_from_length

module _ (q : Row → Bool) where
  pub keep_append : (xs ys : List Row) → keep_rows q (xs ++ ys) ≡ keep_rows q xs ++ keep_rows q ys
  unfolding keep_rows
  keep_append [] ys = refl
  keep_append (x ∷ xs) ys = go (q x) (keep_append xs ys)
    where
      go : (t : Bool) → keep_rows q (xs ++ ys) ≡ keep_rows q xs ++ keep_rows q ys →
          (if t then x ∷ keep_rows q (xs ++ ys) else keep_rows q (xs ++ ys)) ≡ (if t then x ∷ keep_rows q xs else keep_rows q xs) ++ keep_rows q ys
      go true ih = ap (x ∷◌) ih
      go false ih = ih

  pub keep-none : (xs : List Row) → ((k : ℕ) → k < length xs → q (get_or xs k no_row) ≡ false) → keep_rows q xs ≡ []
  unfolding keep_rows
  keep-none [] h = refl
  keep-none (x ∷ xs) h = rw (h 0 (omega arith)) (keep-none xs (λ k l. h (suc k) (omega arith)))

  pub keep_all : (xs : List Row) → ((k : ℕ) → k < length xs → q (get_or xs k no_row) ≡ true) → keep_rows q xs ≡ xs
  unfolding keep_rows
  keep_all [] h = refl
  keep_all (x ∷ xs) h = rw (h 0 (omega arith)) (ap (x ∷◌) (keep_all xs (λ k l. h (suc k) (omega arith))))

  -- ---- elements
  pub keep_in : (xs : List Row) (r : Row) → r ∈ keep_rows q xs → (r ∈ xs) × (q r ≡ true)
  unfolding keep_rows
  keep_in [] r m = absurd (Memᴰ.not-nil m)
  keep_in (x ∷ xs) r m = go (q x) refl m (keep_in xs r)
    where
      go : (t : Bool) → q x ≡ t → r ∈ (if t then x ∷ keep_rows q xs else keep_rows q xs) → (r ∈ keep_rows q xs → (r ∈ xs) × (q r ≡ true)) →
          (r ∈ x ∷ xs) × (q r ≡ true)
      go true e n ih = here (Memᴰ.cases_cons n)
        where
          here : (r ≡ x) ⊎ (r ∈ keep_rows q xs) → (r ∈ x ∷ xs) × (q r ≡ true)
          here (inl d) = rw d (first_in x xs, e)
          here (inr l) = let w = ih l in (Memᴰ.tail w.0, w.1)
      go false e n ih = let w = ih n in (Memᴰ.tail w.0, w.1)

  pub in_keep : (xs : List Row) (r : Row) → r ∈ xs → q r ≡ true → r ∈ keep_rows q xs
  unfolding keep_rows
  in_keep [] r m e = absurd (Memᴰ.not-nil m)
  in_keep (x ∷ xs) r m e = go (q x) refl (Memᴰ.cases_cons m) (λ l. in_keep xs r l e)
    where
      go : (t : Bool) → q x ≡ t → (r ≡ x) ⊎ (r ∈ xs) → (r ∈ xs → r ∈ keep_rows q xs) → r ∈ (if t then x ∷ keep_rows q xs else keep_rows q xs)
      go true d (inl s) ih = rw s (first_in x (keep_rows q xs))
      go true d (inr l) ih = Memᴰ.tail (ih l)
      go false d (inl s) ih = absurd (false≢true (sym d ∙ ap q (sym s) ∙ e))
      go false d (inr l) ih = ih l

  -- rows that rise, each before all that stand after it, do so where only some of them are kept
  pub keep-rising : (Before : Row → Row → Type 0) (xs : List Row) → Rising Before xs → Rising Before (keep_rows q xs)
  unfolding keep_rows Rising
  keep-rising Before [] h = tt
  keep-rising Before (x ∷ xs) h = go (q x) (keep-rising Before xs h.1)
    where
      go : (t : Bool) → Rising Before (keep_rows q xs) → Rising Before (if t then x ∷ keep_rows q xs else keep_rows q xs)
      go true ih = (λ y m. h.0 y (keep_in xs y m).0, ih)
      go false ih = ih
