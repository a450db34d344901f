-- Numbers compared one after another: the first in which two of them differ decides. So flows are ordered, and rows in a table and in a list.
-- Assumes nothing.
use mathlib.Core.Path.{◌≡◌, refl, sym, ◌∙◌}
use mathlib.Core.Logic.{◌⊎◌, inl, inr, ⊎_elim}
use mathlib.Core.Bool.{Bool, true, ◌&&◌, ◌||◌, and-eq-true_iff, or-true}
use Prim.Native.Nat.{ℕ, ◌≤◌, ◌<◌}
use native.Mathlib.Omega.{arith}
use lib.Dec.{ltb, eqb}
use borrow.Author.Tests.{ltb-true, eqb-true, lt-ltb, eq-eqb}
use Rattle.rules.proofs.Laws.Division.{lt-or_ge}
use Rattle.rules.proofs.Laws.Walks.{or_cases}

-- the first number is less, or it is the same and the rest decides
abbrev pub Lexical : ℕ → ℕ → Type 0 → Type 0
Lexical a b Rest = (a < b) ⊎ ((a ≡ b) × Rest)

pub lexical_trans : {a b c : ℕ} {X Y Z : Type 0} → Lexical a b X → Lexical b c Y → (X → Y → Z) → Lexical a c Z
lexical_trans (inl l) (inl m) rest = inl (omega arith)
lexical_trans (inl l) (inr m) rest = inl (omega (arith, m.0))
lexical_trans (inr l) (inl m) rest = inl (omega (arith, l.0))
lexical_trans (inr l) (inr m) rest = inr (l.0 ∙ m.0, rest l.1 m.1)

pub lexical-rest : {a b : ℕ} {X : Type 0} → Lexical a b X → a ≡ b → X
lexical-rest (inl l) e = absurd (omega arith)
lexical-rest (inr l) e = l.1

pub lexical-map : {a b : ℕ} {X Y : Type 0} → (X → Y) → Lexical a b X → Lexical a b Y
lexical-map h (inl l) = inl l
lexical-map h (inr s) = inr (s.0, h s.1)

-- where the rest decides one way or the other, so does the whole
pub lexical-either : {X Y : Type 0} (a b : ℕ) → (a ≡ b → X ⊎ Y) → Lexical a b X ⊎ Lexical b a Y
lexical-either {X} {Y} a b rest = go (lt-or_ge a b) (lt-or_ge b a)
  where
    go : (a < b) ⊎ (b ≤ a) → (b < a) ⊎ (a ≤ b) → Lexical a b X ⊎ Lexical b a Y
    go (inl l) o = inl (inl l)
    go (inr l) (inl m) = inr (inl m)
    go (inr l) (inr m) = let e : a ≡ b = omega arith in ⊎_elim (λ x. inl (inr (e, x))) (λ y. inr (inr (sym e, y))) (rest e)

pub less-or-more : (a b : ℕ) → (a ≡ b → ⊥) → (a < b) ⊎ (b < a)
less-or-more a b ne = ⊎_elim inl (λ l. inr (omega (arith, ne))) (lt-or_ge a b)

-- the test
pub less-or-same : (a b : ℕ) (rest : Bool) → (ltb a b || eqb a b && rest) ≡ true → Lexical a b (rest ≡ true)
less-or-same a b rest e =
    ⊎_elim (λ l. inl (ltb-true a b l)) (λ s. let w = (and-eq-true_iff (eqb a b) rest).0 s in inr (eqb-true a b w.0, w.1))
    (or_cases (ltb a b) (eqb a b && rest) e)

pub less-or-same_test : (a b : ℕ) (rest : Bool) → Lexical a b (rest ≡ true) → (ltb a b || eqb a b && rest) ≡ true
less-or-same_test a b rest (inl l) = rw (lt-ltb a b l) refl
less-or-same_test a b rest (inr s) = rw (eq-eqb a b s.0, s.1) (or-true (ltb a b))
