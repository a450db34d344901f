-- What a calendar's fault is where its layout is whole: the rules of its windows, one after the other, or of one of them.
-- Assumes nothing.
use mathlib.Core.Path.{◌≡◌, refl, sym, ap, ◌∙◌}
use Prim.Native.Nat.{ℕ, zero, suc, ◌+◌, ◌-◌, ◌≤◌, ◌<◌}
use mathlib.Core.Bool.{Bool, true, false, ◌||◌, or-false}
use mathlib.Core.List.{List}
use mathlib.Core.Logic.{◌⊎◌, inl, inr}
use native.Mathlib.Numerals.{add-one}
use native.Mathlib.Omega.{arith}
use lib.Dec.{ltb, leb}
use borrow.Author.Tests.{lt-ltb, le-ltb, le-leb, lt-leb}
use Rattle.std.proofs.lemmas.Bool.{or_parts}
use Rattle.rules.specs.Walks.{any_to}
use Rattle.rules.specs.Limits.{most_reopening}
use Rattle.rules.specs.Calendar.{window_at, begins_early, window_fault}
use Rattle.rules.proofs.Laws.Division.{lt-or_ge}
use Rattle.calendar.specs.declared.maintenance.Window.{Window as HeldWindow}
use Rattle.calendar.specs.Windows.{window_in}

-- the first slot at which window k may begin
abbrev pub first_free : List ℕ → ℕ → ℕ
first_free s zero = 0
first_free s (suc k) = (window_at s k).reopening + 1

below_next : (a b : ℕ) → leb a b ≡ ltb a (b + 1)
below_next a b = go (lt-or_ge b a)
  where
    go : (b < a) ⊎ (a ≤ b) → leb a b ≡ ltb a (b + 1)
    go (inl h) = rw (lt-leb a b h, le-ltb a (b + 1) (omega arith)) refl
    go (inr h) = rw (le-leb a b h, lt-ltb a (b + 1) (omega arith)) refl

early_free : (s : List ℕ) (k : ℕ) → begins_early s k ≡ ltb (window_at s k).shut (first_free s k)
unfolding begins_early
early_free s zero = sym (le-ltb (window_at s 0).shut 0 (omega arith))
early_free s (suc k) = below_next (window_at s (suc k)).shut (window_at s k).reopening

-- window k as it is read
module _ (s : List ℕ) (k : ℕ) (v : HeldWindow) (e : window_in v ≡ window_at s k) where
  pub window-tested : {free : ℕ} → free ≡ first_free s k → (leb v.reopening v.shut || ltb v.shut free || ltb most_reopening v.reopening) ≡ window_fault s k
  unfolding window_fault
  window-tested q = rw (early_free s k, ← e, q) refl

  pub next_free : v.reopening + 1 ≡ first_free s (k + 1)
  next_free = rw (add-one k, ← e) refl

pub first_early : (s : List ℕ) (k : ℕ) → k ≡ 0 → ltb 0 k ≡ begins_early s k
unfolding begins_early
first_early s k e = rw e refl

-- .. and tested by itself, as one that may begin at any slot, before it is seen beside the one before it
broken : (a b c d : Bool) → d ≡ false → (a || d || c) ≡ true → true ≡ (a || b || c)
broken true b c d e h = refl
broken false true c d e h = refl
broken false false c d e h = sym (ap (◌|| c) (sym e) ∙ h)

module _ (s : List ℕ) (k : ℕ) (v : HeldWindow) (e : window_in v ≡ window_at s k) where
  abbrev alone : Bool
  alone = leb v.reopening v.shut || ltb v.shut 0 || ltb most_reopening v.reopening

  pub broken_alone : alone ≡ true → true ≡ window_fault s k
  unfolding window_fault
  broken_alone h =
      rw (← e)
      (broken (leb v.reopening v.shut) (begins_early s k) (ltb most_reopening v.reopening) (ltb v.shut 0) (le-ltb v.shut 0 (omega arith)) h)

  pub only_early : alone ≡ false → begins_early s k ≡ window_fault s k
  unfolding window_fault
  only_early h =
      let whole = or_parts (leb v.reopening v.shut || ltb v.shut 0) (ltb most_reopening v.reopening) h in
      rw (← e, (or_parts (leb v.reopening v.shut) (ltb v.shut 0) whole.0).0, whole.1) (sym (or-false (begins_early s k)))

  pub early_beside : (u : HeldWindow) → 0 < k → window_in u ≡ window_at s (k - 1) → leb v.shut u.reopening ≡ begins_early s k
  unfolding begins_early
  early_beside u some f = go k refl
    where
      go : (j : ℕ) → j ≡ k → leb v.shut u.reopening ≡ begins_early s j
      go zero q = absurd (omega arith)
      go (suc j) q =
          let before : k - 1 ≡ j = omega arith in
          let there : window_in u ≡ window_at s j = f ∙ ap (window_at s) before in
          rw (← there, q, ← e) refl

-- ---- a walk over the windows
pub none_yet : (q : ℕ → Bool) → any_to q 0 ≡ false
unfolding any_to
none_yet q = refl

pub none_more : (q : ℕ → Bool) (k : ℕ) {a : Bool} → any_to q k ≡ false → a ≡ q k → a ≡ false → any_to q (k + 1) ≡ false
unfolding any_to
none_more q k h e f = rw (add-one k, h, ← e, f) refl
