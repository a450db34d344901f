-- Laws of verdicts: the first fault of a walk. Assumes nothing.
use mathlib.Core.Path.{◌≡◌, refl, ap, ◌∙◌, sym}
use mathlib.Core.Logic.{◌⊎◌, inl, inr, ⊎_elim}
use Prim.Native.Nat.{ℕ, zero, suc, ◌<◌}
use mathlib.Core.Bool.{Bool, true, false, true≢false}
use native.Mathlib.Nat.{not-suc-le-zero}
use native.Mathlib.Omega.{arith}
use lib.Dec.{eqb}
use borrow.Author.Tests.{eq-eqb}
use Rattle.rules.specs.Verdicts.{Verdict, Pass, Refused}
use Rattle.std.specs.Prelude.{if◌then◌else◌}
use Rattle.rules.specs.Answers.{◌and_then◌, first_fault, number_of}
use Rattle.rules.proofs.Laws.Walks.{last_or}

pub not-pass : {X : Type 0} (n f j : ℕ) → Refused n f j ≡ Pass → X
not-pass n f j e = absurd (let z : ◌≡◌ {A = ℕ} 0 1 = cc in omega arith)

pub both-pass : (v w : Verdict) → (v and_then w) ≡ Pass → (v ≡ Pass) × (w ≡ Pass)
both-pass Pass w e = (refl, e)
both-pass (Refused n f j) w e = not-pass n f j e

-- a fault stands, whatever comes after it
pub fault-stands : (v w : Verdict) → (v ≡ Pass → ⊥) → (v and_then w) ≡ v
fault-stands Pass w ne = absurd (ne refl)
fault-stands (Refused n f j) w ne = refl

-- a walk that passes passes everywhere
pub fault-pass : (g : ℕ → Verdict) (n : ℕ) → first_fault g n ≡ Pass → (k : ℕ) → k < n → g k ≡ Pass
unfolding first_fault
fault-pass g zero e k h = absurd (not-suc-le-zero h)
fault-pass g (suc n) e k h =
    let p = both-pass (first_fault g n) (g n) e in
    last_or k n h (λ q. ap g q ∙ p.1) (λ l. fault-pass g n p.0 k l)

pub all_pass : (g : ℕ → Verdict) (n : ℕ) → ((k : ℕ) → k < n → g k ≡ Pass) → first_fault g n ≡ Pass
unfolding first_fault
all_pass g zero h = refl
all_pass g (suc n) h = rw (all_pass g n (λ k l. h k (omega arith)), h n (omega arith)) refl

-- the first fault ends the walk
pub fault_stop : (g : ℕ → Verdict) (n k : ℕ) (v : Verdict) → k < n → (v ≡ Pass → ⊥) → first_fault g k ≡ Pass → g k ≡ v → first_fault g n ≡ v
unfolding first_fault
fault_stop g zero k v h nv e d = absurd (not-suc-le-zero h)
fault_stop g (suc n) k v h nv e d =
    last_or k n h (λ q. rw (← q, e, d)) (λ l. rw (fault_stop g n k v l nv e d) (fault-stands v (g n) nv))

-- one turn of a walk that has passed so far
pub fault-next : (g : ℕ → Verdict) (n : ℕ) → first_fault g n ≡ Pass → g n ≡ Pass → first_fault g (suc n) ≡ Pass
unfolding first_fault
fault-next g n e d = rw (e, d) refl

pub fault_ext : (g h : ℕ → Verdict) (n : ℕ) → ((k : ℕ) → k < n → g k ≡ h k) → first_fault g n ≡ first_fault h n
unfolding first_fault
fault_ext g h zero e = refl
fault_ext g h (suc n) e = rw (fault_ext g h n (λ k l. e k (omega arith)), e n (omega arith)) refl

-- ---- where a fault comes from
pub then_met : (v w : Verdict) (n f j : ℕ) → (v and_then w) ≡ Refused n f j → (v ≡ Refused n f j) ⊎ ((v ≡ Pass) × (w ≡ Refused n f j))
then_met Pass w n f j e = inr (refl, e)
then_met (Refused m g i) w n f j e = inl e

-- of a walk, from the first test that does not pass
pub fault_met : (g : ℕ → Verdict) (n m f j : ℕ) → first_fault g n ≡ Refused m f j →
    (k : ℕ) × (k < n) × ((i : ℕ) → i < k → g i ≡ Pass) × (g k ≡ Refused m f j)
unfolding first_fault
fault_met g zero m f j e = not-pass m f j (sym e)
fault_met g (suc n) m f j e =
    ⊎_elim (λ p. let w = fault_met g n m f j p in (w.0, omega (arith, w.1), w.2, w.3))
    (λ p. (n, omega arith, fault-pass g n p.0, p.1)) (then_met (first_fault g n) (g n) m f j e)

-- of tests one after the other, not from one with another number
other-number : {X : Type 0} (n f j m g i : ℕ) → eqb n m ≡ false → Refused n f j ≡ Refused m g i → X
other-number n f j m g i ne e = absurd (true≢false (sym (eq-eqb n m (ap number_of e)) ∙ ne))

pub test_skipped : (t : Bool) (n f j : ℕ) (v : Verdict) (m g i : ℕ) → eqb n m ≡ false → (if t then Refused n f j else v) ≡ Refused m g i →
    (t ≡ false) × (v ≡ Refused m g i)
test_skipped true n f j v m g i ne e = other-number n f j m g i ne e
test_skipped false n f j v m g i ne e = (refl, e)

pub hold_skipped : {X : Type 0} (t : Bool) (n f j m g i : ℕ) → eqb n m ≡ false → (if t then Pass else Refused n f j) ≡ Refused m g i → X
hold_skipped true n f j m g i ne e = not-pass m g i (sym e)
hold_skipped false n f j m g i ne e = other-number n f j m g i ne e

-- a test says its number where those after it do not
pub test-said : (t : Bool) (n f j : ℕ) (v : Verdict) (g i : ℕ) → (if t then Refused n f j else v) ≡ Refused n g i → (v ≡ Refused n g i → ⊥) →
    (t ≡ true) × (f ≡ g) × (j ≡ i)
test-said true n f j v g i e after = (refl, cc, cc)
test-said false n f j v g i e after = absurd (after e)
