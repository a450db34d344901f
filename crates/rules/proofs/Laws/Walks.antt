-- Laws of maxima, tests and lists over 0 .. n - 1. Assumes nothing.
use mathlib.Core.Path.{◌≡◌, refl, sym, ap, ◌∙◌}
use Prim.Native.Nat.{ℕ, zero, suc, ◌+◌, ◌≤◌, ◌<◌, max}
use mathlib.Core.Bool.{Bool, true, false, ◌||◌, and-eq-true_iff, false≢true}
use mathlib.Core.List.{List, ◌++◌, append_assoc, append-nil}
use mathlib.Core.Logic.{⊎_elim, ◌⊎◌, inl, inr}
use native.Mathlib.Nat.{add-zero, zero-add, le_of_suc-le-suc, not-suc-le-zero, eq-or-lt_of_le, lt-suc_self}
use native.Mathlib.Omega.{arith}
use lib.ListN.{get_or, set, length, length-append}
use lib.Seq.{ext_get_or, get_or-set_same, get_or-set_other}
use lib.Dec.{eqb}
use borrow.Author.Tests.{eqb-true, eqb-false}
use Rattle.rules.specs.Walks.{sum_to, max_to, any_to, all_to, list_from, join_from}
use Rattle.rules.proofs.Laws.Division.{lt-or_ge}
use Rattle.rules.proofs.Laws.Sums.{sum_ext}

-- k is the last number below n + 1, or below n
pub last_or : {X : Type 0} (k n : ℕ) → k < suc n → (k ≡ n → X) → (k < n → X) → X
last_or k n h a b = ⊎_elim (λ e. a e) (λ l. b l) (eq-or-lt_of_le (le_of_suc-le-suc h))

-- one of two tests passes
pub or_cases : (p q : Bool) → (p || q) ≡ true → (p ≡ true) ⊎ (q ≡ true)
or_cases true q e = inl refl
or_cases false q e = inr e

-- what holds of the value that is set at index n, and of the values before at the other ones, holds of each value after
pub after-set : (X : ℕ → ℕ → Type 0) (l : List ℕ) (n v : ℕ) → n < length l → X n v → ((i : ℕ) → (i ≡ n → ⊥) → X i (get_or l i 0)) → (i : ℕ) → X i (get_or (set l n v) i 0)
after-set X l n v room here others i = go (eqb i n) refl
  where
    go : (t : Bool) → eqb i n ≡ t → X i (get_or (set l n v) i 0)
    go true e = rw (eqb-true i n e, get_or-set_same l n v 0 room) here
    go false e = let other = eqb-false i n e in rw (get_or-set_other l n i v 0 other) (others i other)

-- ---- maxima
pub max_ext : (g h : ℕ → ℕ) (n : ℕ) → ((k : ℕ) → k < n → g k ≡ h k) → max_to g n ≡ max_to h n
unfolding max_to
max_ext g h zero e = refl
max_ext g h (suc n) e = rw (max_ext g h n (λ k l. e k (omega arith)), e n (omega arith)) refl

pub max-above : (g : ℕ → ℕ) (n k : ℕ) → k < n → g k ≤ max_to g n
unfolding max_to
max-above g zero k h = absurd (not-suc-le-zero h)
max-above g (suc n) k h = last_or k n h (λ q. omega (arith, ap g q)) (λ l. omega (arith, max-above g n k l))

pub max_least : (g : ℕ → ℕ) (n b : ℕ) → ((k : ℕ) → k < n → g k ≤ b) → max_to g n ≤ b
unfolding max_to
max_least g zero b h = omega arith
max_least g (suc n) b h = omega (arith, max_least g n b (λ k l. h k (omega arith)), h n (omega arith))

-- a maximum that is not 0 is met
pub max_met : (g : ℕ → ℕ) (n : ℕ) → 0 < max_to g n → (k : ℕ) × (k < n) × (g k ≡ max_to g n)
unfolding max_to
max_met g zero h = absurd (not-suc-le-zero h)
max_met g (suc n) h = go (lt-or_ge (max_to g n) (g n)) (max_met g n)
  where
    go : (max_to g n < g n) ⊎ (g n ≤ max_to g n) → (0 < max_to g n → (k : ℕ) × (k < n) × (g k ≡ max_to g n)) → (k : ℕ) × (k < suc n) × (g k ≡ max (max_to g n) (g n))
    go (inl l) ih = (n, lt-suc_self n, omega arith)
    go (inr l) ih = let w = ih (omega arith) in (w.0, omega (arith, w.1), omega (arith, w.2))

-- ---- tests
pub all-at : (q : ℕ → Bool) (n : ℕ) → all_to q n ≡ true → (k : ℕ) → k < n → q k ≡ true
unfolding all_to
all-at q zero e k l = absurd (not-suc-le-zero l)
all-at q (suc n) e k l =
    let both = (and-eq-true_iff (all_to q n) (q n)).0 e in
    last_or k n l (λ z. rw z both.1) (λ b. all-at q n both.0 k b)

pub all-not : (q : ℕ → Bool) (n : ℕ) → all_to q n ≡ false → (k : ℕ) × (k < n) × (q k ≡ false)
unfolding all_to
all-not q zero e = absurd (false≢true (sym e))
all-not q (suc n) e = go (q n) refl (all_to q n) refl (all-not q n)
  where
    go : (b : Bool) → q n ≡ b → (a : Bool) → all_to q n ≡ a → (all_to q n ≡ false → (k : ℕ) × (k < n) × (q k ≡ false)) → (k : ℕ) × (k < suc n) × (q k ≡ false)
    go false z a y ih = (n, lt-suc_self n, z)
    go true z false y ih = let w = ih y in (w.0, omega (arith, w.1), w.2)
    go true z true y ih = absurd (false≢true (sym e ∙ (and-eq-true_iff (all_to q n) (q n)).1 (y, z)))

pub all_true : (q : ℕ → Bool) (n : ℕ) → ((k : ℕ) → k < n → q k ≡ true) → all_to q n ≡ true
unfolding all_to
all_true q zero h = refl
all_true q (suc n) h = (and-eq-true_iff (all_to q n) (q n)).1 (all_true q n (λ k l. h k (omega arith)), h n (omega arith))

pub any_none : (q : ℕ → Bool) (n : ℕ) → any_to q n ≡ false → (k : ℕ) → k < n → q k ≡ false
unfolding any_to
any_none q zero e k l = absurd (not-suc-le-zero l)
any_none q (suc n) e k l = go (any_to q n) refl (q n) refl (λ x m. any_none q n x k m)
  where
    go : (a : Bool) → any_to q n ≡ a → (b : Bool) → q n ≡ b → (any_to q n ≡ false → k < n → q k ≡ false) → q k ≡ false
    go false x false y ih = last_or k n l (λ z. rw z y) (ih x)
    go false x true y ih = absurd (false≢true (sym e ∙ rw (x, y)))
    go true x b y ih = absurd (false≢true (sym e ∙ rw x))

pub any_false : (q : ℕ → Bool) (n : ℕ) → ((k : ℕ) → k < n → q k ≡ false) → any_to q n ≡ false
unfolding any_to
any_false q zero h = refl
any_false q (suc n) h = rw (any_false q n (λ k l. h k (omega arith)), h n (omega arith))

pub any_true : (q : ℕ → Bool) (n k : ℕ) → k < n → q k ≡ true → any_to q n ≡ true
unfolding any_to
any_true q zero k l e = absurd (not-suc-le-zero l)
any_true q (suc n) k l e = last_or k n l (λ z. here z (any_to q n)) (λ m. rw (any_true q n k m e) refl)
  where
    here : k ≡ n → (a : Bool) → (a || q n) ≡ true
    here z true = refl
    here z false = rw (← z) e

-- one that passes, where one does
pub any_met : (q : ℕ → Bool) (n : ℕ) → any_to q n ≡ true → (k : ℕ) × (k < n) × (q k ≡ true)
unfolding any_to
any_met q zero e = absurd (false≢true e)
any_met q (suc n) e = go (q n) refl (any_met q n)
  where
    go : (b : Bool) → q n ≡ b → (any_to q n ≡ true → (k : ℕ) × (k < n) × (q k ≡ true)) → (k : ℕ) × (k < suc n) × (q k ≡ true)
    go true y ih = (n, lt-suc_self n, y)
    go false y ih = let w = ih (other (any_to q n) (sym e ∙ ap (any_to q n ||◌) y)) in (w.0, omega (arith, w.1), w.2)
      where
        other : (a : Bool) → true ≡ (a || false) → a ≡ true
        other true z = refl
        other false z = sym z

-- ---- lists
pub length-list_from {ℓ} : {A : Type ℓ} (g : ℕ → A) (n s : ℕ) → length (list_from g n s) ≡ n
unfolding list_from
length-list_from g zero s = refl
length-list_from g (suc n) s = ap suc (length-list_from g n (s + 1))

pub list_at {ℓ} : {A : Type ℓ} (g : ℕ → A) (n s i : ℕ) (d : A) → i < n → get_or (list_from g n s) i d ≡ g (s + i)
unfolding list_from
list_at g zero s i d h = absurd (not-suc-le-zero h)
list_at g (suc n) s zero d h = rw add-zero
list_at g (suc n) s (suc i) d h =
    let e : s + suc i ≡ s + 1 + i = omega arith in
    rw e (list_at g n (s + 1) i d (le_of_suc-le-suc h))

pub list_ext {ℓ} : {A : Type ℓ} (g h : ℕ → A) (n s : ℕ) → ((k : ℕ) → k < n → g (s + k) ≡ h (s + k)) → list_from g n s ≡ list_from h n s
unfolding list_from
list_ext g h zero s e = refl
list_ext g h (suc n) s e =
    let z : g s ≡ h s = rw add-zero at (e 0 (omega arith)) in
    rw (z, list_ext g h n (s + 1) (λ k l. let q : s + 1 + k ≡ s + suc k = omega arith in rw q (e (suc k) (omega arith)))) refl

pub join-snoc {ℓ} : {A : Type ℓ} (g : ℕ → List A) (n s : ℕ) → join_from g (suc n) s ≡ join_from g n s ++ g (s + n)
unfolding join_from
join-snoc g zero s = rw (add-zero, append-nil)
join-snoc g (suc n) s =
    let e : s + suc n ≡ s + 1 + n = omega arith in
    rw (e, append_assoc) (ap (g s ++◌) (join-snoc g n (s + 1)))

pub join-ext {ℓ} : {A : Type ℓ} (g h : ℕ → List A) (n s : ℕ) → ((k : ℕ) → k < n → g (s + k) ≡ h (s + k)) → join_from g n s ≡ join_from h n s
unfolding join_from
join-ext g h zero s e = refl
join-ext g h (suc n) s e =
    let z : g s ≡ h s = rw add-zero at (e 0 (omega arith)) in
    rw (z, join-ext g h n (s + 1) (λ k l. let q : s + 1 + k ≡ s + suc k = omega arith in rw q (e (suc k) (omega arith)))) refl

pub join-split {ℓ} : {A : Type ℓ} (g : ℕ → List A) (m n s : ℕ) → join_from g (m + n) s ≡ join_from g m s ++ join_from g n (s + m)
unfolding join_from
join-split g zero n s = let a : zero + n ≡ n = omega arith in rw (a, add-zero) refl
join-split g (suc m) n s =
    let a : suc m + n ≡ suc (m + n) = omega arith in
    let e : s + suc m ≡ s + 1 + m = omega arith in
    rw (a, e, append_assoc) (ap (g s ++◌) (join-split g m n (s + 1)))

pub join-length {ℓ} : {A : Type ℓ} (g : ℕ → List A) (n s : ℕ) → length (join_from g n s) ≡ sum_to (λ k. length (g (s + k))) n
unfolding sum_to join_from
join-length g zero s = refl
join-length g (suc n) s = rw (join-snoc g n s, length-append) (ap (◌+ length (g (s + n))) (join-length g n s))

-- ---- one start further, and walks from 0
pub next_start : (s i : ℕ) → s + suc i ≡ s + 1 + i
next_start s i = omega arith

pub list-at-zero {ℓ} : {A : Type ℓ} (g : ℕ → A) (n i : ℕ) (d : A) → i < n → get_or (list_from g n 0) i d ≡ g i
list-at-zero g n i d h = list_at g n 0 i d h ∙ ap g (zero-add i)

-- a list is what a walk makes of its elements
pub list_of {ℓ} : {A : Type ℓ} (g : ℕ → A) (n : ℕ) (xs : List A) (d : A) → n ≡ length xs → ((i : ℕ) → i < length xs → g i ≡ get_or xs i d) → list_from g n 0 ≡ xs
list_of g n xs d e h =
    let as_many : length (list_from g n 0) ≡ length xs = length-list_from g n 0 ∙ e in
    ext_get_or d (list_from g n 0) xs as_many (λ i l. list-at-zero g n i d (omega arith) ∙ h i (omega arith))

pub join-length-zero {ℓ} : {A : Type ℓ} (g : ℕ → List A) (n : ℕ) → length (join_from g n 0) ≡ sum_to (λ k. length (g k)) n
join-length-zero g n = join-length g n 0 ∙ sum_ext (λ k. length (g (0 + k))) (λ k. length (g k)) n (λ k l. ap (λ i. length (g i)) (zero-add k))

-- the last of lists joined from 0 on
pub join_last {ℓ} : {A : Type ℓ} (g : ℕ → List A) (n : ℕ) → join_from g (suc n) 0 ≡ join_from g n 0 ++ g n
join_last g n = join-snoc g n 0 ∙ ap (λ k. join_from g n 0 ++ g k) (zero-add n)

pub any_ext : (q p : ℕ → Bool) (n : ℕ) → ((k : ℕ) → k < n → q k ≡ p k) → any_to q n ≡ any_to p n
unfolding any_to
any_ext q p zero h = refl
any_ext q p (suc n) h = rw (any_ext q p n (λ k l. h k (omega arith)), h n (omega arith)) refl

-- walks from two starts that meet the same lists
pub join-moved {ℓ} : {A : Type ℓ} (g h : ℕ → List A) (n s u : ℕ) → ((k : ℕ) → k < n → g (s + k) ≡ h (u + k)) → join_from g n s ≡ join_from h n u
unfolding join_from
join-moved g h zero s u e = refl
join-moved g h (suc n) s u e =
    let z : g s ≡ h u = rw (add-zero s, add-zero u) at (e 0 (omega arith)) in
    rw (z, join-moved g h n (s + 1) (u + 1) (λ k l. rw (← next_start s k, ← next_start u k) (e (suc k) (omega arith)))) refl
