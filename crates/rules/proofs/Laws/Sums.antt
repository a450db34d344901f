-- Laws of sums over slots.
-- Assumes nothing.
use mathlib.Core.Path.{◌≡◌, refl, ap, sym, ◌∙◌}
use mathlib.Core.Logic.{◌⊎◌, inl, inr}
use Prim.Native.Nat.{ℕ, zero, suc, ◌+◌, ◌*◌, ◌-◌, ◌≤◌, ◌<◌}
use mathlib.Core.Bool.{Bool, true, false, ◌||◌}
use native.Mathlib.Nat.{add-zero, zero-add, add-suc, add-sub_of_le, sub-add_cancel, le_of_lt, not-suc-le-zero, eq-or-lt_of_le, le_of_suc-le-suc}
use native.Mathlib.Omega.{arith}
use lib.Dec.{ltb, eqb}
use borrow.Author.Tests.{lt-ltb, le-ltb, eq-eqb, ne_eqb}
use Rattle.std.specs.Prelude.{if◌then◌else◌}
use Rattle.rules.specs.Walks.{sum_to, bit, count_to}
use Rattle.rules.proofs.Laws.Division.{lt-or_ge}

-- congruence, pointwise below n
pub sum_ext : (f g : ℕ → ℕ) (n : ℕ) → ((t : ℕ) → t < n → f t ≡ g t) → sum_to f n ≡ sum_to g n
unfolding sum_to
sum_ext f g zero h = refl
sum_ext f g (suc n) h = omega (arith, sum_ext f g n (λ t l. h t (omega arith)), h n (omega arith))

pub sum_mono : (f g : ℕ → ℕ) (n : ℕ) → ((t : ℕ) → t < n → f t ≤ g t) → sum_to f n ≤ sum_to g n
unfolding sum_to
sum_mono f g zero h = omega arith
sum_mono f g (suc n) h = omega (arith, sum_mono f g n (λ t l. h t (omega arith)), h n (omega arith))

pub sum-split : (f : ℕ → ℕ) (m n : ℕ) → sum_to f (m + n) ≡ sum_to f m + sum_to (λ t. f (m + t)) n
unfolding sum_to
sum-split f m zero = rw (add-zero m) (omega arith)
sum-split f m (suc n) = rw add-suc (omega (arith, sum-split f m n))

pub sum-add : (f g : ℕ → ℕ) (n : ℕ) → sum_to (λ t. f t + g t) n ≡ sum_to f n + sum_to g n
unfolding sum_to
sum-add f g zero = refl
sum-add f g (suc n) = omega (arith, sum-add f g n)

pub sum_const : (c n : ℕ) → sum_to (λ t. c) n ≡ c * n
unfolding sum_to
sum_const c zero = omega arith
sum_const c (suc n) = omega (arith, sum_const c n)

pub sum_scale : (c : ℕ) (f : ℕ → ℕ) (n : ℕ) → sum_to (λ t. c * f t) n ≡ c * sum_to f n
unfolding sum_to
sum_scale c f zero = omega arith
sum_scale c f (suc n) = omega (arith, sum_scale c f n)

pub sum-le : (f : ℕ → ℕ) (c n : ℕ) → ((t : ℕ) → t < n → f t ≤ c) → sum_to f n ≤ c * n
sum-le f c n h = omega (arith, sum_mono f (λ t. c) n h, sum_const c n)

pub sum-zero : (n : ℕ) → sum_to (λ t. 0) n ≡ 0
sum-zero n = omega (arith, sum_const 0 n)

pub sum_swap : (f : ℕ → ℕ → ℕ) (m n : ℕ) → sum_to (λ i. sum_to (λ t. f i t) n) m ≡ sum_to (λ t. sum_to (λ i. f i t) m) n
unfolding sum_to
sum_swap f zero n = sym (sum-zero n)
sum_swap f (suc m) n = omega (arith, sum_swap f m n, sum-add (λ t. sum_to (λ i. f i t) m) (λ t. f m t) n)

-- more slots, no less
pub sum_up : (f : ℕ → ℕ) {m n : ℕ} → m ≤ n → sum_to f m ≤ sum_to f n
sum_up f {m} {n} h = rw (← add-sub_of_le h) (omega (arith, sum-split f m (n - m)))

-- one term is at most the sum_to
pub le-sum : (f : ℕ → ℕ) (n k : ℕ) → k < n → f k ≤ sum_to f n
unfolding sum_to
le-sum f n k l = omega (arith, sum_up f {m = suc k} {n = n} l)

pub sum_first : (f : ℕ → ℕ) (n : ℕ) → sum_to f (suc n) ≡ f 0 + sum_to (λ t. f (suc t)) n
unfolding sum_to
sum_first f zero = omega arith
sum_first f (suc n) = omega (arith, sum_first f n)

-- a bound that one term stays below
pub sum_lt : (f : ℕ → ℕ) (c n k : ℕ) → ((t : ℕ) → t < n → f t ≤ c) → k < n → f k < c → sum_to f n < c * n
unfolding sum_to
sum_lt f c zero k h l b = absurd (not-suc-le-zero l)
sum_lt f c (suc n) k h l b = go (eq-or-lt_of_le (le_of_suc-le-suc l)) (λ q. sum_lt f c n k (λ t m. h t (omega arith)) q b)
  where
    go : (k ≡ n) ⊎ (k < n) → (k < n → sum_to f n < c * n) → sum_to f n + f n < c * suc n
    go (inl e) ih = let b' : f n < c = rw e at b in omega (arith, sum-le f c n (λ t m. h t (omega arith)))
    go (inr q) ih = omega (arith, ih q, h n (omega arith))

pub count_none : (p : ℕ → Bool) (n : ℕ) → ((t : ℕ) → t < n → p t ≡ false) → count_to p n ≡ 0
count_none p n h = omega (arith, sum_ext (λ t. bit (p t)) (λ t. 0) n (λ t l. ap bit (h t l)), sum_const 0 n)

-- a property that at most one slot has
pub count-once : (p : ℕ → Bool) (n : ℕ) → ((t u : ℕ) → p t ≡ true → p u ≡ true → t ≡ u) → count_to p n ≤ 1
unfolding sum_to
count-once p zero h = omega arith
count-once p (suc n) h = go (p n) refl (count-once p n h)
  where
    other : (t : ℕ) → t < n → p n ≡ true → (b : Bool) → p t ≡ b → p t ≡ false
    other t l e true q = absurd (omega (arith, h t n q e))
    other t l e false q = q

    go : (b : Bool) → p n ≡ b → count_to p n ≤ 1 → count_to p n + bit (p n) ≤ 1
    go true e ih = rw e (omega (arith, count_none p n (λ t l. other t l e (p t) refl)))
    go false e ih = rw e (omega arith)

pub sum-sub : (f g : ℕ → ℕ) (n : ℕ) → ((t : ℕ) → t < n → f t ≤ g t) → sum_to (λ t. g t - f t) n ≡ sum_to g n - sum_to f n
sum-sub f g n h = omega (arith, sum-add (λ t. g t - f t) f n, sum_ext (λ t. g t - f t + f t) g n (λ t l. sub-add_cancel (h t l)))

-- nothing from D on
pub sum_quiet : (f : ℕ → ℕ) (D N : ℕ) → ((t : ℕ) → D ≤ t → f t ≡ 0) → sum_to f N ≤ sum_to f D
sum_quiet f D N h = go (lt-or_ge D N)
  where
    go : (D < N) ⊎ (N ≤ D) → sum_to f N ≤ sum_to f D
    go (inl l) =
        let none : sum_to (λ t. f (D + t)) (N - D) ≡ 0 = sum_ext (λ t. f (D + t)) (λ t. 0) (N - D) (λ t b. h (D + t) (omega arith)) ∙ sum-zero (N - D) in
        rw (← add-sub_of_le (le_of_lt l)) (omega (arith, sum-split f D (N - D)))
    go (inr l) = sum_up f l

-- how many of the first n numbers stand before a falling g comes to 0: the least t with g t ≡ 0, if there is one up to n
module _ (g : ℕ → ℕ) (falls : (t : ℕ) → g (suc t) ≤ g t) where
  down : (m n : ℕ) → g (m + n) ≤ g m
  down m zero = rw add-zero (omega arith)
  down m (suc n) = rw add-suc (omega (arith, falls (m + n), down m n))

  all-before : (n : ℕ) → 0 < g n → count_to (λ t. ltb 0 (g t)) n ≡ n
  unfolding sum_to
  all-before zero h = refl
  all-before (suc n) h =
      let h' : 0 < g n = omega (arith, falls n) in
      omega (arith, all-before n h', ap bit (lt-ltb 0 (g n) h'))

  pub first-zero : (n : ℕ) → g n ≡ 0 → g (count_to (λ t. ltb 0 (g t)) n) ≡ 0
  unfolding sum_to
  first-zero zero e = e
  first-zero (suc n) e = go (lt-or_ge 0 (g n)) (first-zero n)
    where
      go : (0 < g n) ⊎ (g n ≤ 0) → (g n ≡ 0 → g (count_to (λ t. ltb 0 (g t)) n) ≡ 0) → g (count_to (λ t. ltb 0 (g t)) n + bit (ltb 0 (g n))) ≡ 0
      go (inl h) ih =
          let q : count_to (λ t. ltb 0 (g t)) n + bit (ltb 0 (g n)) ≡ suc n = omega (arith, all-before n h, ap bit (lt-ltb 0 (g n) h)) in
          ap g q ∙ e
      go (inr h) ih =
          let q : count_to (λ t. ltb 0 (g t)) n + bit (ltb 0 (g n)) ≡ count_to (λ t. ltb 0 (g t)) n = omega (arith, ap bit (le-ltb 0 (g n) h)) in
          ap g q ∙ ih (omega arith)

  pub before-zero : (n t : ℕ) → t < count_to (λ u. ltb 0 (g u)) n → 0 < g t
  unfolding sum_to
  before-zero zero t l = absurd (not-suc-le-zero l)
  before-zero (suc n) t l = go (lt-or_ge 0 (g n)) (before-zero n t)
    where
      go : (0 < g n) ⊎ (g n ≤ 0) → (t < count_to (λ u. ltb 0 (g u)) n → 0 < g t) → 0 < g t
      go (inl h) ih =
          let b : t ≤ n = omega (arith, all-before n h, ap bit (lt-ltb 0 (g n) h)) in
          omega (arith, down t (n - t), ap g (add-sub_of_le b))
      go (inr h) ih = ih (omega (arith, ap bit (le-ltb 0 (g n) h)))

-- ---- counts
pub bit_most : (t : Bool) → bit t ≤ 1
bit_most true = omega arith
bit_most false = omega arith

-- two tests that never pass together
pub bit_or : (x y : Bool) → (x ≡ true → y ≡ true → ⊥) → bit (x || y) ≡ bit x + bit y
bit_or true true h = absurd (h refl refl)
bit_or true false h = refl
bit_or false y h = sym (zero-add (bit y))

pub count_most : (q : ℕ → Bool) (n : ℕ) → count_to q n ≤ n
count_most q n = omega (arith, sum-le (λ i. bit (q i)) 1 n (λ i l. bit_most (q i)))

-- a sum of nothing, and a sum of which one term counts
pub sum-nothing : (f : ℕ → ℕ) (n : ℕ) → ((k : ℕ) → k < n → f k ≡ 0) → sum_to f n ≡ 0
sum-nothing f n h = sum_ext f (λ k. 0) n h ∙ sum-zero n

pub sum_one : (f : ℕ → ℕ) (n k : ℕ) → k < n → ((i : ℕ) → i < n → (i ≡ k → ⊥) → f i ≡ 0) → sum_to f n ≡ f k
unfolding sum_to
sum_one f zero k l h = absurd (not-suc-le-zero l)
sum_one f (suc n) k l h = go (eq-or-lt_of_le (le_of_suc-le-suc l)) (λ q. sum_one f n k q (λ i b ne. h i (omega arith) ne))
  where
    go : (k ≡ n) ⊎ (k < n) → (k < n → sum_to f n ≡ f k) → sum_to f n + f n ≡ f k
    go (inl e) ih = omega (arith, ap f e, sum-nothing f n (λ i b. h i (omega arith) (λ (q : i ≡ k). omega arith)))
    go (inr q) ih = omega (arith, ih q, h n (omega arith) (λ (e : n ≡ k). omega arith))

-- terms at indices that differ are part of the whole sum
pub sum_distinct : (f at : ℕ → ℕ) (m n : ℕ) → ((k : ℕ) → k < m → at k < n) → ((j k : ℕ) → j < m → k < m → at j ≡ at k → j ≡ k) →
    sum_to (λ k. f (at k)) m ≤ sum_to f n
sum_distinct f at zero n below once = unfold sum_to in omega arith
sum_distinct f at (suc m) n below once = step (sum_distinct others at m n (λ k l. below k (omega arith)) (λ j k a b. once j k (omega arith) (omega arith)))
  where
    others : ℕ → ℕ
    others g = if eqb g (at m) then 0 else f g

    own : ℕ → ℕ
    own g = if eqb g (at m) then f g else 0

    split : (g : ℕ) → f g ≡ others g + own g
    split g = go (eqb g (at m))
      where
        go : (c : Bool) → f g ≡ (if c then 0 else f g) + (if c then f g else 0)
        go true = omega arith
        go false = omega arith

    elsewhere : (k : ℕ) → k < m → f (at k) ≡ others (at k)
    elsewhere k l = rw (ne_eqb (at k) (at m) (λ q. let e : k ≡ m = once k m (omega arith) (omega arith) q in omega arith)) refl

    alone : sum_to own n ≡ f (at m)
    alone =
        sum_one own n (at m) (below m (omega arith)) (λ g l ne. rw (ne_eqb g (at m) ne) refl) ∙
        (rw (eq-eqb (at m) (at m) refl) refl)

    step : sum_to (λ k. others (at k)) m ≤ sum_to others n → sum_to (λ k. f (at k)) (suc m) ≤ sum_to f n
    step ih =
        unfold sum_to in
        omega (arith, sum_ext (λ k. f (at k)) (λ k. others (at k)) m elsewhere, sum_ext f (λ g. others g + own g) n (λ g l. split g), sum-add others own n, alone)
