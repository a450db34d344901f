-- Lists in strictly rising order, over any order of their elements: each element comes before all that stand after it.
-- Lists that are joined rise where each of them rises and its elements come before those of the later ones. Two rising lists with the same
-- elements are equal: the first of each is in the other, so neither can come before the other. An element that is put where it belongs keeps a list
-- rising. Assumes nothing.
use mathlib.Core.Path.{◌≡◌, refl, sym, ap, ◌∙◌, subst}
use mathlib.Core.Logic.{◌⊎◌, inl, inr, ⊎_elim}
use mathlib.Core.Bool.{Bool, true, false, false≢true}
use Prim.Native.Nat.{ℕ, zero, suc, ◌<◌}
use native.Mathlib.Nat.{not-suc-le-zero, lt-suc_self}
use native.Mathlib.Omega.{arith}
use mathlib.Core.List.Memᴰ
use mathlib.Core.List.{List, [], ◌∷◌, ◌++◌, Memᴰ}
use lib.ListN.{length, get_or}
use Rattle.std.specs.Prelude.{if◌then◌else◌}
use Rattle.rules.specs.Walks.{join_from}
use Rattle.rules.proofs.Laws.Walks.{last_or, join_last}

-- x is an element of a list
infix 20 ◌∈◌
abbrev pub ◌∈◌ : {A : Type 0} → A → List A → Type 0
x ∈ xs = Memᴰ x xs

-- ---- elements
pub first_in : {A : Type 0} (x : A) (xs : List A) → x ∈ x ∷ xs
first_in x xs = Memᴰ.head refl

pub at_in : {A : Type 0} (xs : List A) (k : ℕ) (d : A) → k < length xs → get_or xs k d ∈ xs
at_in [] k d h = absurd (not-suc-le-zero h)
at_in (x ∷ xs) zero d h = first_in x xs
at_in (x ∷ xs) (suc k) d h = Memᴰ.tail (at_in xs k d (omega arith))

-- where an element stands
pub in-at : {A : Type 0} {x : A} {xs : List A} (d : A) → x ∈ xs → (k : ℕ) × (k < length xs) × (get_or xs k d ≡ x)
in-at d (Memᴰ.head e) = (0, omega arith, sym e)
in-at d (Memᴰ.tail m) = let w = in-at d m in (suc w.0, omega (arith, w.1), w.2)

-- ---- lists joined from 0 on
pub join_in : {A : Type 0} (g : ℕ → List A) (n : ℕ) {x : A} → x ∈ join_from g n 0 → (k : ℕ) × (k < n) × (x ∈ g k)
unfolding join_from
join_in g zero m = absurd (Memᴰ.not-nil m)
join_in g (suc n) {x} m = go (Memᴰ.append_cases (join_from g n 0) (subst (λ l. x ∈ l) (join_last g n) m)) (join_in g n)
  where
    go : (x ∈ join_from g n 0) ⊎ (x ∈ g n) → (x ∈ join_from g n 0 → (k : ℕ) × (k < n) × (x ∈ g k)) → (k : ℕ) × (k < suc n) × (x ∈ g k)
    go (inl l) ih = let w = ih l in (w.0, omega (arith, w.1), w.2)
    go (inr r) ih = (n, lt-suc_self n, r)

pub in_join : {A : Type 0} (g : ℕ → List A) (n k : ℕ) {x : A} → k < n → x ∈ g k → x ∈ join_from g n 0
in_join g zero k l m = absurd (not-suc-le-zero l)
in_join g (suc n) k {x} l m =
    subst (λ xs. x ∈ xs) (sym (join_last g n))
    (last_or k n l
    (λ e. Memᴰ.append_right (join_from g n 0) (subst (λ j. x ∈ g j) e m))
    (λ b. Memᴰ.append_left (g n) (in_join g n k b m)))

-- ---- rising lists
module _ {A : Type 0} (Before : A → A → Type 0) where
  -- each element comes before all that stand after it
  unfoldable pub Rising : List A → Type 0
  Rising [] = Unit
  Rising (x ∷ xs) = ((y : A) → y ∈ xs → Before x y) × Rising xs

  pub rising-append : (xs ys : List A) → Rising xs → Rising ys → ((x y : A) → x ∈ xs → y ∈ ys → Before x y) → Rising (xs ++ ys)
  unfolding Rising
  rising-append [] ys p q h = q
  rising-append (x ∷ xs) ys p q h = (
    λ y m. ⊎_elim (λ l. p.0 y l) (λ r. h x y (first_in x xs) r) (Memᴰ.append_cases xs m),
    rising-append xs ys p.1 q (λ z y l r. h z y (Memᴰ.tail l) r),
  )

  pub rising-after : (xs ys : List A) → Rising (xs ++ ys) → Rising ys
  unfolding Rising
  rising-after [] ys p = p
  rising-after (x ∷ xs) ys p = rising-after xs ys p.1

  -- of two positions the earlier one comes before the later one
  pub rising-at : (xs : List A) (d : A) → Rising xs → (m n : ℕ) → m < n → n < length xs → Before (get_or xs m d) (get_or xs n d)
  unfolding Rising
  rising-at [] d h m n l k = absurd (not-suc-le-zero k)
  rising-at (x ∷ xs) d h m zero l k = absurd (not-suc-le-zero l)
  rising-at (x ∷ xs) d h zero (suc n) l k = h.0 (get_or xs n d) (at_in xs n d (omega arith))
  rising-at (x ∷ xs) d h (suc m) (suc n) l k = rising-at xs d h.1 m n (omega arith) (omega arith)

  pub rising_join : (g : ℕ → List A) (n : ℕ) → ((k : ℕ) → k < n → Rising (g k)) →
      ((j k : ℕ) → j < k → k < n → (x y : A) → x ∈ g j → y ∈ g k → Before x y) → Rising (join_from g n 0)
  unfolding Rising join_from
  rising_join g zero each across = tt
  rising_join g (suc n) each across =
      subst Rising (sym (join_last g n))
      (rising-append (join_from g n 0) (g n)
      (rising_join g n (λ k l. each k (omega arith)) (λ j k l m. across j k l (omega arith)))
      (each n (lt-suc_self n))
      (λ x y l r. let w = join_in g n l in across w.0 n w.1 (lt-suc_self n) x y w.2 r))

  module _ (asymmetric : (x y : A) → Before x y → Before y x → ⊥) where
    pub rising_unique : (xs ys : List A) → Rising xs → Rising ys → ((z : A) → z ∈ xs → z ∈ ys) → ((z : A) → z ∈ ys → z ∈ xs) → xs ≡ ys
    unfolding Rising
    rising_unique [] [] p q to from = refl
    rising_unique [] (y ∷ ys) p q to from = absurd (Memᴰ.not-nil (from y (first_in y ys)))
    rising_unique (x ∷ xs) [] p q to from = absurd (Memᴰ.not-nil (to x (first_in x xs)))
    rising_unique (x ∷ xs) (y ∷ ys) p q to from =
        let same = firsts (Memᴰ.cases_cons (to x (first_in x xs))) (Memᴰ.cases_cons (from y (first_in y ys))) in
        let rest = rising_unique xs ys p.1 q.1
        (λ z m. beyond p.0 same m (Memᴰ.cases_cons (to z (Memᴰ.tail m))))
        (λ z m. beyond q.0 (sym same) m (Memᴰ.cases_cons (from z (Memᴰ.tail m)))) in
        rw (same, rest) refl
      where
        firsts : (x ≡ y) ⊎ (x ∈ ys) → (y ≡ x) ⊎ (y ∈ xs) → x ≡ y
        firsts (inl e) o = e
        firsts (inr m) (inl e) = sym e
        firsts (inr m) (inr l) = absurd (asymmetric x y (p.0 y l) (q.0 x m))

        -- what stands after the first one is not the first one
        beyond : {u v z : A} {us vs : List A} → ((w : A) → w ∈ us → Before u w) → u ≡ v → z ∈ us → (z ≡ v) ⊎ (z ∈ vs) → z ∈ vs
        beyond {u} {v} {z} h e m (inl d) = let b : Before u u = subst (λ w. Before u w) (d ∙ sym e) (h z m) in absurd (asymmetric u u b b)
        beyond h e m (inr l) = l

-- ---- elements put where they belong, one after another
-- an element is put behind those that a test says come before it
pub record Inserts {A : Type 0} (before : A → A → Bool) (insert : A → List A → List A) : Type 0 where
  pub first : (x : A) → insert x [] ≡ x ∷ []
  pub next : (x y : A) (ys : List A) → insert x (y ∷ ys) ≡ (if before y x then y ∷ insert x ys else x ∷ y ∷ ys)

module _ {A : Type 0} {before : A → A → Bool} {insert : A → List A → List A} (i : Inserts before insert) where
  pub insert-length : (x : A) (ys : List A) → length (insert x ys) ≡ suc (length ys)
  insert-length x [] = ap length (i.first x)
  insert-length x (y ∷ ys) = ap length (i.next x y ys) ∙ go (before y x) (insert-length x ys)
    where
      go : (t : Bool) → length (insert x ys) ≡ suc (length ys) → length (if t then y ∷ insert x ys else x ∷ y ∷ ys) ≡ suc (suc (length ys))
      go true ih = ap suc ih
      go false ih = refl

  pub insert_in : (x : A) (ys : List A) {z : A} → z ∈ insert x ys → z ∈ x ∷ ys
  insert_in x [] {z} m = subst (λ l. z ∈ l) (i.first x) m
  insert_in x (y ∷ ys) {z} m = go (before y x) (subst (λ l. z ∈ l) (i.next x y ys) m) (insert_in x ys)
    where
      go : (t : Bool) → z ∈ (if t then y ∷ insert x ys else x ∷ y ∷ ys) → (z ∈ insert x ys → z ∈ x ∷ ys) → z ∈ x ∷ y ∷ ys
      go false n ih = n
      go true n ih =
          ⊎_elim (λ e. Memᴰ.tail (Memᴰ.head e))
          (λ l. ⊎_elim Memᴰ.head (λ k. Memᴰ.tail (Memᴰ.tail k)) (Memᴰ.cases_cons (ih l))) (Memᴰ.cases_cons n)

  pub in_insert : (x : A) (ys : List A) {z : A} → z ∈ x ∷ ys → z ∈ insert x ys
  in_insert x [] {z} m = subst (λ l. z ∈ l) (sym (i.first x)) m
  in_insert x (y ∷ ys) {z} m = subst (λ l. z ∈ l) (sym (i.next x y ys)) (go (before y x) (in_insert x ys))
    where
      go : (t : Bool) → (z ∈ x ∷ ys → z ∈ insert x ys) → z ∈ (if t then y ∷ insert x ys else x ∷ y ∷ ys)
      go false ih = m
      go true ih =
          ⊎_elim (λ e. Memᴰ.tail (ih (Memᴰ.head e)))
          (λ l. ⊎_elim Memᴰ.head (λ k. Memᴰ.tail (ih (Memᴰ.tail k))) (Memᴰ.cases_cons l)) (Memᴰ.cases_cons m)

  -- where the test says the order, and the element comes before each or after it, rising order is kept
  pub insert-rising : (Before : A → A → Type 0) → ((x y z : A) → Before x y → Before y z → Before x z) → ((x y : A) → before x y ≡ true → Before x y) →
      ((x y : A) → Before x y → before x y ≡ true) →
      (x : A) (ys : List A) → ((y : A) → y ∈ ys → Before y x ⊎ Before x y) → Rising Before ys → Rising Before (insert x ys)
  unfolding Rising
  insert-rising Before trans says tests x [] differ h = subst (Rising Before) (sym (i.first x)) (λ y m. absurd (Memᴰ.not-nil m), tt)
  insert-rising Before trans says tests x (y ∷ ys) differ h =
      subst (Rising Before) (sym (i.next x y ys))
      (go (before y x) refl (insert-rising Before trans says tests x ys (λ z m. differ z (Memᴰ.tail m)) h.1))
    where
      after : Before y x → (z : A) → (z ≡ x) ⊎ (z ∈ ys) → Before y z
      after l z (inl e) = rw e l
      after l z (inr m) = h.0 z m

      first : Before x y → (z : A) → (z ≡ y) ⊎ (z ∈ ys) → Before x z
      first l z (inl e) = rw e l
      first l z (inr m) = trans x y z l (h.0 z m)

      other : before y x ≡ false → Before y x ⊎ Before x y → Before x y
      other e (inl l) = absurd (false≢true (sym e ∙ tests y x l))
      other e (inr l) = l

      go : (t : Bool) → before y x ≡ t → Rising Before (insert x ys) → Rising Before (if t then y ∷ insert x ys else x ∷ y ∷ ys)
      go true e ih = (λ z m. after (says y x e) z (Memᴰ.cases_cons (insert_in x ys m)), ih)
      go false e ih = (λ z m. first (other e (differ y (first_in y ys))) z (Memᴰ.cases_cons m), h)
