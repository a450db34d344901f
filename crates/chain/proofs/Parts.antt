-- The parts of a pseudo-job, the jobs that take something, counted and listed: each stands behind as many as there are
-- before it, so that a list of them grows at its end. Which job a part is, and that what a job without a take leaves as
-- it is stays from one part to the next. Assumes nothing.
use mathlib.Core.Path.{◌≡◌, refl, sym, ap, ◌∙◌}
use mathlib.Core.Logic.{◌⊎◌, inl, inr}
use mathlib.Core.List.{List}
use Prim.Native.Nat.{ℕ, zero, suc, ◌+◌, ◌-◌, ◌≤◌, ◌<◌}
use native.Mathlib.Numerals.{add-one}
use native.Mathlib.Omega.{arith}
use lib.ListN.{length, get_or, set}
use lib.Seq.{get_or-set_same, get_or-set_other}
use lib.Dec.{ltb}
use borrow.Author.Tests.{lt-ltb}
use Rattle.rules.specs.Walks.{bit, sum_to}
use Rattle.rules.proofs.Laws.Division.{lt-or_ge}
use Rattle.rules.proofs.Laws.Sums.{count_most, sum-split, sum_up, sum-nothing}
use Rattle.rules.proofs.Laws.Walks.{last_or}
use Rattle.chain.specs.Runs.{parts_below, PartsOf}

pub bit-some : (n : ℕ) → 0 < n → bit (ltb 0 n) ≡ 1
bit-some n l = rw (lt-ltb 0 n l) refl

pub bit-nothing : (n : ℕ) → n ≡ 0 → bit (ltb 0 n) ≡ 0
bit-nothing n e = rw e refl

-- where nothing comes from m to n, the sum stays
pub sum-stays : (f : ℕ → ℕ) (m n : ℕ) → m ≤ n → ((i : ℕ) → m ≤ i → i < n → f i ≡ 0) → sum_to f n ≡ sum_to f m
sum-stays f m n h quiet =
    let e : n ≡ m + (n - m) = omega arith in
    omega (arith, ap (sum_to f) e, sum-split f m (n - m), sum-nothing (λ t. f (m + t)) (n - m) (λ k l. quiet (m + k) (omega arith) (omega arith)))

module _ (take : ℕ → ℕ) where
  -- ---- how many there are
  pub parts_none : parts_below take 0 ≡ 0
  unfolding parts_below sum_to
  parts_none = refl

  pub parts_next : (n : ℕ) → parts_below take (n + 1) ≡ parts_below take n + bit (ltb 0 (take n))
  unfolding parts_below sum_to
  parts_next n = rw (add-one n) refl

  pub parts-few : (n : ℕ) → parts_below take n ≤ n
  unfolding parts_below
  parts-few n = count_most (λ i. ltb 0 (take i)) n

  pub parts-rise : {m n : ℕ} → m ≤ n → parts_below take m ≤ parts_below take n
  unfolding parts_below
  parts-rise h = sum_up (λ i. bit (ltb 0 (take i))) h

  -- a job that takes something is one more, another is not
  pub parts-some : (i : ℕ) → 0 < take i → parts_below take (i + 1) ≡ parts_below take i + 1
  parts-some i some = omega (arith, parts_next i, bit-some (take i) some)

  pub parts-nothing : (i : ℕ) → take i ≡ 0 → parts_below take (i + 1) ≡ parts_below take i
  parts-nothing i e = omega (arith, parts_next i, bit-nothing (take i) e)

  pub part-before : (i n : ℕ) → i < n → 0 < take i → parts_below take i < parts_below take n
  part-before i n h some =
      let l : i + 1 ≤ n = omega arith in
      omega (arith, parts-some i some, parts-rise l)

  pub parts_stay : (m n : ℕ) → m ≤ n → ((i : ℕ) → m ≤ i → i < n → take i ≡ 0) → parts_below take n ≡ parts_below take m
  unfolding parts_below
  parts_stay m n h quiet = sum-stays (λ i. bit (ltb 0 (take i))) m n h (λ i a b. bit-nothing (take i) (quiet i a b))

  -- ---- their list
  -- nothing is taken yet
  pub parts_of-none : (n : ℕ) (names takes : List ℕ) → ((i : ℕ) → i < n → take i ≡ 0) → PartsOf take n names takes 0
  parts_of-none n names takes quiet = record {
    count = sym (parts_stay 0 n (omega arith) (λ i a b. quiet i b) ∙ parts_none);
    name = λ i l some. absurd (omega (arith, quiet i l));
    amount = λ i l some. absurd (omega (arith, quiet i l));
  }

  -- job n is counted in where it takes something; what is stored for one that takes nothing is not read
  pub parts_of-next : (n v parts : ℕ) (names takes : List ℕ) → parts < length names → parts < length takes → v ≡ take n →
      PartsOf take n names takes parts → PartsOf take (n + 1) (set names parts n) (set takes parts v) (parts + bit (ltb 0 v))
  parts_of-next n v parts names takes room-names room-takes e so_far = record {
    count = rw (e, parts_next n, so_far.count) refl;
    name = λ i l some. last_or i n (rw add-one at l)
        (λ q. rw (q, ← so_far.count) (get_or-set_same names parts n 0 room-names))
        (λ b. get_or-set_other names parts (parts_below take i) n 0 (elsewhere i b some) ∙ so_far.name i b some);
    amount = λ i l some. last_or i n (rw add-one at l)
        (λ q. rw (q, ← so_far.count) (get_or-set_same takes parts v 0 room-takes ∙ e))
        (λ b. get_or-set_other takes parts (parts_below take i) v 0 (elsewhere i b some) ∙ so_far.amount i b some);
  }
    where
      elsewhere : (i : ℕ) → i < n → 0 < take i → parts_below take i ≡ parts → ⊥
      elsewhere i b some q = omega (arith, part-before i n b some, so_far.count)

  -- the jobs from m to n take nothing
  pub parts_of-rest : (m n parts : ℕ) (names takes : List ℕ) → m ≤ n → ((i : ℕ) → m ≤ i → i < n → take i ≡ 0) → PartsOf take m names takes parts →
      PartsOf take n names takes parts
  parts_of-rest m n parts names takes h quiet so_far = record {
    count = so_far.count ∙ sym (parts_stay m n h quiet);
    name = λ i l some. so_far.name i (early i l some) some;
    amount = λ i l some. so_far.amount i (early i l some) some;
  }
    where
      early : (i : ℕ) → i < n → 0 < take i → i < m
      early i l some = go (lt-or_ge i m)
        where
          go : (i < m) ⊎ (m ≤ i) → i < m
          go (inl b) = b
          go (inr b) = absurd (omega (arith, quiet i b l))

  -- ---- from part to job
  -- the job of a part
  pub part-job : (n q : ℕ) → q < parts_below take n → (j : ℕ) × (j < n) × (0 < take j) × (parts_below take j ≡ q)
  part-job zero q l = absurd (omega (arith, parts_none))
  part-job (suc n) q l = go (lt-or_ge q (parts_below take n)) (lt-or_ge 0 (take n)) (part-job n q)
    where
      next : parts_below take (suc n) ≡ parts_below take n + bit (ltb 0 (take n))
      next = rw (← add-one n) (parts_next n)

      go : (q < parts_below take n) ⊎ (parts_below take n ≤ q) → (0 < take n) ⊎ (take n ≤ 0) →
          (q < parts_below take n → (j : ℕ) × (j < n) × (0 < take j) × (parts_below take j ≡ q)) →
          (j : ℕ) × (j < suc n) × (0 < take j) × (parts_below take j ≡ q)
      go (inl b) _ ih = let w = ih b in (w.0, omega (arith, w.1), w.2, w.3)
      go (inr b) (inl some) ih = (n, omega arith, some, omega (arith, next, bit-some (take n) some))
      go (inr b) (inr none) ih = absurd (omega (arith, next, bit-nothing (take n) (omega arith)))

  -- it takes no more than each job may
  pub amount-within : (n : ℕ) (names takes : List ℕ) (parts most : ℕ) → PartsOf take n names takes parts → ((i : ℕ) → i < n → take i ≤ most) →
      (q : ℕ) → q < parts → get_or takes q 0 ≤ most
  amount-within n names takes parts most v within q l =
      let j = part-job n q (omega (arith, v.count)) in
      rw (← j.3) (omega (arith, v.amount j.0 j.1 j.2, within j.0 j.1))

-- part q is this job, and P holds of it
pub record PartAt (take : ℕ → ℕ) (n : ℕ) (names takes : List ℕ) (q : ℕ) (P : ℕ → Type 0) : Type 0 where
  pub job : ℕ
  pub job_in : job < n
  pub name_is : get_or names q 0 ≡ job
  pub amount_is : get_or takes q 0 ≡ take job
  pub one_more : parts_below take (job + 1) ≡ q + 1
  pub holds : P job

-- ---- from job to job, where a job that takes nothing leaves P as it is
module _ (take : ℕ → ℕ) (n : ℕ) (names takes : List ℕ) (parts : ℕ) (v : PartsOf take n names takes parts) (P : ℕ → Type 0)
    (pass : (i : ℕ) → i < n → take i ≡ 0 → P i → P (i + 1)) where
  -- P holds of job m, behind q parts, and so of part q
  part-from : (d m q : ℕ) → m + d ≡ n → parts_below take m ≡ q → q < parts → P m → PartAt take n names takes q P
  part-from zero m q e r l p =
      let z : n ≡ m = omega arith in
      absurd (omega (arith, v.count, ap (parts_below take) z))
  part-from (suc d) m q e r l p = go (lt-or_ge 0 (take m)) (part-from d (m + 1) q (omega arith))
    where
      go : (0 < take m) ⊎ (take m ≤ 0) → (parts_below take (m + 1) ≡ q → q < parts → P (m + 1) → PartAt take n names takes q P) →
          PartAt take n names takes q P
      go (inl some) ih = record {
        job = m;
        job_in = omega arith;
        name_is = rw (← r) (v.name m (omega arith) some);
        amount_is = rw (← r) (v.amount m (omega arith) some);
        one_more = omega (arith, parts-some take m some);
        holds = p;
      }
      go (inr none) ih = ih (omega (arith, parts-nothing take m (omega arith))) l (pass m (omega arith) (omega arith) p)

  -- behind the last part it holds of the end
  rest_from : (d m : ℕ) → m + d ≡ n → parts_below take m ≡ parts → P m → P n
  rest_from zero m e r p =
      let z : n ≡ m = omega arith in
      rw z p
  rest_from (suc d) m e r p = go (lt-or_ge 0 (take m)) (rest_from d (m + 1) (omega arith))
    where
      go : (0 < take m) ⊎ (take m ≤ 0) → (parts_below take (m + 1) ≡ parts → P (m + 1) → P n) → P n
      go (inl some) ih = absurd (omega (arith, v.count, part-before take m n (omega arith) some))
      go (inr none) ih = ih (omega (arith, parts-nothing take m (omega arith))) (pass m (omega arith) (omega arith) p)

  pub part_at : (m q : ℕ) → m ≤ n → parts_below take m ≡ q → q < parts → P m → PartAt take n names takes q P
  part_at m q h r l p = part-from (n - m) m q (omega arith) r l p

  pub past-parts : (m : ℕ) → m ≤ n → parts ≤ parts_below take m → P m → P n
  past-parts m h r p = rest_from (n - m) m (omega arith) (omega (arith, v.count, parts-rise take h)) p
