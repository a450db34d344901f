-- What follows from rule 5, McNaughton's wrap-around in whole units: a closed formula counts the units of the stated numbering.
-- Full slots of the run bring each job its take, and a part of a slot is laid out one job after the other. From the formula come
-- shares that stay within takes, that sum to what is given, and a form without division for one slot. Assumes nothing.
use mathlib.Core.Path.{◌≡◌, refl, sym, ap, ◌∙◌}
use mathlib.Core.Logic.{◌⊎◌, inl, inr}
use mathlib.Core.List.{List, [], ◌∷◌, ◌++◌}
use Prim.Native.Nat.{ℕ, zero, suc, ◌+◌, ◌*◌, ◌-◌, ◌/◌, ◌%◌, ◌≤◌, ◌<◌, min, max}
use native.Mathlib.Nat.{
  div-add-mod',
  mod-lt,
  mul-le-mul_right,
  le_of_eq,
  le_of_lt,
  add-div_right,
  add-mod_right,
  mul-div_cancel,
  mul-mod_left,
  zero-div,
  zero-mod,
  div-eq_of_lt,
  mod-eq_of_lt,
  not-suc-le-zero,
  zero-sub,
  sub-zero,
  add-zero,
  add_comm,
  min-zero,
  max-eq_left,
  max-eq_right,
}
use native.Mathlib.Omega.{arith}
use lib.ListN.{length, length-append, length-replicate, take, drop, replicate}
use lib.Seq.{take-add, take-nil}
use borrow.Author.Tests.{eq-eqb, ne_eqb}
use Rattle.rules.specs.Walks.{sum_to, join_from}
use Rattle.rules.specs.Book.{Flow, job_count}
use Rattle.rules.specs.Ideal.{take_of}
use Rattle.rules.specs.PseudoJobs.{PseudoJob, rate, work}
use Rattle.rules.specs.Placing.{slot_units, units, units_of, share}
use Rattle.rules.proofs.Laws.Division.{lt-or_ge, div-mod_mono}
use Rattle.rules.proofs.Laws.Sums.{sum_ext, sum-add, sum_scale, sum_const, sum_up}
use Rattle.rules.proofs.Laws.Walks.{last_or, join-snoc, join-length}

-- the units of a slot of the run that come before those of job i
unfoldable pub units_before : Flow → PseudoJob → ℕ → ℕ
units_before w p i = sum_to (λ k. take_of w k p.first) i

-- of the first x units of the pseudo-job, those of job i
unfoldable pub share_up_to : Flow → PseudoJob → ℕ → ℕ → ℕ
share_up_to w p i x = x / rate w p * take_of w i p.first + min (take_of w i p.first) (x % rate w p - units_before w p i)

-- ---- counting units in lists
units_of-append : (i : ℕ) (xs ys : List ℕ) → units_of i (xs ++ ys) ≡ units_of i xs + units_of i ys
unfolding units_of
units_of-append i [] ys = omega arith
units_of-append i (k ∷ xs) ys = omega (arith, units_of-append i xs ys)

-- the first m units of two lists
units_of_two : (i m : ℕ) (xs ys : List ℕ) → units_of i (take m (xs ++ ys)) ≡ units_of i (take m xs) + units_of i (take (m - length xs) ys)
unfolding units_of
units_of_two i zero xs ys = rw (zero-sub (length xs)) (omega arith)
units_of_two i (suc m) [] ys = rw (sub-zero (suc m)) (omega arith)
units_of_two i (suc m) (k ∷ xs) ys =
    let q : suc m - suc (length xs) ≡ m - length xs = omega arith in
    rw q (omega (arith, units_of_two i m xs ys))

own-units : (i m n : ℕ) → units_of i (take m (replicate n i)) ≡ min n m
unfolding units_of
own-units i zero n = omega arith
own-units i (suc m) zero = omega arith
own-units i (suc m) (suc n) = rw (eq-eqb i i refl) (omega (arith, own-units i m n))

other-units : (i k m n : ℕ) → (k ≡ i → ⊥) → units_of i (take m (replicate n k)) ≡ 0
unfolding units_of
other-units i k zero n ne = refl
other-units i k (suc m) zero ne = refl
other-units i k (suc m) (suc n) ne = rw (ne_eqb k i ne) (omega (arith, other-units i k m n ne))

-- ---- one slot, where job k takes a k: the jobs below n, one after the other
module _ (a : ℕ → ℕ) where
  abbrev layout : ℕ → List ℕ
  layout n = join_from (λ k. replicate (a k) k) n 0

  layout-next : (n : ℕ) → layout (suc n) ≡ layout n ++ replicate (a n) n
  layout-next n = let z : 0 + n ≡ n = omega arith in join-snoc (λ k. replicate (a k) k) n 0 ∙ ap (λ (k : ℕ). layout n ++ replicate (a k) k) z

  layout-length : (n : ℕ) → length (layout n) ≡ sum_to a n
  unfolding sum_to join_from
  layout-length zero = refl
  layout-length (suc n) = rw (layout-next n, length-append, length-replicate, layout-length n) refl

  layout-without : (i m n : ℕ) → n ≤ i → units_of i (take m (layout n)) ≡ 0
  unfolding join_from units_of
  layout-without i m zero h = ap (units_of i) (take-nil m)
  layout-without i m (suc n) h =
      rw (layout-next n)
      (omega (
        arith,
        units_of_two i m (layout n) (replicate (a n) n),
        layout-without i m n (omega arith),
        other-units i n (m - length (layout n)) (a n) (λ q. omega arith),
      ))

  -- of the first m units of the slot, job i has what is left of them after the jobs below it, at most its take
  layout-part : (i m n : ℕ) → i < n → units_of i (take m (layout n)) ≡ min (a i) (m - sum_to a i)
  layout-part i m zero h = absurd (not-suc-le-zero h)
  layout-part i m (suc n) h =
      rw (layout-next n)
      (last_or i n h
      (λ q. omega (
        arith,
        units_of_two i m (layout n) (replicate (a n) n),
        layout-without i m n (omega arith),
        ap (λ (k : ℕ). units_of i (take (m - length (layout n)) (replicate (a n) k))) (sym q),
        own-units i (m - length (layout n)) (a n),
        layout-length n,
        ap a q,
        ap (sum_to a) q,
      ))
      (λ l. omega (
        arith,
        units_of_two i m (layout n) (replicate (a n) n),
        layout-part i m n l,
        other-units i n (m - length (layout n)) (a n) (λ q. omega arith),
      )))

-- the units from o to y that are among the a units from s on, where o stands before s, behind it, or anywhere
overlap-before : (y s a : ℕ) → min y (s + a) - s ≡ min a (y - s)
overlap-before y s a = omega arith

overlap-behind : (o y s a : ℕ) → s ≤ o → o ≤ y → min y (s + a) - o + min a (o - s) ≡ min a (y - s)
overlap-behind o y s a l h = omega arith

overlap : (o y s a : ℕ) → o ≤ y → min y (s + a) - max o s + min a (o - s) ≡ min a (y - s)
overlap o y s a h = go (lt-or_ge o s)
  where
    go : (o < s) ⊎ (s ≤ o) → min y (s + a) - max o s + min a (o - s) ≡ min a (y - s)
    go (inl l) =
        let z : o - s ≡ 0 = omega arith in
        rw (max-eq_right (le_of_lt l), z, overlap-before y s a, min-zero, add-zero) refl
    go (inr l) = rw (max-eq_left l) (overlap-behind o y s a l h)

module _ (w : Flow) (p : PseudoJob) where
  -- ---- the numbering: a slot has as many units as the rate, the pseudo-job as many as its work
  pub slot-units-length : length (slot_units w p) ≡ rate w p
  unfolding slot_units rate
  slot-units-length = layout-length (λ k. take_of w k p.first) (job_count w)

  pub units-length : length (units w p) ≡ work w p
  unfolding units work
  units-length =
      omega (arith, join-length (λ s. slot_units w p) p.width 0, sum_const (length (slot_units w p)) p.width, ap (◌* p.width) slot-units-length)

  -- a job's units in a slot stand within the slot
  pub units-within-rate : (i : ℕ) → i < job_count w → units_before w p i + take_of w i p.first ≤ rate w p
  unfolding units_before rate sum_to
  units-within-rate i l = sum_up (λ k. take_of w k p.first) {m = suc i} {n = job_count w} l

  slot-part : (i m : ℕ) → i < job_count w → units_of i (take m (slot_units w p)) ≡ min (take_of w i p.first) (m - units_before w p i)
  unfolding slot_units units_before
  slot-part i m l = layout-part (λ k. take_of w k p.first) i m (job_count w) l

  -- ---- the closed formula
  pub share-up_to-nothing : (i : ℕ) → 0 < rate w p → share_up_to w p i 0 ≡ 0
  unfolding share_up_to
  share-up_to-nothing i pos = rw (zero-div (rate w p), zero-mod (rate w p)) (omega arith)

  -- within the first slot of the run
  share_in-slot : (i x : ℕ) → x < rate w p → share_up_to w p i x ≡ min (take_of w i p.first) (x - units_before w p i)
  unfolding share_up_to
  share_in-slot i x l = rw (div-eq_of_lt l, mod-eq_of_lt l) (omega arith)

  -- one slot of the run further, each job has its take more
  pub share-up_to_round : (i x : ℕ) → 0 < rate w p → share_up_to w p i (x + rate w p) ≡ share_up_to w p i x + take_of w i p.first
  unfolding share_up_to
  share-up_to_round i x pos = rw (add-div_right x pos, add-mod_right x (rate w p)) (omega arith)

  -- whole slots of the run first
  share-after-slots : (i k y : ℕ) → 0 < rate w p → share_up_to w p i (k * rate w p + y) ≡ k * take_of w i p.first + share_up_to w p i y
  share-after-slots i zero y pos = let z : zero * rate w p + y ≡ y = omega arith in rw z (omega arith)
  share-after-slots i (suc k) y pos =
      let q : suc k * rate w p + y ≡ k * rate w p + y + rate w p = omega arith in
      rw q (omega (arith, share-up_to_round i (k * rate w p + y) pos, share-after-slots i k y pos))

  -- a whole run brings each job its take in each of its slots
  pub share-whole : (i : ℕ) → 0 < rate w p → share_up_to w p i (work w p) ≡ p.width * take_of w i p.first
  unfolding share_up_to work
  share-whole i pos = rw (mul-div_cancel p.width pos, mul-mod_left p.width (rate w p)) (omega arith)

  pub share_monotone : (i x y : ℕ) → 0 < rate w p → x ≤ y → share_up_to w p i x ≤ share_up_to w p i y
  unfolding share_up_to
  share_monotone i x y pos h = go (div-mod_mono x y pos h)
    where
      go : (x / rate w p < y / rate w p) ⊎ ((x / rate w p ≡ y / rate w p) × (x % rate w p ≤ y % rate w p)) → share_up_to w p i x ≤ share_up_to w p i y
      go (inl l) = omega (arith, mul-le-mul_right (take_of w i p.first) l)
      go (inr e) = omega (arith, mul-le-mul_right (take_of w i p.first) (le_of_eq e.0), e.1)

  -- a job that takes nothing has no share
  pub share-up_to-none : (i x : ℕ) → take_of w i p.first ≡ 0 → share_up_to w p i x ≡ 0
  unfolding share_up_to
  share-up_to-none i x e = rw e (omega arith)

  -- the shares of all jobs are the units
  fill : (m n : ℕ) → sum_to (λ i. min (take_of w i p.first) (m - units_before w p i)) n ≡ min (units_before w p n) m
  unfolding sum_to units_before
  fill m zero = omega arith
  fill m (suc n) = omega (arith, fill m n)

  pub shares-up_to-sum : (x : ℕ) → 0 < rate w p → sum_to (λ i. share_up_to w p i x) (job_count w) ≡ x
  unfolding share_up_to units_before rate
  shares-up_to-sum x pos =
      omega (
        arith,
        sum-add (λ i. x / rate w p * take_of w i p.first) (λ i. min (take_of w i p.first) (x % rate w p - units_before w p i)) (job_count w),
        sum_scale (x / rate w p) (λ i. take_of w i p.first) (job_count w),
        fill (x % rate w p) (job_count w),
        div-add-mod' x (rate w p),
        mod-lt x pos,
      )

  -- ---- the closed formula counts the units of the numbering
  counts-from : (i width s x : ℕ) → 0 < rate w p → x ≤ width * rate w p → i < job_count w →
      units_of i (take x (join_from (λ t. slot_units w p) width s)) ≡ share_up_to w p i x
  unfolding join_from units_of
  counts-from i zero s x pos h l =
      let z : x ≡ 0 = omega arith in
      rw z (sym (share-up_to-nothing i pos))
  counts-from i (suc width) s x pos h l =
      units_of_two i x (slot_units w p) (join_from (λ t. slot_units w p) width (s + 1)) ∙
      (rw slot-units-length (go (lt-or_ge x (rate w p)) (λ y m. counts-from i width (s + 1) y pos m l)))
    where
      rest : ℕ → ℕ
      rest y = units_of i (take y (join_from (λ t. slot_units w p) width (s + 1)))

      go : (x < rate w p) ⊎ (rate w p ≤ x) → ((y : ℕ) → y ≤ width * rate w p → rest y ≡ share_up_to w p i y) →
          units_of i (take x (slot_units w p)) + rest (x - rate w p) ≡ share_up_to w p i x
      go (inl m) ih =
          let z : x - rate w p ≡ 0 = omega arith in
          omega (arith, slot-part i x l, ap rest z, share_in-slot i x m)
      go (inr m) ih =
          let q : x - rate w p + rate w p ≡ x = omega arith in
          omega (
            arith,
            slot-part i x l,
            units-within-rate i l,
            ih (x - rate w p) (omega arith),
            share-up_to_round i (x - rate w p) pos,
            ap (share_up_to w p i) q,
          )

  pub share_counts : (i x : ℕ) → 0 < rate w p → x ≤ work w p → i < job_count w → units_of i (take x (units w p)) ≡ share_up_to w p i x
  unfolding units work
  share_counts i x pos h l = counts-from i p.width 0 x pos h l

  -- ---- what a job has in a real slot that uses n units after the first x
  pub share-law : (i x n : ℕ) → 0 < rate w p → x + n ≤ work w p → i < job_count w → share w p i x n + share_up_to w p i x ≡ share_up_to w p i (x + n)
  unfolding share
  share-law i x n pos h l =
      omega (
        arith,
        share_counts i x pos (omega arith) l,
        share_counts i (x + n) pos h l,
        ap (units_of i) (take-add x n (units w p)),
        units_of-append i (take x (units w p)) (take n (drop x (units w p))),
      )

  pub share_of-nothing : (i x : ℕ) → share w p i x 0 ≡ 0
  unfolding share units_of
  share_of-nothing i x = refl

  -- no job has more than its take in a slot that uses at most as many units as the rate: no job can pass its cap
  pub share-within-take : (i x n : ℕ) → 0 < rate w p → x + n ≤ work w p → n ≤ rate w p → i < job_count w → share w p i x n ≤ take_of w i p.first
  share-within-take i x n pos h m l =
      omega (arith, share-law i x n pos h l, share-up_to_round i x pos, share_monotone i (x + n) (x + rate w p) pos (omega arith))

  pub share-none : (i x n : ℕ) → 0 < rate w p → x + n ≤ work w p → i < job_count w → take_of w i p.first ≡ 0 → share w p i x n ≡ 0
  share-none i x n pos h l e = omega (arith, share-law i x n pos h l, share-up_to-none i (x + n) e)

  -- together the jobs have what the slot uses
  pub shares_sum : (x n : ℕ) → 0 < rate w p → x + n ≤ work w p → sum_to (λ i. share w p i x n) (job_count w) ≡ n
  shares_sum x n pos h =
      omega (
        arith,
        sum-add (λ i. share w p i x n) (λ i. share_up_to w p i x) (job_count w),
        sum_ext (λ i. share w p i x n + share_up_to w p i x) (λ i. share_up_to w p i (x + n)) (job_count w) (λ i l. share-law i x n pos h l),
        shares-up_to-sum x pos,
        shares-up_to-sum (x + n) pos,
      )

  -- of the first y units of two slots of the run: those of job i in the one and in the other
  share_in_two-slots : (i y : ℕ) → 0 < rate w p → y < rate w p + rate w p → i < job_count w →
      share_up_to w p i y ≡ min (take_of w i p.first) (y - units_before w p i) + min (take_of w i p.first) (y - (units_before w p i + rate w p))
  share_in_two-slots i y pos b l = go (lt-or_ge y (rate w p))
    where
      go : (y < rate w p) ⊎ (rate w p ≤ y) →
          share_up_to w p i y ≡ min (take_of w i p.first) (y - units_before w p i) + min (take_of w i p.first) (y - (units_before w p i + rate w p))
      go (inl g) = omega (arith, share_in-slot i y g)
      go (inr g) =
          let q : y - rate w p + rate w p ≡ y = omega arith in
          let first : min (take_of w i p.first) (y - units_before w p i) ≡ take_of w i p.first = omega (arith, units-within-rate i l) in
          let second : y - (units_before w p i + rate w p) ≡ y - rate w p - units_before w p i = omega arith in
          let inside : y - rate w p < rate w p = omega arith in
          rw (first, second, ← share_in-slot i (y - rate w p) inside, add_comm (take_of w i p.first) (share_up_to w p i (y - rate w p)))
          (sym (ap (share_up_to w p i) q) ∙ share-up_to_round i (y - rate w p) pos)

  -- without division: the n units from number o = x % rate on, against the job's units in this slot of the run and in the next
  pub share-overlap : (i x n : ℕ) → 0 < rate w p → x + n ≤ work w p → n ≤ rate w p → i < job_count w →
      share w p i x n ≡ min (x % rate w p + n) (units_before w p i + take_of w i p.first) - max (x % rate w p) (units_before w p i) +
      (min (x % rate w p + n) (units_before w p i + rate w p + take_of w i p.first) - max (x % rate w p) (units_before w p i + rate w p))
  share-overlap i x n pos h m l =
      let q : x / rate w p * rate w p + x % rate w p ≡ x = omega (arith, div-add-mod' x (rate w p)) in
      let q' : x / rate w p * rate w p + (x % rate w p + n) ≡ x + n = omega arith in
      omega (
        arith,
        share-law i x n pos h l,
        share-after-slots i (x / rate w p) (x % rate w p) pos,
        share-after-slots i (x / rate w p) (x % rate w p + n) pos,
        ap (share_up_to w p i) q,
        ap (share_up_to w p i) q',
        share_in_two-slots i (x % rate w p) pos (omega (arith, mod-lt x pos)) l,
        share_in_two-slots i (x % rate w p + n) pos (omega (arith, mod-lt x pos)) l,
        overlap (x % rate w p) (x % rate w p + n) (units_before w p i) (take_of w i p.first) (omega arith),
        overlap (x % rate w p) (x % rate w p + n) (units_before w p i + rate w p) (take_of w i p.first) (omega arith),
      )
