-- Sums over rows that pass a test, and the schedule that rows state.
-- Every sum is taken row by row: what one row adds to a total is what it adds to the slots of its job, and what it adds to a slot is what it
-- adds to the jobs of the book in that slot. Assumes nothing.
use mathlib.Core.Path.{◌≡◌, refl, sym, ap, ◌∙◌}
use mathlib.Core.Logic.{◌⊎◌, inl, inr}
use Prim.Native.Nat.{ℕ, zero, suc, ◌+◌, ◌≤◌, ◌<◌}
use mathlib.Core.Bool.{Bool, true, false, ◌&&◌, not-eq-not, and-eq-true_iff, and-true, and-false}
use mathlib.Core.List.Memᴰ
use mathlib.Core.List.{List, [], ◌∷◌, ◌++◌}
use native.Mathlib.Nat.{not-suc-le-zero}
use native.Mathlib.Omega.{arith}
use lib.ListN.{length, take, get_or}
use lib.Seq.{take-suc}
use lib.Dec.{ltb, eqb}
use borrow.Author.Tests.{eqb-true, lt-ltb, le-ltb, eq-eqb, ne_eqb}
use Rattle.std.specs.Prelude.{if◌then◌else◌}
use Rattle.rules.specs.Walks.{sum_to}
use Rattle.rules.specs.Book.{Book, flow_count, job_count, flow_of}
use Rattle.rules.specs.Rows.{Row, sum_where, used_in, is_of, total_of, done_before, finish_of}
use Rattle.rules.specs.Schedule.{in_use, EndsBy, schedule_of}
use Rattle.rules.proofs.Laws.Division.{lt-or_ge}
use Rattle.rules.proofs.Laws.Sums.{sum_ext, sum-add, sum-zero, sum_one, sum-nothing}
use Rattle.rules.proofs.Rows.Rising.{◌∈◌, first_in}

-- ---- what one row adds
-- the processors of a row that passes a test, or 0
abbrev pub counted : (Row → Bool) → Row → ℕ
counted q r = if q r then r.processors else 0

pub counted_true : (q : Row → Bool) (r : Row) → q r ≡ true → counted q r ≡ r.processors
counted_true q r e = ap (λ c. if c then r.processors else 0) e

pub counted_false : (q : Row → Bool) (r : Row) → q r ≡ false → counted q r ≡ 0
counted_false q r e = ap (λ c. if c then r.processors else 0) e

-- ---- sums over rows
pub sum_where-append : (q : Row → Bool) (xs ys : List Row) → sum_where q (xs ++ ys) ≡ sum_where q xs + sum_where q ys
unfolding sum_where
sum_where-append q [] ys = omega arith
sum_where-append q (x ∷ xs) ys = omega (arith, sum_where-append q xs ys)

-- tests that agree on the rows
pub sum_where_ext : (p q : Row → Bool) (rows : List Row) → ((r : Row) → r ∈ rows → p r ≡ q r) → sum_where p rows ≡ sum_where q rows
unfolding sum_where
sum_where_ext p q [] h = refl
sum_where_ext p q (r ∷ rs) h = rw (h r (first_in r rs), sum_where_ext p q rs (λ x m. h x (Memᴰ.tail m))) refl

pub sum_where-none : (q : Row → Bool) (rows : List Row) → ((r : Row) → r ∈ rows → q r ≡ false) → sum_where q rows ≡ 0
unfolding sum_where
sum_where-none q [] h = refl
sum_where-none q (r ∷ rs) h = rw (h r (first_in r rs), sum_where-none q rs (λ x m. h x (Memᴰ.tail m))) refl

-- a test that passes wherever the other one does
pub sum_where_mono : (p q : Row → Bool) (rows : List Row) → ((r : Row) → counted p r ≤ counted q r) → sum_where p rows ≤ sum_where q rows
unfolding sum_where
sum_where_mono p q [] h = omega arith
sum_where_mono p q (r ∷ rs) h = omega (arith, h r, sum_where_mono p q rs h)

-- a test that is one of two others, never both
pub sum_where-split : (p q s : Row → Bool) (rows : List Row) → ((r : Row) → counted p r ≡ counted q r + counted s r) →
    sum_where p rows ≡ sum_where q rows + sum_where s rows
unfolding sum_where
sum_where-split p q s [] h = refl
sum_where-split p q s (r ∷ rs) h = omega (arith, h r, sum_where-split p q s rs h)

-- a row that counts, where the sum is not 0
pub sum_where_met : (q : Row → Bool) (rows : List Row) → 0 < sum_where q rows → (r : Row) × (r ∈ rows) × (q r ≡ true)
unfolding sum_where
sum_where_met q [] h = absurd (not-suc-le-zero h)
sum_where_met q (r ∷ rs) h = go (q r) refl (sum_where_met q rs)
  where
    go : (c : Bool) → q r ≡ c → (0 < sum_where q rs → (x : Row) × (x ∈ rs) × (q x ≡ true)) → (x : Row) × (x ∈ r ∷ rs) × (q x ≡ true)
    go true e ih = (r, first_in r rs, e)
    go false e ih = let w = ih (omega (arith, counted_false q r e)) in (w.0, Memᴰ.tail w.1, w.2)

-- a row that counts is at most the sum
pub sum_where-least : (q : Row → Bool) (rows : List Row) (r : Row) → r ∈ rows → q r ≡ true → r.processors ≤ sum_where q rows
unfolding sum_where
sum_where-least q [] r m e = absurd (Memᴰ.not-nil m)
sum_where-least q (x ∷ xs) r m e = go (Memᴰ.cases_cons m) (sum_where-least q xs r)
  where
    go : (r ≡ x) ⊎ (r ∈ xs) → (r ∈ xs → q r ≡ true → r.processors ≤ sum_where q xs) → r.processors ≤ counted q x + sum_where q xs
    go (inl s) ih = rw (← s) (omega (arith, counted_true q r e))
    go (inr l) ih = omega (arith, ih l e)

-- the first k rows, and then one more
pub sum_where-next : (q : Row → Bool) (rows : List Row) (k : ℕ) (d : Row) → k < length rows →
    sum_where q (take (suc k) rows) ≡ sum_where q (take k rows) + counted q (get_or rows k d)
unfolding sum_where
sum_where-next q rows k d h = rw (take-suc rows k d h, sum_where-append q (take k rows) (get_or rows k d ∷ [])) (omega arith)

pub sum_where-take : (q : Row → Bool) (rows : List Row) (k : ℕ) → sum_where q (take k rows) ≤ sum_where q rows
unfolding sum_where
sum_where-take q rows zero = omega arith
sum_where-take q [] (suc k) = omega arith
sum_where-take q (r ∷ rs) (suc k) = omega (arith, sum_where-take q rs k)

-- ---- the schedule that rows state
-- the row is one of job i of flow f in slot t
abbrev pub is_at : ℕ → ℕ → ℕ → Row → Bool
is_at f i t r = is_of f i r && eqb r.slot t

-- the row has the flow, the job and the slot
pub record IsAt (f i t : ℕ) (r : Row) : Type 0 where
  pub of_flow : r.flow ≡ f
  pub of_job : r.job ≡ i
  pub of_slot : r.slot ≡ t

pub is-at : (f i t : ℕ) (r : Row) → is_at f i t r ≡ true → IsAt f i t r
is-at f i t r e =
    let both = (and-eq-true_iff (is_of f i r) (eqb r.slot t)).0 e in
    let of = (and-eq-true_iff (eqb r.flow f) (eqb r.job i)).0 both.0 in
    record { of_flow = eqb-true r.flow f of.0; of_job = eqb-true r.job i of.1; of_slot = eqb-true r.slot t both.1 }

pub at_is : (f i t : ℕ) (r : Row) → IsAt f i t r → is_at f i t r ≡ true
at_is f i t r s =
    (and-eq-true_iff (is_of f i r) (eqb r.slot t)).1
    ((and-eq-true_iff (eqb r.flow f) (eqb r.job i)).1 (eq-eqb r.flow f s.of_flow, eq-eqb r.job i s.of_job), eq-eqb r.slot t s.of_slot)

pub not_at : (f i t : ℕ) (r : Row) → (IsAt f i t r → ⊥) → is_at f i t r ≡ false
not_at f i t r n = (not-eq-not {b = false}).0 (λ e. n (is-at f i t r e))

pub schedule-none : (rows : List Row) (f i t : ℕ) → ((r : Row) → r ∈ rows → IsAt f i t r → ⊥) → schedule_of rows f i t ≡ 0
unfolding schedule_of
schedule-none rows f i t h = sum_where-none (is_at f i t) rows (λ r m. not_at f i t r (h r m))

pub schedule_met : (rows : List Row) (f i t : ℕ) → 0 < schedule_of rows f i t → (r : Row) × (r ∈ rows) × IsAt f i t r
unfolding schedule_of
schedule_met rows f i t h = let w = sum_where_met (is_at f i t) rows h in (w.0, w.1, is-at f i t w.0 w.2)

pub schedule-least : (rows : List Row) (f i t : ℕ) (r : Row) → r ∈ rows → IsAt f i t r → r.processors ≤ schedule_of rows f i t
unfolding schedule_of
schedule-least rows f i t r m at-r = sum_where-least (is_at f i t) rows r m (at_is f i t r at-r)

-- "what job i of flow f has before slot t", added slot by slot
pub sum-schedule : (rows : List Row) (f i t : ℕ) → sum_to (schedule_of rows f i) t ≡ done_before rows f i t
unfolding sum_to done_before schedule_of
sum-schedule rows f i zero =
    sym (sum_where-none (λ r. is_of f i r && ltb r.slot 0) rows
    (λ r m. rw (le-ltb r.slot 0 (omega arith)) (and-false (is_of f i r))))
sum-schedule rows f i (suc t) = omega (arith, sum-schedule rows f i t, next)
  where
    earlier : ℕ → Row → Bool
    earlier n r = is_of f i r && ltb r.slot n

    one_more : (r : Row) (c : Bool) → (o : (r.slot < t) ⊎ (t ≤ r.slot)) → (p : (r.slot < suc t) ⊎ (suc t ≤ r.slot)) →
        (if c && ltb r.slot (suc t) then r.processors else 0)
        ≡ (if c && ltb r.slot t then r.processors else 0) + (if c && eqb r.slot t then r.processors else 0)
    one_more r false o p = refl
    one_more r true (inl l) p =
        rw (lt-ltb r.slot t l, lt-ltb r.slot (suc t) (omega arith), ne_eqb r.slot t (λ e. omega arith)) (omega arith)
    one_more r true (inr l) (inl m) =
        rw (le-ltb r.slot t l, lt-ltb r.slot (suc t) m, eq-eqb r.slot t (omega arith)) (omega arith)
    one_more r true (inr l) (inr m) =
        rw (le-ltb r.slot t l, le-ltb r.slot (suc t) m, ne_eqb r.slot t (λ e. omega arith)) refl

    next : sum_where (earlier (suc t)) rows ≡ sum_where (earlier t) rows + schedule_of rows f i t
    next =
        sum_where-split (earlier (suc t)) (earlier t) (is_at f i t) rows
        (λ r. one_more r (is_of f i r) (lt-or_ge r.slot t) (lt-or_ge r.slot (suc t)))

-- where every row stands before slot t, a job has its total by then
pub total_by : (rows : List Row) (f i t : ℕ) → ((r : Row) → r ∈ rows → r.slot < t) → done_before rows f i t ≡ total_of rows f i
unfolding done_before total_of
total_by rows f i t h =
    sum_where_ext (λ r. is_of f i r && ltb r.slot t) (λ r. is_of f i r) rows
    (λ r m. ap (is_of f i r &&◌) (lt-ltb r.slot t (h r m)) ∙ and-true (is_of f i r))

pub done-le-total : (rows : List Row) (f i t : ℕ) → done_before rows f i t ≤ total_of rows f i
unfolding done_before total_of
done-le-total rows f i t =
    sum_where_mono (λ r. is_of f i r && ltb r.slot t) (λ r. is_of f i r) rows
    (λ r. less (is_of f i r) (ltb r.slot t) r.processors)
  where
    less : (c d : Bool) (n : ℕ) → (if c && d then n else 0) ≤ (if c then n else 0)
    less true true n = omega arith
    less true false n = omega arith
    less false d n = omega arith

-- ---- the use of a slot
-- the row is one of a job of the book
pub record InBook (b : Book) (r : Row) : Type 0 where
  pub flow_in_is : r.flow < flow_count b
  pub job_in : r.job < job_count (flow_of b r.flow)

-- one row that passes a test, added over all jobs of the book
sum_row : (b : Book) (p : Row → Bool) (r : Row) → InBook b r →
    sum_to (λ f. sum_to (λ i. counted (λ q. is_of f i q && p q) r) (job_count (flow_of b f))) (flow_count b) ≡ counted p r
sum_row b p r h =
    sum_one (λ f. sum_to (λ i. counted (λ q. is_of f i q && p q) r) (jobs f)) (flow_count b) r.flow h.flow_in_is
    (λ f l n. sum-nothing (λ i. counted (λ q. is_of f i q && p q) r) (jobs f) (λ i m. rw (ne_eqb r.flow f (λ e. n (sym e))) refl))
    ∙ sum_one (λ i. counted (λ q. is_of r.flow i q && p q) r) (jobs r.flow) r.job h.job_in
    (λ i l n. rw (eq-eqb r.flow r.flow refl, ne_eqb r.job i (λ e. n (sym e))) refl)
    ∙ rw (eq-eqb r.flow r.flow refl, eq-eqb r.job r.job refl) refl
  where
    jobs : ℕ → ℕ
    jobs f = job_count (flow_of b f)

-- rows that pass a test, added row by row or job by job
pub sum-jobs : (b : Book) (p : Row → Bool) (rows : List Row) → ((r : Row) → r ∈ rows → InBook b r) →
    sum_to (λ f. sum_to (λ i. sum_where (λ r. is_of f i r && p r) rows) (job_count (flow_of b f))) (flow_count b) ≡ sum_where p rows
unfolding sum_where
sum-jobs b p [] h = sum-nothing (λ f. sum_to (λ i. 0) (job_count (flow_of b f))) (flow_count b) (λ f l. sum-zero (job_count (flow_of b f)))
sum-jobs b p (r ∷ rs) h =
    omega (
      arith,
      sum_ext (λ f. sum_to (λ i. one f i + others f i) (jobs f)) (λ f. sum_to (one f) (jobs f) + sum_to (others f) (jobs f)) (flow_count b)
          (λ f l. sum-add (one f) (others f) (jobs f)),
      sum-add (λ f. sum_to (one f) (jobs f)) (λ f. sum_to (others f) (jobs f)) (flow_count b),
      sum_row b p r (h r (first_in r rs)),
      sum-jobs b p rs (λ x m. h x (Memᴰ.tail m)),
    )
  where
    jobs : ℕ → ℕ
    jobs f = job_count (flow_of b f)

    one : ℕ → ℕ → ℕ
    one f i = counted (λ q. is_of f i q && p q) r

    others : ℕ → ℕ → ℕ
    others f i = sum_where (λ q. is_of f i q && p q) rs

-- "the processors in use in that slot", added row by row or job by job
pub used-in_use : (b : Book) (rows : List Row) (t : ℕ) → ((r : Row) → r ∈ rows → InBook b r) → used_in rows t ≡ in_use b (schedule_of rows) t
unfolding used_in in_use schedule_of
used-in_use b rows t h = sym (sum-jobs b (λ r. eqb r.slot t) rows h)

-- and the totals of all jobs are all the processors of the rows
pub sum-totals : (b : Book) (rows : List Row) → ((r : Row) → r ∈ rows → InBook b r) →
    sum_to (λ f. sum_to (λ i. total_of rows f i) (job_count (flow_of b f))) (flow_count b) ≡ sum_where (λ r. true) rows
unfolding total_of
sum-totals b rows h =
    sum_ext (λ f. sum_to (λ i. sum_where (λ r. is_of f i r) rows) (job_count (flow_of b f))) (λ f. sum_to (λ i. sum_where (λ r. is_of f i r && true) rows) (job_count (flow_of b f))) (flow_count b)
    (λ f l. sum_ext (λ i. sum_where (λ r. is_of f i r) rows) (λ i. sum_where (λ r. is_of f i r && true) rows) (job_count (flow_of b f))
    (λ i m. sum_where_ext (λ r. is_of f i r) (λ r. is_of f i r && true) rows (λ r k. sym (and-true (is_of f i r)))))
    ∙ sum-jobs b (λ r. true) rows h

-- each row that has a processor has at least one
pub rows_most : (rows : List Row) → ((r : Row) → r ∈ rows → 0 < r.processors) → length rows ≤ sum_where (λ r. true) rows
unfolding sum_where
rows_most [] h = omega arith
rows_most (r ∷ rs) h = omega (arith, h r (first_in r rs), rows_most rs (λ x m. h x (Memᴰ.tail m)))

-- ---- finishes
-- every row of the flow stands before its finish
pub finish-above : (rows : List Row) (f : ℕ) (r : Row) → r ∈ rows → r.flow ≡ f → r.slot < finish_of rows f
unfolding finish_of
finish-above [] f r m e = absurd (Memᴰ.not-nil m)
finish-above (q ∷ qs) f r m e = go (Memᴰ.cases_cons m) (finish-above qs f r)
  where
    go : (r ≡ q) ⊎ (r ∈ qs) → (r ∈ qs → r.flow ≡ f → r.slot < finish_of qs f) → r.slot < finish_of (q ∷ qs) f
    go (inl s) ih = rw (← s, eq-eqb r.flow f e) (omega arith)
    go (inr l) ih = omega (arith, ih l e)

-- and it is the least such slot
pub finish_least : (rows : List Row) (f n : ℕ) → ((r : Row) → r ∈ rows → r.flow ≡ f → r.slot < n) → finish_of rows f ≤ n
unfolding finish_of
finish_least [] f n h = omega arith
finish_least (r ∷ rs) f n h = go (eqb r.flow f) refl (finish_least rs f n (λ x m. h x (Memᴰ.tail m)))
  where
    go : (c : Bool) → eqb r.flow f ≡ c → finish_of rs f ≤ n → finish_of (r ∷ rs) f ≤ n
    go true e ih = rw e (omega (arith, h r (first_in r rs) (eqb-true r.flow f e)))
    go false e ih = rw e (omega arith)

-- lists with the same rows of a flow have its finish
pub finish-same : (xs ys : List Row) (f : ℕ) → ((r : Row) → r ∈ xs → r.flow ≡ f → r ∈ ys) → ((r : Row) → r ∈ ys → r.flow ≡ f → r ∈ xs) →
    finish_of xs f ≡ finish_of ys f
finish-same xs ys f over back =
    omega (
      arith,
      finish_least xs f (finish_of ys f) (λ r m e. finish-above ys f r (over r m e) e),
      finish_least ys f (finish_of xs f) (λ r m e. finish-above xs f r (back r m e) e),
    )

-- "A flow ends by its deadline .. when its finish is at most that."
pub finish-ends : (rows : List Row) (f d : ℕ) → finish_of rows f ≤ d → EndsBy (schedule_of rows) f d
unfolding EndsBy
finish-ends rows f d h i t l =
    schedule-none rows f i t (λ r m at-r. omega (arith, finish-above rows f r m at-r.of_flow, at-r.of_slot))

pub ends-finish : (rows : List Row) (f d : ℕ) → ((r : Row) → r ∈ rows → 0 < r.processors) → EndsBy (schedule_of rows) f d → finish_of rows f ≤ d
unfolding EndsBy
ends-finish rows f d takes ends = finish_least rows f d (λ r m e. before r m e (lt-or_ge r.slot d))
  where
    before : (r : Row) → r ∈ rows → r.flow ≡ f → (r.slot < d) ⊎ (d ≤ r.slot) → r.slot < d
    before r m e (inl l) = l
    before r m e (inr l) =
        absurd (omega (
          arith,
          takes r m,
          ends r.job r.slot l,
          schedule-least rows f r.job r.slot r m (record { of_flow = e; of_job = refl; of_slot = refl }),
        ))
