-- The rows of a schedule, and the schedule that rows state: each gives the other back.
-- The rows of a schedule stand in rising order, and they are one for each job and slot of the book where something is given. Rows in rising
-- order have at most one row for a job and a slot, so what they state there is that row's processors; and they are the rows of what they
-- state, because both are rising lists of the same rows. Assumes nothing.
use mathlib.Core.Path.{◌≡◌, refl, sym, ap, ◌∙◌, subst}
use mathlib.Core.Logic.{◌⊎◌, inl, inr}
use mathlib.Core.Bool.{Bool}
use Prim.Native.Nat.{ℕ, zero, suc, ◌+◌, ◌*◌, ◌≤◌, ◌<◌}
use native.Mathlib.Nat.{not-suc-le-zero}
use native.Mathlib.Omega.{arith}
use mathlib.Core.List.Memᴰ
use mathlib.Core.List.{List, [], ◌∷◌}
use lib.ListN.{length}
use Rattle.std.specs.Prelude.{if◌then◌else◌}
use Rattle.rules.specs.Walks.{join_from}
use Rattle.rules.specs.Limits.{slots, most_jobs, most_flows}
use Rattle.rules.specs.Book.{Book, flow_count, job_count, flow_of, InRange}
use Rattle.rules.specs.Service.{served_at}
use Rattle.rules.specs.Rows.{Row, row_for, sum_where}
use Rattle.rules.specs.Schedule.{Schedule, every_flow, IsJob, Valid, InSlots, schedule_of, schedule_rows}
use Rattle.rules.proofs.Reading.Caps.{used_in-range}
use Rattle.rules.proofs.Laws.Division.{lt-or_ge}
use Rattle.rules.proofs.Laws.Sums.{sum-le}
use Rattle.rules.proofs.Laws.Walks.{join-length-zero}
use Rattle.rules.proofs.Reading.ServiceOrder.{service-below, service-position, service_sorted}
use Rattle.rules.proofs.Rows.Rising.{◌∈◌, join_in, in_join, Rising, rising_join, rising_unique}
use Rattle.rules.proofs.Rows.RowOrder.{Before, before_differs, before_asymmetric, served-before, same-flow-before}
use Rattle.rules.proofs.Rows.RowSums.{is_at, IsAt, at_is, not_at, counted_true, counted_false, sum_where-none, schedule-none, schedule_met, InBook}

-- a row of a job of the book in one of the slots of a table, with at least 1 processor
pub record IsRow (b : Book) (r : Row) : Type 0 where
  pub in_book : InBook b r
  pub slot_in : r.slot < slots
  pub takes : 0 < r.processors

-- such a row, with what a schedule gives there
pub record RowOf (b : Book) (σ : Schedule) (r : Row) : Type 0 where
  pub is_row : IsRow b r
  pub given_there : r.processors ≡ σ r.flow r.job r.slot

-- its job is a job of the book
pub row_is-job : (b : Book) (r : Row) → InBook b r → IsJob b every_flow r.flow r.job
row_is-job b r h = record { flow_among = refl; flow_in_is = h.flow_in_is; job_in = h.job_in }

-- ---- the rows of a schedule
-- the row of job i of flow f in slot t, with n processors
abbrev pub row_with : ℕ → ℕ → ℕ → ℕ → Row
row_with t f i n = record { slot = t; flow = f; job = i; processors = n }

pub row_for_in : (t f i n : ℕ) {r : Row} → r ∈ row_for t f i n → (r ≡ row_with t f i n) × (0 < n)
unfolding row_for
row_for_in t f i zero m = absurd (Memᴰ.not-nil m)
row_for_in t f i (suc n) m = (Memᴰ.eq_of_singleton m, omega arith)

in-row_for : (t f i n : ℕ) → 0 < n → row_with t f i n ∈ row_for t f i n
unfolding row_for
in-row_for t f i zero l = absurd (not-suc-le-zero l)
in-row_for t f i (suc n) l = Memᴰ.head refl

row_for-rising : (b : Book) (t f i n : ℕ) → Rising (Before b) (row_for t f i n)
unfolding row_for Rising
row_for-rising b t f i zero = tt
row_for-rising b t f i (suc n) = (λ y m. absurd (Memᴰ.not-nil m), tt)

row_for-length : (t f i n : ℕ) → length (row_for t f i n) ≤ 1
unfolding row_for
row_for-length t f i zero = omega arith
row_for-length t f i (suc n) = omega arith

module _ (b : Book) (σ : Schedule) where
  abbrev rows_of_job : ℕ → ℕ → ℕ → List Row
  rows_of_job f t i = row_for t f i (σ f i t)

  abbrev rows_of_slot : ℕ → ℕ → List Row
  rows_of_slot f t = join_from (rows_of_job f t) (job_count (flow_of b f)) 0

  abbrev rows_of_flow : ℕ → List Row
  rows_of_flow f = join_from (rows_of_slot f) slots 0

  rows_of-job_in : (f t i : ℕ) {r : Row} → r ∈ rows_of_job f t i → IsAt f i t r
  rows_of-job_in f t i m =
      let e = (row_for_in t f i (σ f i t) m).0 in
      record { of_flow = ap (λ q. q.flow) e; of_job = ap (λ q. q.job) e; of_slot = ap (λ q. q.slot) e }

  rows_of-slot_in : (f t : ℕ) {r : Row} → r ∈ rows_of_slot f t → (i : ℕ) × (i < job_count (flow_of b f)) × (r ∈ rows_of_job f t i)
  rows_of-slot_in f t m = join_in (rows_of_job f t) (job_count (flow_of b f)) m

  -- where a row of flow f stands
  rows_of-flow_in : (f : ℕ) {r : Row} → r ∈ rows_of_flow f → (t : ℕ) × (t < slots) × (i : ℕ) × (i < job_count (flow_of b f)) × (r ∈ rows_of_job f t i)
  rows_of-flow_in f m =
      let w = join_in (rows_of_slot f) slots m in
      let v = rows_of-slot_in f w.0 w.2 in
      (w.0, w.1, v.0, v.1, v.2)

  rows_of-slot-rising : (f t : ℕ) → Rising (Before b) (rows_of_slot f t)
  rows_of-slot-rising f t =
      rising_join (Before b) (rows_of_job f t) (job_count (flow_of b f)) (λ i l. row_for-rising b t f i (σ f i t))
      (λ i k l m x y p q.
      let at_x = rows_of-job_in f t i p in
      let at_y = rows_of-job_in f t k q in
      same-flow-before b x y (at_x.of_flow ∙ sym at_y.of_flow)
      (inr (at_x.of_slot ∙ sym at_y.of_slot, omega (arith, at_x.of_job, at_y.of_job))))

  rows_of-flow-rising : (f : ℕ) → Rising (Before b) (rows_of_flow f)
  rows_of-flow-rising f =
      rising_join (Before b) (rows_of_slot f) slots (λ t l. rows_of-slot-rising f t)
      (λ t u l m x y p q.
      let v = rows_of-slot_in f t p in
      let w = rows_of-slot_in f u q in
      let at_x = rows_of-job_in f t v.0 v.2 in
      let at_y = rows_of-job_in f u w.0 w.2 in
      same-flow-before b x y (at_x.of_flow ∙ sym at_y.of_flow) (inl (omega (arith, at_x.of_slot, at_y.of_slot))))

  flow-of_row : (f : ℕ) {r : Row} → r ∈ rows_of_flow f → r.flow ≡ f
  flow-of_row f m = let w = rows_of-flow_in f m in (rows_of-job_in f w.0 w.2 w.4).of_flow

  -- "by service order of the flow, then slot, then job, all strictly rising"
  pub schedule-rows-rising : Rising (Before b) (schedule_rows b σ)
  unfolding schedule_rows
  schedule-rows-rising =
      rising_join (Before b) (λ n. rows_of_flow (served_at b n)) (flow_count b) (λ n l. rows_of-flow-rising (served_at b n))
      (λ m n l h x y p q.
      served-before b x y
      (rw (flow-of_row (served_at b m) p, flow-of_row (served_at b n) q) (service_sorted b m n l h)))

  -- "one for each slot and job where the job has at least 1 processor": each row is such a one
  pub schedule-rows_in : (r : Row) → r ∈ schedule_rows b σ → RowOf b σ r
  unfolding schedule_rows
  schedule-rows_in r m =
      let v = join_in (λ n. rows_of_flow (served_at b n)) (flow_count b) m in
      let f = served_at b v.0 in
      let w = rows_of-flow_in f v.2 in
      let e = row_for_in w.0 f w.2 (σ f w.2 w.0) w.4 in
      subst (RowOf b σ) (sym e.0)
      (record {
        is_row = record { in_book = record { flow_in_is = service-below b v.0 v.1; job_in = w.3 }; slot_in = w.1; takes = e.1 };
        given_there = refl;
      })

  -- and there is one for each
  pub in-schedule_rows : (r : Row) → RowOf b σ r → r ∈ schedule_rows b σ
  unfolding schedule_rows
  in-schedule_rows r h =
      let n = service-position b r.flow h.is_row.in_book.flow_in_is in
      let f = r.flow in
      let at-job : r ∈ rows_of_job f r.slot r.job =
      subst (λ p. r ∈ row_for r.slot f r.job p) h.given_there (in-row_for r.slot f r.job r.processors h.is_row.takes) in
      let at_slot : r ∈ rows_of_slot f r.slot =
      in_join (rows_of_job f r.slot) (job_count (flow_of b f)) r.job h.is_row.in_book.job_in at-job in
      let at-flow : r ∈ rows_of_flow f = in_join (rows_of_slot f) slots r.slot h.is_row.slot_in at_slot in
      in_join (λ k. rows_of_flow (served_at b k)) (flow_count b) n.0 n.1 (subst (λ f. r ∈ rows_of_flow f) (sym n.2) at-flow)

-- ---- the schedule that rising rows state
-- a row states its processors
pub rising-schedule : (b : Book) (rows : List Row) → Rising (Before b) rows → (r : Row) → r ∈ rows →
    schedule_of rows r.flow r.job r.slot ≡ r.processors
unfolding Rising schedule_of sum_where
rising-schedule b [] h r m = absurd (Memᴰ.not-nil m)
rising-schedule b (q ∷ qs) h r m = go (Memᴰ.cases_cons m) (rising-schedule b qs h.1 r)
  where
    there : Row → Bool
    there = is_at r.flow r.job r.slot

    other : (x y : Row) → Before b x y → IsAt r.flow r.job r.slot x → IsAt r.flow r.job r.slot y → ⊥
    other x y l p s =
        before_differs b x y l (p.of_flow ∙ sym s.of_flow) (p.of_slot ∙ sym s.of_slot) (p.of_job ∙ sym s.of_job)

    itself : IsAt r.flow r.job r.slot r
    itself = record { of_flow = refl; of_job = refl; of_slot = refl }

    go : (r ≡ q) ⊎ (r ∈ qs) → (r ∈ qs → sum_where there qs ≡ r.processors) → (if there q then q.processors else 0) + sum_where there qs ≡ r.processors
    go (inl e) ih =
        let at-q : IsAt r.flow r.job r.slot q = subst (IsAt r.flow r.job r.slot) e itself in
        omega (
          arith,
          counted_true there q (at_is r.flow r.job r.slot q at-q),
          sum_where-none there qs (λ x n. not_at r.flow r.job r.slot x (other q x (h.0 x n) at-q)),
          ap (λ x. x.processors) e,
        )
    go (inr l) ih =
        omega (
          arith,
          counted_false there q (not_at r.flow r.job r.slot q (λ p. other q r (h.0 r l) p itself)),
          ih l,
        )

pub row_ext : (q r : Row) → q.slot ≡ r.slot → q.flow ≡ r.flow → q.job ≡ r.job → q.processors ≡ r.processors → q ≡ r
row_ext q r s f i n = λ x. row_with (s x) (f x) (i x) (n x)

-- rows in rising order are the rows of the schedule that they state
pub rows_of-schedule : (b : Book) (rows : List Row) → Rising (Before b) rows → ((r : Row) → r ∈ rows → IsRow b r) →
    rows ≡ schedule_rows b (schedule_of rows)
rows_of-schedule b rows h each =
    rising_unique (Before b) (before_asymmetric b) rows (schedule_rows b (schedule_of rows)) h (schedule-rows-rising b (schedule_of rows))
    (λ r m. in-schedule_rows b (schedule_of rows) r (record { is_row = each r m; given_there = sym (rising-schedule b rows h r m) }))
    (λ r m. back r (schedule-rows_in b (schedule_of rows) r m))
  where
    back : (r : Row) → RowOf b (schedule_of rows) r → r ∈ rows
    back r o =
        let w = schedule_met rows r.flow r.job r.slot (omega (arith, o.given_there, o.is_row.takes)) in
        subst (λ x. x ∈ rows) (same w.0 w.2 (rising-schedule b rows h w.0 w.1)) w.1
      where
        same : (q : Row) → IsAt r.flow r.job r.slot q → schedule_of rows q.flow q.job q.slot ≡ q.processors → q ≡ r
        same q p e =
            row_ext q r p.of_slot p.of_flow p.of_job
            (sym e ∙ rw (p.of_flow, p.of_job, p.of_slot) refl ∙ sym o.given_there)

-- ---- a schedule that gives something only to jobs of the book, in the slots of a table
unfoldable pub Within : Book → Schedule → Type 0
Within b σ = (f i t : ℕ) → 0 < σ f i t → IsRow b (row_with t f i (σ f i t))

pub valid-within : (b : Book) (σ : Schedule) → Valid b every_flow σ → InSlots σ → Within b σ
unfolding Within InSlots
valid-within b σ v s f i t l = go (lt-or_ge f (flow_count b)) (lt-or_ge i (job_count (flow_of b f))) (lt-or_ge t slots)
  where
    go : (f < flow_count b) ⊎ (flow_count b ≤ f) → (i < job_count (flow_of b f)) ⊎ (job_count (flow_of b f) ≤ i) →
        (t < slots) ⊎ (slots ≤ t) → IsRow b (row_with t f i (σ f i t))
    go (inl x) (inl y) (inl z) = record { in_book = record { flow_in_is = x; job_in = y }; slot_in = z; takes = l }
    go (inr x) y z = absurd (omega (arith, v.no_others f i t (λ j. omega (arith, j.flow_in_is))))
    go (inl x) (inr y) z = absurd (omega (arith, v.no_others f i t (λ j. omega (arith, j.job_in))))
    go (inl x) (inl y) (inr z) = absurd (omega (arith, s f i t z))

-- its rows state it
pub schedule_of-rows : (b : Book) (σ : Schedule) → Within b σ → (f i t : ℕ) → schedule_of (schedule_rows b σ) f i t ≡ σ f i t
unfolding Within
schedule_of-rows b σ w f i t = go (lt-or_ge 0 (σ f i t))
  where
    go : (0 < σ f i t) ⊎ (σ f i t ≤ 0) → schedule_of (schedule_rows b σ) f i t ≡ σ f i t
    go (inl l) =
        rising-schedule b (schedule_rows b σ) (schedule-rows-rising b σ) (row_with t f i (σ f i t))
        (in-schedule_rows b σ (row_with t f i (σ f i t)) (record { is_row = w f i t l; given_there = refl }))
    go (inr l) =
        let zero-given : σ f i t ≡ 0 = omega arith in
        schedule-none (schedule_rows b σ) f i t (λ r m. nothing zero-given r (schedule-rows_in b σ r m)) ∙ sym zero-given
      where
        nothing : σ f i t ≡ 0 → (r : Row) → RowOf b σ r → IsAt f i t r → ⊥
        nothing z r o p =
            let e : σ r.flow r.job r.slot ≡ σ f i t = rw (p.of_flow, p.of_job, p.of_slot) refl in
            omega (arith, o.given_there, o.is_row.takes)

-- ---- how many rows there are
join-length-le : {A : Type 0} (g : ℕ → List A) (n c : ℕ) → ((k : ℕ) → k < n → length (g k) ≤ c) → length (join_from g n 0) ≤ c * n
join-length-le g n c h = omega (arith, join-length-zero g n, sum-le (λ k. length (g k)) c n h)

pub schedule-rows-length : (b : Book) (σ : Schedule) → InRange b → length (schedule_rows b σ) ≤ most_jobs * slots * most_flows
unfolding schedule_rows
schedule-rows-length b σ h =
    omega (
      arith,
      join-length-le (λ n. rows_of_flow b σ (served_at b n)) (flow_count b) (most_jobs * slots)
          (λ n l. flow-length (served_at b n) (service-below b n l)),
      h.flows_most,
    )
  where
    slot-length : (f t : ℕ) → f < flow_count b → length (rows_of_slot b σ f t) ≤ most_jobs
    slot-length f t l =
        omega (arith, join-length-le (rows_of_job b σ f t) (job_count (flow_of b f)) 1 (λ i m. row_for-length t f i (σ f i t)), (used_in-range h f l).jobs_most)

    flow-length : (f : ℕ) → f < flow_count b → length (rows_of_flow b σ f) ≤ most_jobs * slots
    flow-length f l = join-length-le (rows_of_slot b σ f) slots most_jobs (λ t m. slot-length f t l)
