-- The rows of one flow, laid out by slot and job. Rows that are joined add up; of the rows of a flow, those of one job in one slot are one
-- row or none. Assumes nothing.
use mathlib.Core.Path.{◌≡◌, refl, sym, ap, ◌∙◌}
use Prim.Native.Nat.{ℕ, zero, suc, ◌+◌, ◌≤◌, ◌<◌}
use mathlib.Core.Bool.{Bool, true, false}
use mathlib.Core.List.{List, ◌++◌}
use native.Mathlib.Omega.{arith}
use lib.Dec.{eqb}
use borrow.Author.Tests.{eq-eqb, ne_eqb}
use Rattle.rules.specs.Walks.{sum_to, join_from}
use Rattle.rules.specs.Rows.{Row, row_for, sum_where, used_in}
use Rattle.rules.specs.Schedule.{schedule_of}
use Rattle.rules.proofs.Laws.Sums.{sum_ext, sum-nothing, sum_one}
use Rattle.rules.proofs.Laws.Walks.{join_last}
use Rattle.rules.proofs.Rows.Rising.{◌∈◌, join_in}
use Rattle.rules.proofs.Rows.RowSums.{is_at, at_is, not_at, sum_where-append}
use Rattle.rules.proofs.Rows.ScheduleRows.{row_with, row_for_in}

-- ---- sums over rows
pub sum_where_join : (q : Row → Bool) (g : ℕ → List Row) (n : ℕ) → sum_where q (join_from g n 0) ≡ sum_to (λ k. sum_where q (g k)) n
sum_where_join q g zero = unfold sum_to join_from sum_where in refl
sum_where_join q g (suc n) =
    ap (sum_where q) (join_last g n) ∙
    (sum_where-append q (join_from g n 0) (g n) ∙ ap (◌+ sum_where q (g n)) (sum_where_join q g n)) ∙ (unfold sum_to in refl)

-- the row for job i of flow f in slot t, if it has processors
pub row_counts : (q : Row → Bool) (t f i x : ℕ) → q (row_with t f i x) ≡ true → sum_where q (row_for t f i x) ≡ x
unfolding sum_where row_for
row_counts q t f i zero e = refl
row_counts q t f i (suc x) e = rw e (omega arith)

pub row_does-not-count : (q : Row → Bool) (t f i x : ℕ) → q (row_with t f i x) ≡ false → sum_where q (row_for t f i x) ≡ 0
unfolding sum_where row_for
row_does-not-count q t f i zero e = refl
row_does-not-count q t f i (suc x) e = rw e (omega arith)

pub schedule-append : (xs ys : List Row) (f i t : ℕ) → schedule_of (xs ++ ys) f i t ≡ schedule_of xs f i t + schedule_of ys f i t
unfolding schedule_of
schedule-append xs ys f i t = sum_where-append (is_at f i t) xs ys

pub used-append : (xs ys : List Row) (t : ℕ) → used_in (xs ++ ys) t ≡ used_in xs t + used_in ys t
unfolding used_in
used-append xs ys t = sum_where-append (λ r. eqb r.slot t) xs ys

-- ---- the rows of flow f, with τ i t processors for job i in slot t, for n slots and m jobs
unfoldable pub flow_grid : ℕ → ℕ → ℕ → (ℕ → ℕ → ℕ) → List Row
flow_grid f m n τ = join_from (λ t. join_from (λ i. row_for t f i (τ i t)) m 0) n 0

-- a row of another flow, job or slot
other_row : (f i t g k u x : ℕ) → (g ≡ f → k ≡ i → u ≡ t → ⊥) → is_at f i t (row_with u g k x) ≡ false
other_row f i t g k u x ne = not_at f i t (row_with u g k x) (λ s. ne s.of_flow s.of_job s.of_slot)

module _ (f m n : ℕ) (τ : ℕ → ℕ → ℕ) where
  grid-sum : (q : Row → Bool) → sum_where q (flow_grid f m n τ) ≡ sum_to (λ t. sum_to (λ i. sum_where q (row_for t f i (τ i t))) m) n
  unfolding flow_grid
  grid-sum q =
      sum_where_join q (λ t. join_from (λ i. row_for t f i (τ i t)) m 0) n ∙
      sum_ext _ _ n (λ t l. sum_where_join q (λ i. row_for t f i (τ i t)) m)

  -- what the rows state for a job and a slot of theirs
  pub grid_states : (i t : ℕ) → i < m → t < n → schedule_of (flow_grid f m n τ) f i t ≡ τ i t
  unfolding schedule_of
  grid_states i t l b =
      grid-sum (is_at f i t) ∙
      sum_one (λ u. sum_to (λ k. sum_where (is_at f i t) (row_for u f k (τ k u))) m) n t b
      (λ u c ne. sum-nothing _ m (λ k d. row_does-not-count (is_at f i t) u f k (τ k u) (other_row f i t f k u (τ k u) (λ x y. ne)))) ∙
      sum_one (λ k. sum_where (is_at f i t) (row_for t f k (τ k t))) m i l
      (λ k c ne. row_does-not-count (is_at f i t) t f k (τ k t) (other_row f i t f k t (τ k t) (λ x y z. ne y))) ∙
      row_counts (is_at f i t) t f i (τ i t) (at_is f i t (row_with t f i (τ i t)) (record { of_flow = refl; of_job = refl; of_slot = refl }))

  -- and nothing for another flow, job or slot
  pub grid_states-nothing : (g i t : ℕ) → (g ≡ f → i < m → t < n → ⊥) → schedule_of (flow_grid f m n τ) g i t ≡ 0
  unfolding schedule_of
  grid_states-nothing g i t ne =
      grid-sum (is_at g i t) ∙
      sum-nothing _ n (λ u c. sum-nothing _ m (λ k d. row_does-not-count (is_at g i t) u f k (τ k u)
      (other_row g i t f k u (τ k u) (λ x y z. ne (sym x) (rw y at d) (rw z at c)))))

  -- the use of a slot
  pub grid-used : (t : ℕ) → t < n → used_in (flow_grid f m n τ) t ≡ sum_to (λ i. τ i t) m
  unfolding used_in
  grid-used t b =
      grid-sum (λ r. eqb r.slot t) ∙
      sum_one (λ u. sum_to (λ k. sum_where (λ r. eqb r.slot t) (row_for u f k (τ k u))) m) n t b
      (λ u c ne. sum-nothing _ m (λ k d. row_does-not-count (λ r. eqb r.slot t) u f k (τ k u) (ne_eqb u t ne))) ∙
      sum_ext _ _ m (λ k d. row_counts (λ r. eqb r.slot t) t f k (τ k t) (eq-eqb t t refl))

  pub grid-not-used : (t : ℕ) → n ≤ t → used_in (flow_grid f m n τ) t ≡ 0
  unfolding used_in
  grid-not-used t b =
      grid-sum (λ r. eqb r.slot t) ∙
      sum-nothing _ n (λ u c. sum-nothing _ m (λ k d. row_does-not-count (λ r. eqb r.slot t) u f k (τ k u) (ne_eqb u t (λ (e : u ≡ t). omega arith))))

  -- each of them is the row of a job in a slot
  pub grid_in : (r : Row) → r ∈ flow_grid f m n τ → (t : ℕ) × (t < n) × (i : ℕ) × (i < m) × (r ≡ row_with t f i (τ i t)) × (0 < τ i t)
  unfolding flow_grid
  grid_in r h =
      let u = join_in (λ t. join_from (λ i. row_for t f i (τ i t)) m 0) n h in
      let k = join_in (λ i. row_for u.0 f i (τ i u.0)) m u.2 in
      let e = row_for_in u.0 f k.0 (τ k.0 u.0) k.2 in
      (u.0, u.1, k.0, k.1, e.0, e.1)
