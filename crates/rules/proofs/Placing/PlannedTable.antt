-- A plan's rows are the rows of the schedule that they state: in service order, by slot and job, and no row left out up to the last slot of a
-- table. So the table that the planner writes is the table of a valid schedule. Assumes nothing.
use mathlib.Core.Path.{◌≡◌, refl, sym, ap, subst, ◌∙◌}
use Prim.Native.Nat.{ℕ, ◌+◌, ◌-◌, ◌≤◌, ◌<◌}
use mathlib.Core.List.{List, [], ◌++◌, append-nil}
use native.Mathlib.Nat.{add-sub_of_le}
use native.Mathlib.Omega.{arith}
use Rattle.rules.specs.Walks.{join_from}
use Rattle.rules.specs.Limits.{slots}
use Rattle.rules.specs.Book.{Book, flow_count, job_count, InRange}
use Rattle.rules.specs.Service.{served_at}
use Rattle.rules.specs.Rows.{Row, row_for, late_flows}
use Rattle.rules.specs.Schedule.{schedule_of, schedule_rows, schedule_table}
use Rattle.rules.specs.Placing.{slots_for, planned, plan}
use Rattle.rules.specs.Table.{table_bytes}
use Rattle.rules.specs.Demands.Check.{IsScheduleTable}
use Rattle.rules.proofs.Laws.Walks.{join-ext, join-split}
use Rattle.rules.proofs.Rows.Rising.{Rising}
use Rattle.rules.proofs.Rows.RowOrder.{Before}
use Rattle.rules.proofs.Placing.OpenSlots.{limit_most}
use Rattle.rules.proofs.Rows.ScheduleRows.{schedule-rows-rising}
use Rattle.rules.proofs.Rows.FlowRows.{flow_grid}
use Rattle.rules.proofs.Placing.PlannedRows.{join-nothing, served_flow, planned_share, planned_grid, placed-rows, states-share, states-none_of-flow}
use Rattle.rules.proofs.Placing.PlannedValid.{all_placed, planned-valid, planned_in-slots}

-- ---- rows of a flow by slot and job
grid_ext : (f m n : ℕ) (τ υ : ℕ → ℕ → ℕ) → ((i t : ℕ) → i < m → t < n → τ i t ≡ υ i t) → flow_grid f m n τ ≡ flow_grid f m n υ
unfolding flow_grid
grid_ext f m n τ υ h =
    join-ext (λ t. join_from (λ i. row_for t f i (τ i t)) m 0) (λ t. join_from (λ i. row_for t f i (υ i t)) m 0) n 0
    (λ t l. join-ext (λ i. row_for (0 + t) f i (τ i (0 + t))) (λ i. row_for (0 + t) f i (υ i (0 + t))) m 0
    (λ i a. ap (row_for (0 + t) f (0 + i)) (h (0 + i) (0 + t) (omega arith) (omega arith))))

-- slots in which the flow has nothing bring no rows
grid-longer : (f m n k : ℕ) (τ : ℕ → ℕ → ℕ) → n ≤ k → ((i t : ℕ) → i < m → n ≤ t → τ i t ≡ 0) → flow_grid f m n τ ≡ flow_grid f m k τ
unfolding flow_grid
grid-longer f m n k τ l h =
    let rest : join_from (λ t. join_from (λ i. row_for t f i (τ i t)) m 0) (k - n) (0 + n) ≡ [] =
    join-nothing (λ t. join_from (λ i. row_for t f i (τ i t)) m 0) (k - n) (0 + n)
    (λ t a. join-nothing (λ i. row_for (0 + n + t) f i (τ i (0 + n + t))) m 0
    (λ i c. ap (row_for (0 + n + t) f (0 + i)) (h (0 + i) (0 + n + t) (omega arith) (omega arith)) ∙ (unfold row_for in refl))) in
    sym (
    ap (λ x. join_from (λ t. join_from (λ i. row_for t f i (τ i t)) m 0) x 0) (sym (add-sub_of_le l)) ∙
    join-split (λ t. join_from (λ i. row_for t f i (τ i t)) m 0) n (k - n) 0 ∙
    ap (join_from (λ t. join_from (λ i. row_for t f i (τ i t)) m 0) n 0 ++◌) rest ∙ append-nil (join_from (λ t. join_from (λ i. row_for t f i (τ i t)) m 0) n 0))

module _ (b : Book) (range : InRange b) (rows : List Row) (e : plan b ≡ planned rows) where
  own-rows : (n : ℕ) → n < flow_count b → planned_grid b n ≡ flow_grid (served_at b n) (job_count (served_flow b n)) slots (schedule_of rows (served_at b n))
  unfolding planned_grid
  own-rows n l =
      grid_ext (served_at b n) (job_count (served_flow b n)) (slots_for b (served_flow b n)) (planned_share b n) (schedule_of rows (served_at b n))
      (λ i t a c. sym (states-share b (flow_count b) rows (all_placed b range rows e) (omega arith) n i t l a c)) ∙
      grid-longer (served_at b n) (job_count (served_flow b n)) (slots_for b (served_flow b n)) slots (schedule_of rows (served_at b n))
      (limit_most b (served_flow b n))
      (λ i t a c. states-none_of-flow b (flow_count b) rows (all_placed b range rows e) (omega arith) n i t l (λ x y. omega arith))

  -- the rows of a plan are the rows of the schedule that they state
  pub planned-rows_are-schedule_rows : rows ≡ schedule_rows b (schedule_of rows)
  unfolding schedule_rows flow_grid
  planned-rows_are-schedule_rows =
      placed-rows b (flow_count b) rows (all_placed b range rows e) ∙
      join-ext (planned_grid b) (λ n. flow_grid (served_at b n) (job_count (served_flow b n)) slots (schedule_of rows (served_at b n))) (flow_count b) 0
      (λ n l. own-rows (0 + n) (omega arith))

  -- they stand in the stated order
  pub planned-rows-rising : Rising (Before b) rows
  planned-rows-rising = subst (Rising (Before b)) (sym planned-rows_are-schedule_rows) (schedule-rows-rising b (schedule_of rows))

  -- the table that is written is the table of a valid schedule
  pub planned-table_is-schedule_table : IsScheduleTable b (table_bytes b rows) (late_flows b rows)
  planned-table_is-schedule_table = record {
    schedule = schedule_of rows;
    valid = planned-valid b range rows e;
    in_slots = planned_in-slots b range rows e;
    written = unfold schedule_table in ap (table_bytes b) planned-rows_are-schedule_rows;
    late_flows_is = ap (late_flows b) planned-rows_are-schedule_rows;
  }
