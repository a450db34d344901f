-- The lines read off a planned table, in words of the plan: the first line, one for each finish, one for each row. The
-- numbers of the
-- lines are cut into these three parts, and each part is what was written into the table. Assumes nothing.
use mathlib.Core.Path.{◌≡◌, refl, sym, ap, ap₂, ◌∙◌}
use Prim.Native.Nat.{ℕ, zero, suc, ◌+◌, ◌*◌, ◌-◌, ◌/◌, ◌<◌}
use native.Mathlib.Nat.{div-one, mod-eq_of_lt}
use native.Mathlib.Omega.{arith}
use mathlib.Core.List.{List, ◌++◌, append-nil}
use Rattle.rules.specs.Walks.{list_from, join_from}
use Rattle.rules.specs.Fields.{byte, field, bytes_of}
use Rattle.rules.specs.Book.{Book, flow_count, flow_of, InRange}
use Rattle.rules.specs.Rows.{Row, finish_of, late_flows}
use Rattle.rules.specs.Placing.{planned, plan}
use Rattle.rules.specs.Table.{table_head, row_length, table_length, table_bytes, row_at}
use Rattle.rules.specs.Check.{table_rows}
use Rattle.rules.specs.Text.{table_line, finish_line, row_line}
use Rattle.rules.proofs.Reading.Caps.{used_in-range}
use Rattle.rules.proofs.Laws.Walks.{join-split, join-ext, join-moved}
use Rattle.rules.proofs.Rows.Rising.{◌∈◌}
use Rattle.rules.proofs.Placing.OpenSlots.{limit_most}
use Rattle.rules.proofs.Placing.PlannedValid.{planned-rows-fit}
use Rattle.rules.proofs.Demands.Demand3Values.{planned-finish-fits}
use Rattle.rules.proofs.Tables.TableBytes.{RowFits, table-bytes-length, table-rows_written, finish-written}
use Rattle.plan_text.specs.Lines.{flows_in, rows_from, table_lines, table_line_at}
use Rattle.plan_text.specs.Printed.{row_lines, plan_text}
use Rattle.plan_text.proofs.LineCases.{line_first, line-finish, line_row}

-- the lines of rows that a walk reads
lines_of-rows : (g : ℕ → Row) (n s : ℕ) → join_from (λ k. row_line (g k)) n s ≡ row_lines (list_from g n s)
unfolding join_from list_from row_lines
lines_of-rows g zero s = refl
lines_of-rows g (suc n) s = ap (row_line (g s) ++◌) (lines_of-rows g n (s + 1))

module _ (t : List ℕ) (bytes late : ℕ) where
  abbrev lines : ℕ → List ℕ
  lines n = table_line_at t bytes late n

  abbrev finish_lines : List ℕ
  finish_lines = join_from (λ f. finish_line f (field 2 t (8 + 2 * f))) (flows_in t) 0

  abbrev row_count : ℕ
  row_count = (bytes - rows_from t) / row_length

  first_part : join_from lines 1 0 ≡ table_line bytes late
  unfolding join_from
  first_part = append-nil (lines 0) ∙ sym (line_first t bytes late 0 refl)

  finish-part : join_from lines (flows_in t) (0 + 1) ≡ finish_lines
  finish-part =
      join-moved lines (λ f. finish_line f (field 2 t (8 + 2 * f))) (flows_in t) (0 + 1) 0
      (λ k l.
      let offset : 8 + 2 * (0 + k) ≡ 6 + 2 * (0 + 1 + k) = omega arith in
      let flow : 0 + 1 + k - 1 ≡ 0 + k = omega arith in
      sym (line-finish t bytes late (0 + 1 + k) (field 2 t (8 + 2 * (0 + k))) (omega arith) (omega arith) (ap (field 2 t) offset))
      ∙ ap (λ (f : ℕ). finish_line f (field 2 t (8 + 2 * (0 + k)))) flow)

  row-part : join_from lines row_count (0 + (1 + flows_in t)) ≡ row_lines (list_from (λ k. row_at t (rows_from t + row_length * k)) row_count 0)
  row-part =
      join-moved lines (λ k. row_line (row_at t (rows_from t + row_length * k))) row_count (0 + (1 + flows_in t)) 0
      (λ k l.
      let offset : 8 + 2 * flows_in t + 6 * (0 + (1 + flows_in t) + k - (1 + flows_in t)) ≡ rows_from t + row_length * (0 + k) = omega arith in
      sym (line_row t bytes late (0 + (1 + flows_in t) + k) (flows_in t) refl (omega arith)) ∙ ap (λ (p : ℕ). row_line (row_at t p)) offset)
      ∙ lines_of-rows (λ k. row_at t (rows_from t + row_length * k)) row_count 0

  -- the lines of a table, in their three parts
  table-lines : join_from lines (table_lines t bytes) 0
      ≡ table_line bytes late ++ finish_lines ++ row_lines (list_from (λ k. row_at t (rows_from t + row_length * k)) row_count 0)
  unfolding table_lines
  table-lines =
      join-split lines (1 + flows_in t) row_count 0
      ∙ ap₂ (◌++◌) (join-split lines 1 (flows_in t) 0 ∙ ap₂ (◌++◌) first_part finish-part) row-part

-- ---- what stands in the bytes of a table
flows-written : (b : Book) (rows : List Row) → flow_count b < 256 → byte (table_bytes b rows) 7 ≡ flow_count b
unfolding table_bytes bytes_of
flows-written b rows l = rw (div-one, mod-eq_of_lt l)

-- the rows of a plan fit their fields
module _ (b : Book) (range : InRange b) (rows : List Row) (e : plan b ≡ planned rows) where
  fields_fit : (r : Row) → r ∈ rows → RowFits r
  fields_fit r m =
      let fit = planned-rows-fit b range rows e r m in
      let flow = used_in-range range r.flow fit.flow_in_is in
      record {
        slot_fits = omega (arith, fit.slot_in, limit_most b (flow_of b r.flow));
        flow_fits = omega (arith, fit.flow_in_is, range.flows_most);
        job_fits = omega (arith, fit.job_in, flow.jobs_most);
        processors_fit = omega (arith, fit.processors_most, (flow.each_job r.job fit.job_in).cap_most, range.processors_most);
      }

  abbrev table : List ℕ
  table = table_bytes b rows

  pub flows_in_lem : flows_in table ≡ flow_count b
  flows_in_lem = flows-written b rows (omega (arith, range.flows_most))

  finishes-read : join_from (λ f. finish_line f (field 2 table (8 + 2 * f))) (flows_in table) 0
      ≡ join_from (λ f. finish_line f (finish_of rows f)) (flow_count b) 0
  finishes-read =
      ap (λ (n : ℕ). join_from (λ f. finish_line f (field 2 table (8 + 2 * f))) n 0) flows_in_lem
      ∙ join-ext (λ f. finish_line f (field 2 table (8 + 2 * f))) (λ f. finish_line f (finish_of rows f)) (flow_count b) 0
      (λ k l. ap (finish_line (0 + k)) (finish-written b rows (0 + k) (omega arith) (planned-finish-fits b range rows e (0 + k) (omega arith))))

  rows-read : list_from (λ k. row_at table (rows_from table + row_length * k)) ((table_length b rows - rows_from table) / row_length) 0 ≡ rows
  unfolding table_rows
  rows-read =
      ap (λ (m : ℕ). list_from (λ k. row_at table (8 + 2 * m + row_length * k)) ((table_length b rows - (8 + 2 * m)) / row_length) 0) flows_in_lem
      ∙ ap (λ (n : ℕ). list_from (λ k. row_at table (table_head b + row_length * k)) ((n - table_head b) / row_length) 0) (sym (table-bytes-length b rows))
      ∙ table-rows_written b rows fields_fit

  -- the text of a planned table is the plan's
  pub table_text : join_from (λ n. table_line_at table (table_length b rows) (late_flows b rows) n) (table_lines table (table_length b rows)) 0 ≡ plan_text b rows
  unfolding plan_text
  table_text =
      table-lines table (table_length b rows) (late_flows b rows)
      ∙ ap₂ (◌++◌) (ap (table_line (table_length b rows) (late_flows b rows) ++◌) finishes-read) (ap row_lines rows-read)
