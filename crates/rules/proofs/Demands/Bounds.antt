-- How long chains and tables can be: each row gives at least one processor, and the rows of a job give its size, so a table without a fault has no more rows
-- than processor-slots. That of a plan has none. Assumes nothing.
use mathlib.Core.Path.{◌≡◌}
use Prim.Native.Nat.{ℕ, ◌+◌, ◌*◌, ◌≤◌}
use mathlib.Core.List.{List}
use native.Mathlib.Omega.{arith}
use lib.ListN.{length}
use Rattle.rules.specs.Verdicts.{Pass}
use Rattle.rules.specs.Walks.{sum_to}
use Rattle.rules.specs.Book.{Book, InRange, flow_count, job_count, flow_of, job_of}
use Rattle.rules.specs.Rows.{Row, total_of}
use Rattle.rules.specs.Table.{table_length, table_bytes}
use Rattle.rules.specs.Check.{table_rows, table_fault}
use Rattle.rules.specs.Demands.Lengths.{sizes_of, Bounds}
use Rattle.rules.proofs.Laws.Sums.{sum_ext}
use Rattle.rules.proofs.Rows.RowSums.{rows_most, sum-totals}
use Rattle.rules.proofs.Reading.Passing.{read_in-range}
use Rattle.rules.proofs.Reading.Caps.{used_in-range}
use Rattle.rules.proofs.Chains.Ideal.{in-range-sized}
use Rattle.rules.proofs.Chains.PseudoJobs.{chain_length}
use Rattle.rules.proofs.Tables.TablePasses.{RowsPass, table_passes}
use Rattle.rules.proofs.Tables.TableBytes.{head_passes, tables-length, table-bytes-length}
use Rattle.rules.proofs.Tables.AcceptedRows.{passing-is_row}
use Rattle.rules.proofs.Demands.AcceptsExactly.{call-accepts, rows-accepted}
use Rattle.rules.proofs.Placing.PlannedTable.{planned-rows_are-schedule_rows}
use Rattle.rules.proofs.Placing.PlannedValid.{planned-valid, planned_in-slots}

-- rows that pass the check are no more than all sizes added
module _ (b : Book) (range : InRange b) (rows : List Row) (pass : RowsPass b rows) where
  rows-within-sizes : length rows ≤ sizes_of b
  unfolding sizes_of
  rows-within-sizes =
      let is_row = passing-is_row b range rows pass in
      omega (
        arith,
        rows_most rows (λ r m. (is_row r m).takes),
        sum-totals b rows (λ r m. (is_row r m).in_book),
        sum_ext (λ f. sum_to (λ i. total_of rows f i) (job_count (flow_of b f))) (λ f. sum_to (λ i. (job_of (flow_of b f) i).size) (job_count (flow_of b f))) (flow_count b)
            (λ f l. sum_ext (λ i. total_of rows f i) (λ i. (job_of (flow_of b f) i).size) (job_count (flow_of b f)) (λ i m. pass.totals f i l m)),
      )

-- so a table without a fault is no longer
table-within : (b : Book) → InRange b → (s : List ℕ) → table_fault b s ≡ Pass → length s ≤ 8 + 2 * flow_count b + 6 * sizes_of b
unfolding table_length
table-within b range s pass =
    let p = table_passes b s pass in
    omega (arith, rows-within-sizes b range (table_rows b s) p.rows_pass, tables-length b s (head_passes b s p.head_passes))

pub bounds : Bounds
bounds = record {
  pseudo_jobs = λ book calendar b reads f l. chain_length (flow_of b f) (in-range-sized (used_in-range (read_in-range book calendar b reads) f l));
  table_most = λ book calendar b reads rows e.
      let range = read_in-range book calendar b reads in
      let passes = rows-accepted b range rows (planned-rows_are-schedule_rows b range rows e) (planned-valid b range rows e) (planned_in-slots b range rows e) in
      omega (arith, table-within b range (table_bytes b rows) passes.0, table-bytes-length b rows);
  accepted_most = λ book calendar table area b reads z.
      table-within b (read_in-range book calendar b reads) table (call-accepts book calendar table area b reads z).0;
}
