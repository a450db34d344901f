-- What stands in the output of an accepted call of the planner: its table is that of the plan, so the plan's rows and finishes are read off it.
-- Assumes nothing.
use mathlib.Core.Path.{◌≡◌, ap, ◌∙◌}
use Prim.Native.Nat.{ℕ, ◌<◌}
use mathlib.Core.List.{List}
use lib.ListN.{take, drop}
use lib.Seq.{take_at}
use Rattle.rules.specs.Book.{Book, flow_count, InRange}
use Rattle.rules.specs.Reading.{read, read_book}
use Rattle.rules.specs.Rows.{finish_of}
use Rattle.rules.specs.Placing.{rows_of, plan}
use Rattle.rules.specs.Table.{table_length, table_bytes, finish_in}
use Rattle.rules.specs.Planner.{plan_call}
use Rattle.rules.specs.Check.{table_rows}
use Rattle.rules.specs.Demands.Planner.{PlansByTheRules, WritesPlan}
use Rattle.rules.specs.Demands.Quote.{table_of}
use Rattle.rules.proofs.Reading.Passing.{read_in-range}
use Rattle.rules.proofs.Tables.TableBytes.{table-bytes-length, finish_in-front}
use Rattle.rules.proofs.Placing.PlannedValid.{planned-valid, planned_in-slots}
use Rattle.rules.proofs.Placing.PlannedTable.{planned-rows_are-schedule_rows}
use Rattle.rules.proofs.Demands.Demand3Values.{planned-finish-fits}
use Rattle.rules.proofs.Demands.AcceptsExactly.{rows-accepted}
use Rattle.rules.proofs.Demands.PlansByTheRules.{plans_by_the_rules}

module _ (book calendar out area : List ℕ) (b : Book) (reads : read_book book calendar ≡ read b) (accepted : (plan_call book calendar out area).answer.number ≡ 0) where
  range : InRange b
  range = read_in-range book calendar b reads

  writes : WritesPlan b out area (plan_call book calendar out area)
  unfolding PlansByTheRules
  writes = plans_by_the_rules book calendar out area b reads accepted

  pub written-table : table_of (plan_call book calendar out area) ≡ table_bytes b (rows_of (plan b))
  written-table =
      let rows = rows_of (plan b) in
      ap (λ n. take n (plan_call book calendar out area).output) writes.table_length_is ∙ ap (take (table_length b rows)) writes.table
      ∙ take_at (table_bytes b rows) (drop (table_length b rows) out) (table_length b rows) (table-bytes-length b rows)

  pub written-rows : table_rows b (table_of (plan_call book calendar out area)) ≡ rows_of (plan b)
  written-rows =
      let rows = rows_of (plan b) in
      ap (table_rows b) written-table
      ∙ (rows-accepted b range rows (planned-rows_are-schedule_rows b range rows writes.all_placed) (planned-valid b range rows writes.all_placed)
      (planned_in-slots b range rows writes.all_placed)).1

  pub written-finish : (f : ℕ) → f < flow_count b → finish_in (plan_call book calendar out area).output f ≡ finish_of (rows_of (plan b)) f
  written-finish f l =
      let rows = rows_of (plan b) in
      ap (λ s. finish_in s f) writes.table
      ∙ finish_in-front b rows (drop (table_length b rows) out) f l (planned-finish-fits b range rows writes.all_placed f l)
