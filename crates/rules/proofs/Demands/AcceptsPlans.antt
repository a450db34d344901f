-- The check accepts every table that the planner writes: the plan's table is that of a valid schedule, and the check accepts each of these.
-- Assumes nothing.
use mathlib.Core.Path.{refl, sym, ap, ◌∙◌}
use Rattle.rules.specs.Answers.{check_accepted}
use Rattle.rules.specs.Reading.{book_with}
use Rattle.rules.specs.Rows.{late_flows}
use Rattle.rules.specs.Placing.{rows_of, plan}
use Rattle.rules.specs.Table.{table_bytes}
use Rattle.rules.specs.Planner.{plan_reading, plan_call}
use Rattle.rules.specs.Check.{check_call}
use Rattle.rules.specs.Demands.Planner.{PlansByTheRules}
use Rattle.rules.specs.Demands.Check.{AcceptsPlans}
use Rattle.rules.proofs.Reading.Passing.{read_in-range}
use Rattle.rules.proofs.Demands.Refusals.{zero-reads}
use Rattle.rules.proofs.Placing.PlannedTable.{planned-table_is-schedule_table}
use Rattle.rules.proofs.Demands.AcceptsExactly.{accepts_exactly}
use Rattle.rules.proofs.Demands.PlansByTheRules.{plans_by_the_rules}
use Rattle.rules.proofs.Calls.WrittenPlans.{written-table}

pub accepts_plans : AcceptsPlans
unfolding AcceptsPlans PlansByTheRules plan_call plan_reading
accepts_plans book calendar out area other z long =
    let b = book_with book calendar in
    let rows = rows_of (plan b) in
    let reads = zero-reads book calendar (λ r. (plan_reading out area r).answer.number) (λ n f j. refl) z in
    let w = plans_by_the_rules book calendar out area b reads z in
    ap (λ s. (check_call book calendar s other).answer) (written-table book calendar out area b reads z)
    ∙ accepts_exactly.every_schedule book calendar (table_bytes b rows) other b (late_flows b rows) reads long
    (planned-table_is-schedule_table b (read_in-range book calendar b reads) rows w.all_placed)
    ∙ ap check_accepted (sym w.late_flows_is)
