-- 12 where the first placing meets an infeasible flow, and otherwise what the second one leaves. Assumes nothing.
use Rattle.std.proofs.lemmas.Result.{err_from_is_err_and}
use native.Mathlib.Omega.{arith}
use Rattle.planner.proofs.Outcome.{cleared-unused, sized, leaves-infeasible, leaves_after}
use Rattle.planner.proofs.plan_passing.Goals as goal

pub returns-in_err-size : goal.returns-in_err-size
returns-in_err-size c =
    let e = err_from_is_err_and c.from_residual.result c.from_residual.ensures.1 in
    rw (← c.of-turns.ensures.book, ← c.of-turns.ensures.calendar, e.1, e.2) (leaves-infeasible c.in_err-size.ensures)

pub write_table-requires : goal.write_table-requires
write_table-requires c = (omega (arith, c.requires), cleared-unused _ c.count_rows.ensures.area_zero, sized c.in_ok-size.ensures)

pub returns : goal.returns
returns c = rw (← c.of-turns.ensures.book, ← c.of-turns.ensures.calendar) (leaves_after c.count_rows.ensures c.write_table.ensures)
