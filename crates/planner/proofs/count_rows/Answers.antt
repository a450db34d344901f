-- The work area is cleared before and after, and the output's first 0 bytes are lent, so that the output stays. Assumes
-- nothing.
use native.Mathlib.Omega.{arith}
use Rattle.std.proofs.lemmas.Result.{err_from_is_err_and}
use Rattle.planner.proofs.Outcome.{cleared-unused, counted}
use Rattle.planner.proofs.count_rows.Goals as goal

pub place_first-first-requires : goal.place_first-first-requires
place_first-first-requires c = (omega (arith, c.flow_count.ensures.count), omega (arith, c.requires), cleared-unused _ c.clear.ensures)

pub returns-in_err-first : goal.returns-in_err-first
returns-in_err-first c =
    let e = err_from_is_err_and c.from_residual.result c.from_residual.ensures.1 in
    rw (e.1, e.2)
    (counted _ _ c.flow_count.ensures.count c.flow_count.ensures.few c.clear.ensures (omega arith) c.in_err-first.ensures c.clear-2.ensures)

pub returns : goal.returns
returns c = counted _ _ c.flow_count.ensures.count c.flow_count.ensures.few c.clear.ensures (omega arith) c.in_ok-first.ensures c.clear-2.ensures
