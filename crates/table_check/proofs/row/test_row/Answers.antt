-- `table_check::row::test_row` meets its contract: where 15, 25 or 16 is met it is the fault; otherwise the row's slot
-- and job are in range, and what was read is that of the flow and of the work area. Assumes nothing.
use mathlib.Core.Path.{refl}
use native.Mathlib.Omega.{arith}
use Rattle.std.proofs.lemmas.Result.{err_from_is_err_and}
use Rattle.book.proofs.Starts.{jobs-few}
use Rattle.table_check.proofs.TestNumbers.{tested-standing, tested-inside, tested-amount, tested-passes}
use Rattle.table_check.proofs.row.test_row.Goals as goal

pub standing_fault-requires : goal.standing_fault-requires
standing_fault-requires c = let k = c.args.current.now in jobs-few k.book.now k.inside k.head_is

pub returns-in_err-standing_fault : goal.returns-in_err-standing_fault
returns-in_err-standing_fault c =
    let e = err_from_is_err_and c.from_residual.result c.from_residual.ensures.1 in
    rw (e.1, e.2) (tested-standing c.args.current.now _ _ c.rank_of.ensures.0 _ c.standing_fault.ensures _ c.in_err-standing_fault.was)

pub read-used-requires : goal.read-used-requires
read-used-requires c =
    let inside = tested-inside c.args.current.now _ _ c.rank_of.ensures.0 _ c.standing_fault.ensures c.in_ok-standing_fault.was in
    omega (arith, inside.0, c.from.ensures, c.requires.1)

pub bounds-jobs-from : goal.bounds-jobs-from
bounds-jobs-from c =
    let inside = tested-inside c.args.current.now _ _ c.rank_of.ensures.0 _ c.standing_fault.ensures c.in_ok-standing_fault.was in
    omega (arith, inside.1, c.from-2.ensures, c.requires.0.enough)

pub returns-in_err-amount_fault : goal.returns-in_err-amount_fault
returns-in_err-amount_fault c =
    let e = err_from_is_err_and c.from_residual-in_err-amount_fault.result c.from_residual-in_err-amount_fault.ensures.1 in
    rw (e.1, e.2)
    (tested-amount c.args.current.now _ _ c.rank_of.ensures.0 _ c.standing_fault.ensures c.in_ok-standing_fault.was
    _ c.requires.0 (rw (← c.from.ensures) c.read-used.ensures) (rw c.from-2.ensures refl) _ c.amount_fault.ensures c.in_err-amount_fault.was)

pub returns : goal.returns
returns c =
    tested-passes c.args.current.now _ _ c.rank_of.ensures.0 _ c.standing_fault.ensures c.in_ok-standing_fault.was
    _ c.requires.0 (rw (← c.from.ensures) c.read-used.ensures) (rw c.from-2.ensures refl) _ c.amount_fault.ensures c.in_ok-amount_fault.was
    (rw c.from-2.ensures refl)
