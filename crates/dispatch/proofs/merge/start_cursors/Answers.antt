-- The flows passed have their cursors at their first rows. Assumes nothing.
use mathlib.Core.Path.{ap}
use lib.ListN.{length, length-map}
use Rattle.rules.specs.Table.{row_bytes}
use Rattle.dispatch.specs.Merge.{rows_of}
use Rattle.dispatch.proofs.Tables.{in_range, rows-rising}
use Rattle.dispatch.proofs.Cursors.{first_cursor}
use Rattle.dispatch.proofs.Steps.{cursor_stands, started_none, started-next, started-all}
use native.Mathlib.Omega.{arith}
use Rattle.dispatch.proofs.merge.start_cursors.Goals as goal

pub loop-f-init : goal.loop-f-init
loop-f-init c = started_none _ _

pub overflow_cast-cursor : goal.overflow_cast-cursor
overflow_cast-cursor c = let t = c.args.table.now in omega (arith, c.requires, (in_range _ _ t.accepted).flows_most)

pub set-requires : goal.set-requires
set-requires c =
    let t = c.args.table.now in
    omega (arith, c.first_row.ensures.within, ap length t.rows_are, length-map (rows_of t) row_bytes)

pub loop-f-preserved : goal.loop-f-preserved
loop-f-preserved c =
    let t = c.args.table.now in
    let first = first_cursor _ _ (rows-rising _ _ t.accepted) c.loop-f.f c.first_row.result c.first_row.ensures in
    started-next _ _ _ _ (omega arith) c.set.ensures.flow_is (cursor_stands c.set.ensures first) c.loop-f.invariant

pub returns : goal.returns
returns c = started-all _ _ _ _ (omega (arith, c.requires)) (omega (arith, c.requires)) c.loop-f.invariant
