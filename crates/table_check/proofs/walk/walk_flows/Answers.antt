-- `table_check::walk::walk_flows` meets its contract. The invariant: the rows so far pass, every flow is closed, and
-- the next row is another flow's than the last one (`Between`). The measure is the bytes of the table that are left.
-- Assumes nothing.
use mathlib.Core.Path.{◌≡◌, refl}
use Rattle.std.proofs.lemmas.Result.{err_from_is_err_and}
use Rattle.book.proofs.Starts.{jobs-few}
use Prim.Native.Nat.{◌<◌}
use native.Mathlib.Omega.{arith}
use Rattle.rules.specs.Book.{flow_count}
use Rattle.rules.specs.Faults.{refusal_at}
use Rattle.rules.specs.Reading.{book_of}
use Rattle.table_check.proofs.TableRows.{row_inside}
use Rattle.table_check.proofs.Flows.{between_first, table-ends, unknown_stops, standing_stops, flow_begins, flow_stops, between_next, goes_on}
use Rattle.table_check.proofs.Mapped.{told, passed}
use Rattle.table_check.proofs.walk.walk_flows.Goals as goal

pub loop-at-init : goal.loop-at-init
loop-at-init c = between_first c.args.book.now.passes c.flow_count-flows.ensures.count c.requires c.clear.ensures

pub read-r-requires : goal.read-r-requires
read-r-requires c = let l = c.loop-at.invariant in row_inside l.headed l.reached c.loop-at-test.true

pub returns-then-flows-flow : goal.returns-then-flows-flow
returns-then-flows-flow c =
    let r = c.read-r in
    rw c.at.ensures (unknown_stops c.loop-at.invariant c.loop-at-test.true r.result r.ensures c.from-flow.ensures _ c.clear.ensures c.if-flows-flow.true)

pub head-head-requires : goal.head-head-requires
head-head-requires c = omega (arith, c.if-flows-flow.false, c.flow_count-flows.ensures.count)

pub standing_fault-requires : goal.standing_fault-requires
standing_fault-requires c =
    let inside : c.from-flow.result < flow_count (book_of c.args.book.now.bytes.now) = omega (arith, c.if-flows-flow.false, c.flow_count-flows.ensures.count) in
    jobs-few c.args.book.now inside c.head-head.ensures

pub returns-in_err-map_err : goal.returns-in_err-map_err
returns-in_err-map_err c =
    let r = c.read-r in
    let e = err_from_is_err_and c.from_residual.result c.from_residual.ensures.1 in
    let t = told _ c.standing_fault.result c.map_err.result c.map_err.ensures.cases _ c.in_err-map_err.was in
    let at : c.in_err-map_err.field-0.0 ≡ refusal_at t.0 r.result.flow r.result.job = t.2 in
    rw (e.1, e.2, at)
    (standing_stops c.loop-at.invariant c.loop-at-test.true r.result r.ensures c.from-flow.ensures c.if-flows-flow.false
    c.head-head.ensures.jobs (rw (← c.head-head.ensures.deadline) c.service_key-key.ensures.0) c.standing_fault.ensures _ c.clear.ensures t.1)

pub walk_flow-requires : goal.walk_flow-requires
walk_flow-requires c =
    let r = c.read-r in
    flow_begins c.loop-at.invariant c.loop-at-test.true r.result r.ensures c.from-flow.ensures c.if-flows-flow.false
    c.head-head.ensures.jobs (rw (← c.head-head.ensures.deadline) c.service_key-key.ensures.0) c.standing_fault.ensures
    (passed c.standing_fault.result c.map_err.result c.map_err.ensures.variant _ c.in_ok-map_err.was) refl

pub returns-in_err-stop : goal.returns-in_err-stop
returns-in_err-stop c =
    let e = err_from_is_err_and c.from_residual-in_err-stop.result c.from_residual-in_err-stop.ensures.1 in
    rw (e.1, e.2) (flow_stops c.loop-at.invariant c.in_err-stop.ensures _ c.clear.ensures)

pub loop-at-smaller : goal.loop-at-smaller
loop-at-smaller c =
    let l = c.loop-at.invariant in
    omega (arith, c.loop-at-test.true, goes_on l c.in_ok-stop.ensures refl (omega (arith, c.if-flows-flow.false, l.flows_are)))

pub loop-at-preserved : goal.loop-at-preserved
loop-at-preserved c =
    let f = c.from-flow in
    let l = c.loop-at.invariant in
    let inside : f.result < flow_count (book_of c.args.book.now.bytes.now) = omega (arith, c.if-flows-flow.false, l.flows_are) in
    between_next l c.in_ok-stop.ensures refl inside (omega (arith, c.service_key-key.ensures.0, c.head-head.ensures.deadline, f.ensures))
    c.walk_flow.auto.work

pub returns : goal.returns
returns c = table-ends c.loop-at.invariant _ c.clear.ensures c.loop-at-test.false
