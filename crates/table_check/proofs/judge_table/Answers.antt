-- `table_check::judge_table` meets its contract: each stage that refuses gives the table's first fault, and where all
-- pass the late flows are counted. Assumes nothing.
use native.Mathlib.Omega.{arith}
use Rattle.std.proofs.lemmas.Result.{err_from_is_err_and}
use Rattle.std.proofs.lemmas.List.{length-map, length-take-le}
use Rattle.book.proofs.Starts.{flows-few}
use Rattle.table_check.specs.declared.walk.FlowEnd.{FlowEnd}
use Rattle.table_check.proofs.Judging.{head_stops, walk_ready, finishes-inside, rows_stop, ends_enough, ends_stop, ends_pass}
use Rattle.table_check.proofs.judge_table.Goals as goal

pub returns-in_err-head_verdict : goal.returns-in_err-head_verdict
returns-in_err-head_verdict c =
    let e = err_from_is_err_and c.from_residual.result c.from_residual.ensures.1 in
    rw (e.1, e.2) (head_stops c.args.book.now c.flow_count-flows.ensures.count _ c.in_err-head_verdict.ensures)

pub walk_flows-requires : goal.walk_flows-requires
walk_flows-requires c =
    walk_ready c.args.book.now c.flow_count-flows.ensures.count _ c.in_ok-head_verdict.ensures c.requires

pub returns-in_err-ends : goal.returns-in_err-ends
returns-in_err-ends c =
    let e = err_from_is_err_and c.from_residual-in_err-ends.result c.from_residual-in_err-ends.ensures.1 in
    rw (e.1, e.2) (rows_stop c.args.book.now c.flow_count-flows.ensures.count _ c.in_ok-head_verdict.ensures c.in_err-ends.ensures)

pub ends_verdict-requires : goal.ends_verdict-requires
ends_verdict-requires c =
    let n = c.flow_count-flows.ensures in
    let pass = c.in_ok-head_verdict.ensures in
    let all = length-take-le _ _ (ends_enough c.args.book.now n.count _ pass c.in_ok-ends.ensures) in
    (omega (arith, all, n.few), omega (arith, all, finishes-inside c.args.book.now n.count _ pass))

pub returns-in_err-ends_verdict : goal.returns-in_err-ends_verdict
returns-in_err-ends_verdict c =
    let e = err_from_is_err_and c.from_residual-in_err-ends_verdict.result c.from_residual-in_err-ends_verdict.ensures.1 in
    rw (e.1, e.2)
    (ends_stop c.args.book.now c.flow_count-flows.ensures.count _ c.in_ok-head_verdict.ensures c.in_ok-ends.ensures c.in_err-ends_verdict.ensures)

pub late_flows-requires : goal.late_flows-requires
late_flows-requires c =
    rw c.finishes.ensures (omega (arith, length-map c.in_ok-ends.ends (λ (e : FlowEnd). e.finish), c.in_ok-ends.ensures.long, flows-few c.args.book.now))

pub returns : goal.returns
returns c =
    ends_pass c.args.book.now c.flow_count-flows.ensures.count _ c.in_ok-head_verdict.ensures c.in_ok-ends.ensures c.in_ok-ends_verdict.ensures
    (rw (← c.finishes.ensures) c.late_flows.ensures)
