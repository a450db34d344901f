-- The count of the flows passed, one more each turn where a flow is late. Assumes nothing.
use mathlib.Core.Path.{sym, ap, ◌∙◌}
use native.Mathlib.Omega.{arith}
use Rattle.rules.specs.Walks.{bit}
use Rattle.rules.proofs.Laws.Sums.{bit_most}
use Rattle.book.proofs.Served.{test_bit}
use Rattle.book.proofs.LateFlows.{late-none, late-next}
use Rattle.book.proofs.late.late_flows.Goals as goal

pub loop-f-init : goal.loop-f-init
loop-f-init c = (omega arith, sym (late-none c.args.deadlines.now c.args.finish.now))

pub loop-f-preserved : goal.loop-f-preserved
loop-f-preserved c =
    let one = c.from-late.ensures ∙ test_bit c.is_late.result in
    let next = late-next c.args.deadlines.now c.args.finish.now c.loop-f.f in
    (omega (arith, one, bit_most c.is_late.result), omega (arith, one, ap bit c.is_late.ensures, next))
