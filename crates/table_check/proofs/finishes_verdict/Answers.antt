-- `table_check::finishes_verdict` meets its contract. The invariant: the flows so far pass. Assumes nothing.
use mathlib.Core.Path.{sym, ◌∙◌}
use Rattle.table_check.proofs.Finals.{none_walked, one_walked, stopped, finish_at, finish_right, finish_wrong}
use Rattle.table_check.proofs.finishes_verdict.Goals as goal

pub loop-f-init : goal.loop-f-init
loop-f-init c = none_walked _

pub returns-then-read-end : goal.returns-then-read-end
returns-then-read-end c =
    let l = c.loop-f in
    rw c.at_flow.ensures
    (sym (stopped _ l.f _ 21 l.f 255 c.loop-f-test.true l.invariant
    (finish_wrong c.args.table.now _ l.f c.read.result c.read.ensures (λ e. c.if-read-end.true (e ∙ finish_at c.args.ends.now l.f _ c.loop-f-test.true)))))

pub loop-f-preserved : goal.loop-f-preserved
loop-f-preserved c =
    let l = c.loop-f in
    one_walked _ l.f l.invariant
    (finish_right c.args.table.now _ l.f c.read.result c.read.ensures (c.if-read-end.false ∙ sym (finish_at c.args.ends.now l.f _ c.loop-f-test.true)))
