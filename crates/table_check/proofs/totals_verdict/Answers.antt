-- `table_check::totals_verdict` meets its contract. The invariant: the flows so far pass. Assumes nothing.
use mathlib.Core.Path.{sym, ap, ◌∙◌}
use Rattle.table_check.specs.Tests.{mismatch_fault}
use Rattle.table_check.specs.Walk.{mismatches_fault}
use Rattle.table_check.proofs.Finals.{none_walked, one_walked, stopped, mismatch_at}
use Rattle.table_check.proofs.totals_verdict.Goals as goal

pub loop-f-init : goal.loop-f-init
unfolding mismatches_fault
loop-f-init c = none_walked _

pub returns-in-Some : goal.returns-in-Some
unfolding mismatches_fault
returns-in-Some c =
    let l = c.loop-f in
    rw c.at.ensures
    (sym (stopped _ l.f _ 20 l.f _ c.loop-f-test.true l.invariant (ap (mismatch_fault l.f) (mismatch_at c.args.ends.now l.f _ c.loop-f-test.true ∙ c.in-Some.is))))

pub loop-f-preserved : goal.loop-f-preserved
unfolding mismatches_fault
loop-f-preserved c =
    let l = c.loop-f in
    one_walked _ l.f l.invariant (ap (mismatch_fault l.f) (mismatch_at c.args.ends.now l.f _ c.loop-f-test.true ∙ c.in_default.is))
