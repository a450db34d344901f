-- The lines of an answer, put one after the other. Assumes nothing.
use native.Mathlib.Omega.{arith}
use mathlib.Core.Path.{refl}
use Rattle.plan_text.proofs.LineCases.{line_most}
use Rattle.plan_text.proofs.LentText.{put-length, put-none, put-more}
use Rattle.plan_text.proofs.lent.put_text.Goals as goal

pub loop-n-init : goal.loop-n-init
loop-n-init c = (omega arith, refl, put-none c.args.table.now c.args.answer)

pub loop-n-preserved : goal.loop-n-preserved
loop-n-preserved c =
    let a = c.args in
    let l = c.loop-n in
    let put = c.put_line-at.ensures in
    let most = line_most a.table.now a.answer l.n in
    let kept = put-length put in
    (omega arith, omega arith, put-more a.table.now a.answer l.n l.invariant.2 put)
