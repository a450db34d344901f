-- The four choices give the next cut. Assumes nothing.
use Rattle.chain.proofs.Takes.{change-at-cut}
use Rattle.chain.proofs.IdealJob.until_change.Goals as goal

pub returns : goal.returns
returns c =
    let j = c.args.self in
    let v = c.requires in
    change-at-cut j.start j.end j.last j.cap c.args.t c.args.limit v.0 v.1 v.2 v.3 _ _ _ _ v.4
    c.choose-turn.ensures c.choose-running.ensures c.choose-next.ensures c.choose-cut.ensures _ c.min.ensures
