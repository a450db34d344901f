-- The three choices give the take. Assumes nothing.
use Rattle.std.proofs.Common.{arith}
use Rattle.chain.proofs.Takes.{take-by-choices}
use Rattle.chain.proofs.IdealJob.take_at.Goals as goal

pub returns : goal.returns
returns c =
    let j = c.args.self in
    take-by-choices j.start j.end j.last j.cap c.args.t _ _ _ _ (λ h. omega arith) c.choose-working.ensures
    c.choose-take.ensures c.choose.ensures
