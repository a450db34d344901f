-- One start more. Assumes nothing.
use Rattle.std.proofs.Common.{arith, refl}
use Rattle.book.proofs.Filled.{filled_none, filled_next}
use Rattle.chain.proofs.starts_of.Goals as goal

pub loop-i-init : goal.loop-i-init
loop-i-init c = filled_none _ _

pub overflow_sub-starts : goal.overflow_sub-starts
overflow_sub-starts c = omega (arith, c.requires.3 c.loop-i.i c.loop-i-test.true)

pub loop-i-preserved : goal.loop-i-preserved
loop-i-preserved c = let l = c.loop-i in filled_next _ l.i _ _ l.starts (omega arith) l.invariant refl

pub returns : goal.returns
returns c = λ i h. c.loop-i.invariant.values i (omega arith)
