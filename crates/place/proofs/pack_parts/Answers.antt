-- The parts' rows, packed one after the other. Assumes nothing.
use native.Mathlib.Omega.{arith}
use Rattle.chain.proofs.Walked.{take-in}
use Rattle.place.proofs.pack_parts.Goals as goal

pub pack-requires : goal.pack-requires
pack-requires c =
    omega (arith, c.requires.1 c.loop-q.q (omega (arith, c.requires.0, c.loop-q-test.true)), take-in c.args.parts.now c.loop-q.q)
