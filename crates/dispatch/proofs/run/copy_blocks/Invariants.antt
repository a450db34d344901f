-- The blocks passed are of the run, and they are copied. Assumes nothing.
use Prim.Native.Nat.{◌*◌}
use Rattle.dispatch.proofs.Runs.{Going}
use Rattle.dispatch.proofs.run.copy_blocks.Given as goal

abbrev pub invariant-loop-k : goal.invariant-loop-k
invariant-loop-k l = Going l.rows l.flow l.slot l.initial.out l.out (16 * l.k)
