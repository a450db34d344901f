-- The rows passed are of the run, and they are copied. Assumes nothing.
use Rattle.dispatch.proofs.Runs.{Going}
use Rattle.dispatch.proofs.run.copy_some.Given as goal

abbrev pub invariant-loop-k : goal.invariant-loop-k
invariant-loop-k l = Going l.rows l.flow l.slot l.initial.out l.out l.k
