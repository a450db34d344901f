-- The flows passed have their cursors at their first rows. Assumes nothing.
use Rattle.dispatch.specs.Merge.{rows_of}
use Rattle.dispatch.proofs.Steps.{Started}
use Rattle.dispatch.proofs.merge.start_cursors.Given as goal

abbrev pub invariant-loop-f : goal.invariant-loop-f
invariant-loop-f l = Started (rows_of l.table) l.f l.cursors
