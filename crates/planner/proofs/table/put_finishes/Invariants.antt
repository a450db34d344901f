-- The finishes passed stand where they belong. Assumes nothing.
use mathlib.Core.Path.{◌≡◌}
use lib.Seq.{sets}
use Rattle.planner.specs.Head.{finish_bytes}
use Rattle.planner.proofs.table.put_finishes.Given as goal

abbrev pub invariant-loop-f : goal.invariant-loop-f
invariant-loop-f l = l.out ≡ sets l.initial.out 8 (finish_bytes l.finishes l.f)
