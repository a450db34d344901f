-- The count of the flows passed. Assumes nothing.
use mathlib.Core.Path.{◌≡◌}
use Prim.Native.Nat.{◌≤◌}
use Rattle.book.specs.Late.{late_count}
use Rattle.book.proofs.late.late_flows.Given as goal

abbrev pub invariant-loop-f : goal.invariant-loop-f
invariant-loop-f l = (l.late ≤ l.f) × (l.late ≡ late_count l.deadlines l.finish l.f)
