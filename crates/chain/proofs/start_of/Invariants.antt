-- The largest end of all is `start` or that of one of the bits that are left. The measure is `bits`: to take a bit off
-- makes it less. Assumes nothing.
use mathlib.Core.Path.{◌≡◌}
use Prim.Native.Nat.{◌≤◌, max}
use Rattle.chain.specs.Jobs.{start_among}
use Rattle.chain.proofs.start_of.Given as goal

abbrev pub invariant-loop-bits : goal.invariant-loop-bits
invariant-loop-bits l =
    (l.bits ≤ l.predecessors) × (start_among l.predecessors l.ends l.n ≡ max l.start (start_among l.bits l.ends l.n))

abbrev pub decreases-loop-bits : goal.decreases-loop-bits
decreases-loop-bits l = l.bits
