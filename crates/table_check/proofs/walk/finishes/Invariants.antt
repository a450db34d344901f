-- `table_check::walk::finishes` meets its contract. The invariant: the finishes so far are those of the flows. Assumes
-- nothing.
use mathlib.Core.Path.{◌≡◌}
use Prim.Native.Nat.{ℕ, ◌<◌}
use lib.ListN.{length, get_or}
use Rattle.table_check.specs.Walk.{finishes_of}
use Rattle.table_check.proofs.walk.finishes.Given as goal

abbrev pub invariant-loop-f : goal.invariant-loop-f
invariant-loop-f l = (length l.finishes ≡ 64) × ((k : ℕ) → k < l.f → get_or l.finishes k 0 ≡ get_or (finishes_of l.ends) k 0)
