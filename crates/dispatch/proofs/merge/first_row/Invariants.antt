-- The first row looked for stands from `low` to `high`, which come nearer by half. Assumes nothing.
use Prim.Native.Nat.{◌-◌}
use Rattle.dispatch.specs.Merge.{book_beside, rows_of}
use Rattle.dispatch.proofs.Search.{Between}
use Rattle.dispatch.proofs.merge.first_row.Given as goal

abbrev pub invariant-loop-low : goal.invariant-loop-low
invariant-loop-low l = Between (book_beside l.table) (rows_of l.table) l.f l.low l.high

abbrev pub decreases-loop-low : goal.decreases-loop-low
decreases-loop-low l = l.high - l.low
