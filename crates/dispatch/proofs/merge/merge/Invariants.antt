-- The slots passed are listed. While a row is left a slot is left; when none is, what is listed is the list. Assumes
-- nothing.
use Prim.Native.Nat.{◌-◌, ◌≤◌}
use Rattle.rules.specs.Limits.{slots}
use Rattle.rules.specs.Book.{flow_count}
use Rattle.dispatch.specs.Merge.{book_beside, rows_of, rows_below, Cursors, RowsListed}
use Rattle.dispatch.proofs.merge.merge.Given as goal

abbrev pub invariant-loop-count : goal.invariant-loop-count
invariant-loop-count l = (l.slot ≤ slots) × Cursors (book_beside l.table) (rows_of l.table) l.slot 0 l.cursors × RowsListed (rows_below (rows_of l.table) (flow_count (book_beside l.table)) l.slot) 0 l.initial.out l.out l.count

abbrev pub decreases-loop-count : goal.decreases-loop-count
decreases-loop-count l = slots - l.slot
