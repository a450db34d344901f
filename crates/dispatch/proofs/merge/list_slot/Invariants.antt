-- The flows passed have listed their rows of the slot, and their cursors are past it. Assumes nothing.
use Rattle.dispatch.specs.Merge.{book_beside, rows_of, rows_in, Cursors, RowsListed}
use Rattle.dispatch.proofs.merge.list_slot.Given as goal

abbrev pub invariant-loop-cursor : goal.invariant-loop-cursor
invariant-loop-cursor l = Cursors (book_beside l.table) (rows_of l.table) l.slot l.cursor-index l.cursors × RowsListed (rows_in (rows_of l.table) l.cursor-index l.slot) l.count l.initial.out l.out l.next
