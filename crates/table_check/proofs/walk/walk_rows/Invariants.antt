-- `table_check::walk::walk_rows` meets its contract. The invariant of the loop over rows: the rows so far pass, those
-- since `from` are the flow's, and totals, completeness and work area are theirs (`Going`); of the loop over
-- predecessors: the row is released, and none so far is lacking (`Asking`). The measures are the bytes of the table
-- that are left, and the bits that are left. Assumes nothing.
use mathlib.Core.Path.{◌≡◌}
use Prim.Native.Nat.{◌-◌}
use lib.ListN.{length}
use Rattle.rules.specs.Limits.{slots}
use Rattle.rules.specs.Reading.{book_of}
use Rattle.rules.specs.Rows.{work_zero}
use Rattle.calendar.specs.Area.{open_by}
use Rattle.table_check.specs.Tally.{rows_to}
use Rattle.table_check.proofs.Turns.{Going}
use Rattle.table_check.proofs.Asking.{Asking}
use Rattle.table_check.proofs.walk.walk_rows.Given as goal

abbrev pub invariant-loop-bits : goal.invariant-loop-bits
invariant-loop-bits l =
    Asking l.current.book.now.bytes.now (open_by l.current.shut.now) l.current.table.now l.current.flow l.from l.jobs l.work l.least l.finish l.at l.r l.tested l.bits l.k

abbrev pub decreases-loop-bits : goal.decreases-loop-bits
decreases-loop-bits l = l.bits

abbrev pub invariant-rows : goal.invariant-rows
invariant-rows l =
    Going l.current.book.now.bytes.now (open_by l.current.shut.now) l.current.table.now l.current.flow l.from l.jobs l.work l.least l.finish l.at
    (rows_to (book_of l.current.book.now.bytes.now) l.at)
    × (work_zero slots l.work ≡ work_zero slots l.initial.work)

abbrev pub decreases-rows : goal.decreases-rows
decreases-rows l = length l.current.table.now - l.at
