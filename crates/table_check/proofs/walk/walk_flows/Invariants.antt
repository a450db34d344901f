-- `table_check::walk::walk_flows` meets its contract. The invariant: the rows so far pass, every flow is closed, and
-- the next row is another flow's than the last one (`Between`). The measure is the bytes of the table that are left.
-- Assumes nothing.
use Prim.Native.Nat.{◌-◌}
use lib.ListN.{length}
use Rattle.rules.specs.Reading.{book_of}
use Rattle.calendar.specs.Area.{open_by}
use Rattle.table_check.specs.Tally.{rows_to}
use Rattle.table_check.proofs.Flows.{Between}
use Rattle.table_check.proofs.walk.walk_flows.Given as goal

abbrev pub invariant-loop-at : goal.invariant-loop-at
invariant-loop-at l =
    Between l.book.bytes.now (open_by l.shut) l.table l.flows l.initial.work l.work l.ends l.least l.at (rows_to (book_of l.book.bytes.now) l.at)

abbrev pub decreases-loop-at : goal.decreases-loop-at
decreases-loop-at l = length l.table - l.at
