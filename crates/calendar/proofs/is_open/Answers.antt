-- `is_open` meets its contract: past the last flag the look-up finds 0, which is not 1. Assumes nothing.
use borrow.Author.Rules.{rules}
use borrow.Author.Tests.{le-leb}
use lib.ListN.{length, get_or-eq_default}
use Rattle.calendar.specs.Area.{open_by}
use Rattle.calendar.proofs.is_open.Goals as goal

pub returns-then-flags-slot : goal.returns-then-flags-slot
unfolding open_by
returns-then-flags-slot c = let a = c.args in rw (le-leb (length a.flags.now) a.slot c.if-flags-slot.true, get_or-eq_default a.flags.now 0 c.if-flags-slot.true)

pub returns-else-flags-slot : goal.returns-else-flags-slot
unfolding open_by
returns-else-flags-slot c = search rules
