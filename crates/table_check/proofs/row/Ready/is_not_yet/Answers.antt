-- `table_check::row::Ready::is_not_yet` meets its contract. Assumes nothing.
use Rattle.table_check.proofs.Jobs.{not_yet_by-last}
use Rattle.table_check.proofs.row.Ready.is_not_yet.Goals as goal

pub returns : goal.returns
returns c = rw c.from.ensures (not_yet_by-last c.args.self c.args.slot c.ranges.slot.fits)
