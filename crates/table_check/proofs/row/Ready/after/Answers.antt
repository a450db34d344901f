-- `table_check::row::Ready::after` meets its contract. Assumes nothing.
use Rattle.table_check.proofs.Jobs.{ready_after-slot}
use Rattle.table_check.proofs.row.Ready.after.Goals as goal

pub returns : goal.returns
returns c = rw c.from.ensures (ready_after-slot c.args.slot c.requires)
