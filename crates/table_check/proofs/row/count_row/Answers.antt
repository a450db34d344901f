-- `table_check::row::count_row` meets its contract: use, total and completeness are stored at the row's slot and job.
-- Assumes nothing.
use Rattle.table_check.proofs.Jobs.{row-counted}
use Rattle.table_check.proofs.row.count_row.Goals as goal

pub returns : goal.returns
returns c =
    row-counted c.requires c.from-2.ensures c.from-3.ensures c.complete.ensures.kept c.complete.ensures.ready
    (rw (← c.from.ensures) c.write.ensures)
