-- `table_check::row::Ready::lacks` meets its contract: the lowest bit is the rest by 2. Assumes nothing.
use borrow.Author.Tests.{eq-eqb, ne_eqb}
use Rattle.rules.proofs.Laws.Bits.{lowest-bit}
use Rattle.table_check.specs.Tests.{lacks_at}
use Rattle.table_check.proofs.row.Ready.lacks.Goals as goal

pub returns-then-bits-eq1 : goal.returns-then-bits-eq1
unfolding lacks_at
returns-then-bits-eq1 c = simp (lowest-bit, eq-eqb _ _ c.if-bits-eq1.true) c.is_not_yet.ensures

pub returns-else-bits-eq1 : goal.returns-else-bits-eq1
unfolding lacks_at
returns-else-bits-eq1 c = simp (lowest-bit, ne_eqb _ _ c.if-bits-eq1.false)
