-- The call below gives the ends of the lower jobs, and the end of job n - 1 is stored after them. Assumes nothing.
use Rattle.std.proofs.Common.{arith, ◌-◌}
use Rattle.chain.proofs.Starts.{ends-none, end_fits, ends_next}
use Rattle.chain.proofs.+ends.Goals as goal

pub returns-then-n-eq0 : goal.returns-then-n-eq0
returns-then-n-eq0 t c =
    let a = c.args in
    ends-none a.predecessors.now a.slots.now a.n a.all.now c.if-n-eq0.true

pub overflow_add-all : goal.overflow_add-all
overflow_add-all t c =
    let a = c.args in
    let fits =
    end_fits a.predecessors.now a.slots.now (a.n - 1) c.start_of-start.result a.all.now _ c.ends.ensures c.start_of-start.ensures (omega arith)
    (λ i h. c.requires.4 i (omega arith)) in
    omega arith

pub returns : goal.returns
returns t c =
    let a = c.args in
    ends_next a.predecessors.now a.slots.now (a.n - 1) c.start_of-start.result a.all.now _ c.ends.ensures c.start_of-start.ensures
    (omega arith)
    a.n
    (omega arith)
