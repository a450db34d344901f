-- A window is tested by itself, and then, where there is one before it, by the slot at which that one reopened.
use Rattle.std.proofs.Common.{arith, sym, ◌∙◌}
use Rattle.calendar.proofs.Verdicts.{broken_alone, only_early, early_beside, first_early}
use Rattle.calendar.proofs.window_fault.Goals as goal

pub returns-then-has_fault : goal.returns-then-has_fault
returns-then-has_fault c =
    broken_alone c.args.calendar.now c.args.k c.read-window.result c.read-window.ensures (sym c.has_fault.ensures ∙ c.if-has_fault.true)

pub returns-then-k-gt0 : goal.returns-then-k-gt0
returns-then-k-gt0 c =
    let s = c.args.calendar.now in
    let v = c.read-window.result in
    early_beside s c.args.k v c.read-window.ensures c.read.result c.if-k-gt0.true c.read.ensures
    ∙ only_early s c.args.k v c.read-window.ensures (sym c.has_fault.ensures ∙ c.if-has_fault.false)

pub returns-else-k-gt0 : goal.returns-else-k-gt0
returns-else-k-gt0 c =
    first_early c.args.calendar.now c.args.k (omega arith)
    ∙ only_early c.args.calendar.now c.args.k c.read-window.result c.read-window.ensures (sym c.has_fault.ensures ∙ c.if-has_fault.false)
