-- Each arm is one case of the definition. Assumes nothing.
use mathlib.Core.Path.{sym, ap, ◌∙◌}
use Rattle.std.proofs.Common.{Some}
use Rattle.dispatch.proofs.Runs.{due-own, due-other}
use Rattle.dispatch.proofs.run.due_of.Goals as goal

pub returns-then-row-flow : goal.returns-then-row-flow
returns-then-row-flow c = ap Some c.read.ensures ∙ sym (due-own c.args.row.now c.args.flow c.if-row-flow.true)

pub returns-else-row-flow : goal.returns-else-row-flow
returns-else-row-flow c = sym (due-other c.args.row.now c.args.flow c.if-row-flow.false)
