-- The lines of a table, by their kinds. Assumes nothing.
use mathlib.Core.Path.{ap, ◌∙◌}
use Prim.Native.Nat.{◌≤◌}
use native.Mathlib.Omega.{arith}
use Rattle.rules.specs.Text.{row_line}
use Rattle.plan_text.proofs.LineCases.{line-of_table, line_first, line-finish, line_row}
use Rattle.plan_text.proofs.lines.line_at.Goals as goal

pub returns-then-n-eq0 : goal.returns-then-n-eq0
returns-then-n-eq0 c =
    let a = c.args in
    line_first a.table.now a.answer.length a.answer.late a.n c.if-n-eq0.true ∙ line-of_table a.table.now a.answer a.n c.if-answer-ne0.false

pub returns-then-n-flows : goal.returns-then-n-flows
returns-then-n-flows c =
    let a = c.args in
    let n : 1 ≤ a.n = omega arith in
    line-finish a.table.now a.answer.length a.answer.late a.n c.read.result n (omega arith) c.read.ensures
    ∙ line-of_table a.table.now a.answer a.n c.if-answer-ne0.false

pub returns : goal.returns
returns c =
    let a = c.args in
    ap row_line c.read-2.ensures
    ∙ line_row a.table.now a.answer.length a.answer.late a.n c.from-flows.result c.from-flows.ensures c.if-n-flows.false
    ∙ line-of_table a.table.now a.answer a.n c.if-answer-ne0.false
