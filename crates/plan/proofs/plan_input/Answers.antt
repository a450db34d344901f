-- `plan::plan_input` meets its contract: an input that is too long is refused by 1, and every other is answered by the
-- planner, whose
-- outcome is printed as the rules say. Assumes nothing.
use Prim.Native.Nat.{ℕ}
use native.Mathlib.Omega.{arith}
use mathlib.Core.Path.{sym, subst}
use mathlib.Core.List.{List}
use Rattle.rules.specs.declared.PlanAnswer.{PlanAnswer}
use Rattle.rules.specs.Calendar.{no_windows}
use Rattle.rules.specs.Planner.{plan_call}
use Rattle.plan_text.specs.Printed.{Prints, printed}
use Rattle.plan_text.proofs.PrintedAnswers.{long-input_prints, call_prints}
use Rattle.plan.proofs.plan_input.Goals as goal

pub returns-then-input-gt-LENT_BYTES : goal.returns-then-input-gt-LENT_BYTES
returns-then-input-gt-LENT_BYTES c =
    let a = c.args in
    rw (c.into.ensures, c.nowhere.ensures) (long-input_prints a.input.now a.output.now (omega arith))

pub returns : goal.returns
returns c =
    let a = c.args in
    let leaves = c.plan_book.ensures in
    let text = printed a.input.now in
    let outcome = plan_call a.input.now no_windows a.output.now a.work.now in
    subst (λ (o : List ℕ). Prints text o c.plan_book.result) (sym leaves.output_left)
    (subst (λ (r : PlanAnswer). Prints text outcome.output r) (sym leaves.answers)
    (call_prints a.output.now a.work.now c.requires.0 c.requires.1 a.input.now (omega arith)))
