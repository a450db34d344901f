-- Where there is no such row there is no slot. Assumes nothing.
use mathlib.Core.Path.{sym, ap, ◌∙◌}
use mathlib.Core.List.{[]}
use Prim.Native.Nat.{ℕ}
use mathlib.Core.List.{List}
use Rattle.dispatch.specs.Runs.{due_of}
use Rattle.dispatch.proofs.Runs.{due-past, due-there}
use Rattle.dispatch.proofs.run.due_at.Goals as goal

pub returns-in_err-get : goal.returns-in_err-get
returns-in_err-get c = let a = c.args in c.from_residual.ensures ∙ sym (due-past a.rows.now a.at a.flow c.in_err-get.ensures.lookup.3)

pub returns : goal.returns
returns c =
    let a = c.args in
    let row = c.in_ok-get.ensures.lookup.3 in
    c.due_of.ensures ∙ ap (λ (r : List ℕ). due_of r a.flow) (row.1 []) ∙ sym (due-there a.rows.now a.at a.flow row.0)
