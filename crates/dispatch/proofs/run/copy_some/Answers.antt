-- The rows passed are of the run, and they are copied. Assumes nothing.
use mathlib.Core.Path.{◌≡◌, sym, ◌∙◌}
use mathlib.Core.List.{[]}
use Prim.Native.Nat.{suc, ◌+◌, ◌*◌, ◌≤◌, ◌<◌}
use lib.ListN.{length}
use Rattle.std.specs.Prelude.{Some}
use Rattle.std.proofs.lemmas.List.{length-take, get_or-take}
use Rattle.dispatch.specs.Runs.{due_at}
use Rattle.dispatch.proofs.Runs.{due-same, due-differs, due-take, due-inside, run-next, going-none, going-copied, going_row}
use native.Mathlib.Omega.{arith}
use Rattle.dispatch.proofs.run.copy_some.Goals as goal

pub loop-k-init : goal.loop-k-init
loop-k-init c = going-none _ _ _ _

pub returns-then-ne : goal.returns-then-ne
returns-then-ne c =
    let a = c.args in
    let row = c.due_of.ensures ∙ due-take a.rows.now c.min-most.result c.loop-k.k a.flow c.loop-k-test.true in
    record {
      some = going-copied _ _ _ _ c.loop-k.invariant;
      within = omega (arith, length-take c.min-most.result a.rows.now);
      ends = λ l e. due-differs _ _ (sym c.if-ne.ensures) (row ∙ e);
    }

pub slice_bounds-copy_from_slice-end : goal.slice_bounds-copy_from_slice-end
slice_bounds-copy_from_slice-end c =
    let a = c.args in
    let row : due_at a.rows.now c.loop-k.k a.flow ≡ Some a.slot =
    sym (c.due_of.ensures ∙ due-take a.rows.now c.min-most.result c.loop-k.k a.flow c.loop-k-test.true) ∙ due-same _ _ (sym c.if-ne.ensures) in
    let fits : 6 * c.loop-k.k + 6 ≤ length c.loop-k.out =
    omega (arith, c.requires.fits (suc c.loop-k.k) (run-next a.rows.now a.flow a.slot c.loop-k.k c.loop-k.invariant.each row), c.loop-k.invariant.kept) in
    omega (arith, fits)

pub loop-k-preserved : goal.loop-k-preserved
loop-k-preserved c =
    let a = c.args in
    let row : due_at a.rows.now c.loop-k.k a.flow ≡ Some a.slot =
    sym (c.due_of.ensures ∙ due-take a.rows.now c.min-most.result c.loop-k.k a.flow c.loop-k-test.true) ∙ due-same _ _ (sym c.if-ne.ensures) in
    let among : c.loop-k.k < c.min-most.result = omega (arith, length-take c.min-most.result a.rows.now) in
    going_row _ _ _ _ _ _ _ (record { six = c.told-rows }) c.requires row (omega arith)
    (c.copy_from_slice.ensures.after ∙ get_or-take c.min-most.result a.rows.now c.loop-k.k [] among) c.loop-k.invariant

pub returns : goal.returns
returns c =
    let a = c.args in
    let all : c.loop-k.k ≡ c.min-most.result = omega (arith, length-take c.min-most.result a.rows.now) in
    record {
      some = rw all at (going-copied _ _ _ _ c.loop-k.invariant);
      within = omega arith;
      ends = λ l e. let i = due-inside a.rows.now c.min-most.result a.flow a.slot e in absurd (omega arith);
    }
