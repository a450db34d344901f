-- Behind the blocks of a run fewer than sixteen rows are left, which are copied one by one; together they are the
-- run. Assumes nothing.
use mathlib.Core.Path.{◌≡◌, sym, ◌∙◌}
use Rattle.std.specs.Prelude.{Some}
use Rattle.dispatch.specs.Runs.{due_at}
use Rattle.dispatch.proofs.Runs.{behind, rest_is, due-drop, run-inside, rest_asked, fewer, run-copied, copied-size, run-copied-behind}
use native.Mathlib.Omega.{arith}
use Rattle.dispatch.proofs.run.copy_long.Goals as goal

pub slice_bounds-copy_some-count : goal.slice_bounds-copy_some-count
slice_bounds-copy_some-count c = run-inside _ _ _ _ c.copy_blocks-count.ensures.some.each

pub slice_bounds-copy_some-start : goal.slice_bounds-copy_some-start
slice_bounds-copy_some-start c = let i = run-inside _ _ _ _ c.copy_blocks-count.ensures.some.each in omega (arith, i)

pub copy_some-requires : goal.copy_some-requires
copy_some-requires c = rest_asked c.copy_blocks-count.ensures.some c.requires

pub returns : goal.returns
returns c =
    let a = c.args in
    let p = c.copy_blocks-count.ensures in
    let q = c.copy_some.ensures in
    let n = c.copy_blocks-count.result in
    let last : due_at (behind a.rows.now n) 15 a.flow ≡ Some a.slot → ⊥ =
    rw (rest_is a.rows.now n) (λ e. p.few_left (sym (due-drop a.rows.now n 15 a.flow) ∙ e)) in
    run-copied-behind p.some (copied-size p.some (record { six = c.told-rows })) (run-copied q.some (q.ends (fewer _ _ _ _ q.some.each last)))
