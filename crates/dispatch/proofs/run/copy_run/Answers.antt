-- A flow of many jobs goes by blocks at once; of another one the first rows are copied one by one, which mostly are
-- all. Assumes nothing.
use mathlib.Core.Path.{ap}
use lib.ListN.{length, length-drop}
use Rattle.dispatch.proofs.Runs.{rest_is, run-inside, rest_asked, run-copied, copied-size, run-copied-behind}
use native.Mathlib.Omega.{arith}
use Rattle.dispatch.proofs.run.copy_run.Goals as goal

pub returns-then-count-lt-FEW : goal.returns-then-count-lt-FEW
returns-then-count-lt-FEW c = let q = c.copy_some-count.ensures in run-copied q.some (q.ends c.if-count-lt-FEW.true)

pub slice_bounds-copy_long-count : goal.slice_bounds-copy_long-count
slice_bounds-copy_long-count c = run-inside _ _ _ _ c.copy_some-count.ensures.some.each

pub slice_bounds-copy_long-start : goal.slice_bounds-copy_long-start
slice_bounds-copy_long-start c = let i = run-inside _ _ _ _ c.copy_some-count.ensures.some.each in omega (arith, i)

pub copy_long-requires-2 : goal.copy_long-requires-2
copy_long-requires-2 c = rest_asked c.copy_some-count.ensures.some c.requires

pub overflow_add-result : goal.overflow_add-result
overflow_add-result c =
    let a = c.args in
    let n = c.copy_some-count.result in
    let more = run-inside _ _ _ _ c.copy_long-2.ensures.run.each in
    omega (arith, run-inside _ _ _ _ c.copy_some-count.ensures.some.each, more, ap length (rest_is a.rows.now n), length-drop n a.rows.now)

pub returns : goal.returns
returns c = let p = c.copy_some-count.ensures.some in run-copied-behind p (copied-size p (record { six = c.told-rows })) c.copy_long-2.ensures
