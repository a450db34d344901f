-- The row in the middle tells on which side of it the first row stands, so that the rows left are fewer and it is
-- among them. Assumes nothing.
use mathlib.Core.Path.{refl, sym, subst, ◌∙◌}
use Prim.Native.Nat.{◌+◌, ◌/◌, ◌<◌}
use lib.ListN.{length}
use native.Mathlib.Omega.{arith}
use Rattle.dispatch.specs.declared.merge.Span.{Span}
use Rattle.dispatch.specs.Merge.{book_beside, rows_of}
use Rattle.dispatch.proofs.Tables.{rows-rising}
use Rattle.dispatch.proofs.Search.{Between, between-one, earlier-is, between_half}
use Rattle.dispatch.proofs.merge.first_row.Goals as goal

pub loop-low-preserved : goal.loop-low-preserved
loop-low-preserved c =
    let t = c.args.table.now in
    let middle = (c.loop-low.low + c.loop-low.high) / 2 in
    let among : middle < length (rows_of t) = omega (arith, c.loop-low.invariant.within) in
    let served = sym (earlier-is _ _ t.accepted c.args.f middle _ among) ∙ sym (rw t.rows_are at c.is_before-earlier.ensures) in
    subst (λ (x : Span). Between (book_beside t) (rows_of t) c.args.f x.low x.high) (sym c.halve-left.ensures)
    (between_half _ _ _ _ _ middle c.loop-low-test.true refl (rows-rising _ _ t.accepted) c.loop-low.invariant _ served)

pub returns : goal.returns
returns c = between-one _ _ _ _ _ (omega arith) c.loop-low.invariant
