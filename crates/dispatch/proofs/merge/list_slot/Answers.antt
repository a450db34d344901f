-- The flows passed have listed their rows of the slot, and their cursors are past it. Assumes nothing.
use mathlib.Core.Path.{◌≡◌, sym, ◌∙◌}
use Prim.Native.Nat.{suc, ◌+◌}
use Rattle.rules.specs.Walks.{join_from}
use Rattle.rules.specs.Book.{flow_count}
use Rattle.dispatch.specs.Merge.{book_beside, rows_in}
use Rattle.dispatch.proofs.Listing.{slot_next}
use Rattle.dispatch.proofs.Steps.{flow_asked, cursors-moved, cursors-next, listed-none, listed-append}
use native.Mathlib.Omega.{arith}
use Rattle.dispatch.proofs.merge.list_slot.Goals as goal

pub loop-cursor-init : goal.loop-cursor-init
unfolding rows_in join_from
loop-cursor-init c = (c.requires.cursors_are, listed-none _ _)

pub list_flow-next-requires : goal.list_flow-next-requires
list_flow-next-requires c =
    let l = c.loop-cursor in
    flow_asked c.args.table.now c.requires (omega arith) l.invariant.0 l.invariant.1

pub loop-cursor-preserved : goal.loop-cursor-preserved
loop-cursor-preserved c =
    let l = c.loop-cursor in
    let f = l.cursor-index in
    let r = c.list_flow-next.ensures in
    let own = l.invariant.0.own f (omega (arith, l.invariant.0.one_each)) in
    let e : suc f ≡ f + 1 = omega arith in (
      cursors-moved _ _ _ _ (omega arith) _ _ (r.flow_is ∙ own) l.invariant.0 r.cursor,
      rw (sym e, slot_next) (listed-append l.invariant.1 (rw own at r.listed)),
    )

pub returns : goal.returns
returns c =
    let l = c.loop-cursor in
    let all : l.cursor-index ≡ flow_count (book_beside c.args.table.now) = omega (arith, l.invariant.0.one_each) in
    record { cursors_are = cursors-next _ _ _ _ (rw all at l.invariant.0); listed = rw all at l.invariant.1 }
