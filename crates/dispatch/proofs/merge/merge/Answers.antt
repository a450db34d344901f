-- The slots passed are listed. While a row is left a slot is left; when none is, what is listed is the list. Assumes
-- nothing.
use mathlib.Core.Path.{◌≡◌, sym, ap, ◌∙◌}
use Prim.Native.Nat.{suc, ◌+◌}
use mathlib.Core.List.{List}
use lib.ListN.{length, length-map}
use lib.Seq.{sets}
use Rattle.rules.specs.Walks.{join_from}
use Rattle.rules.specs.Rows.{Row}
use Rattle.rules.specs.Table.{row_bytes, rows_bytes}
use Rattle.dispatch.specs.Merge.{rows_of, rows_below}
use Rattle.dispatch.proofs.Listing.{whole-front, below_next}
use Rattle.dispatch.proofs.Steps.{slot_asked, listed-none, listed-append}
use native.Mathlib.Omega.{arith}
use Rattle.dispatch.proofs.merge.merge.Goals as goal

pub loop-count-init : goal.loop-count-init
unfolding rows_below join_from
loop-count-init c = (omega arith, c.requires.0, listed-none _ _)

pub list_used-count-requires : goal.list_used-count-requires
list_used-count-requires c =
    let i = c.loop-count.invariant in
    (slot_asked c.args.table.now c.requires.2 i.0 (omega (arith, c.loop-count-test.true)) i.1 i.2, c.requires.1)

pub loop-count-smaller : goal.loop-count-smaller
loop-count-smaller c =
    let i = c.loop-count.invariant in
    omega (arith, (slot_asked c.args.table.now c.requires.2 i.0 (omega (arith, c.loop-count-test.true)) i.1 i.2).a_slot)

pub loop-count-preserved : goal.loop-count-preserved
loop-count-preserved c =
    let t = c.args.table.now in
    let l = c.loop-count in
    let i = l.invariant in
    let r = c.list_used-count.ensures in
    let e : suc l.slot ≡ l.slot + 1 = omega arith in (
      omega (arith, (slot_asked t c.requires.2 i.0 (omega (arith, c.loop-count-test.true)) i.1 i.2).a_slot),
      rw e at r.cursors_are,
      rw (sym e, below_next _ _ t.accepted) (listed-append i.2 r.listed),
    )

pub returns : goal.returns
returns c =
    let t = c.args.table.now in
    let l = c.loop-count in
    let all = ap length t.rows_are ∙ length-map (rows_of t) row_bytes in
    l.invariant.2.written
    ∙ ap (λ (r : List Row). sets c.args.out.now 0 (rows_bytes r))
    (whole-front _ _ t.accepted l.slot l.invariant.0 (omega (arith, all, l.invariant.2.next_is)))
