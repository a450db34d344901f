-- The packed rows: none where none fits, else one after the other; those of the parts before so far. Assumes nothing.
use mathlib.Core.Path.{◌≡◌}
use lib.ListN.{length}
use Rattle.place.proofs.Output.{put-none}
use Rattle.place.proofs.Packed.{packed-rows-none, packed-rows-length, packed-rows-put, packed-rows_too_far}
use native.Mathlib.Omega.{arith}
use Rattle.place.proofs.put_full.Goals as goal

pub returns-then-out-at : goal.returns-then-out-at
returns-then-out-at c =
    let a = c.args in
    packed-rows_too_far a.slot a.rows.now (length a.rows.now) a.out.now a.at c.if-out-at.true

pub loop-row-init : goal.loop-row-init
loop-row-init c =
    let a = c.args in
    rw (packed-rows-none a.slot a.rows.now) (put-none a.out.now a.at)

pub put_packed-next-requires : goal.put_packed-next-requires
put_packed-next-requires c =
    let a = c.args in
    let l = c.loop-row in
    omega (arith, l.invariant.offset, packed-rows-length a.slot a.rows.now l.row-index)

pub loop-row-preserved : goal.loop-row-preserved
loop-row-preserved c =
    let a = c.args in
    let l = c.loop-row in
    let put = c.put_packed-next in
    packed-rows-put a.slot a.rows.now l.row-index a.out.now l.out put.new.out a.at l.next put.result l.invariant put.ensures

pub returns : goal.returns
returns c =
    let l = c.loop-row in
    let e : l.row-index ≡ length c.args.rows.now = omega arith in
    rw (← e) l.invariant
