-- The rows of one slot: the packed ones where it is a full slot, else one part after the other. The invariant is
-- `SlotKept`. Assumes nothing.
use native.Mathlib.Omega.{arith}
use Prim.Native.Nat.{◌%◌}
use lib.ListN.{get_or}
use Rattle.chain.specs.Alone.{no_part}
use Rattle.place.proofs.Serving.{flow-within, parts_within}
use Rattle.place.proofs.SlotRows.{slot-kept-first, slot-kept-next, slot-kept-done, row-asked, overlaps-within}
use Rattle.place.proofs.FullSlots.{full-rows}
use Rattle.place.proofs.in_service.Service.put_slot.Goals as goal

pub put_full-requires : goal.put_full-requires
put_full-requires c =
    let held = c.requires.serving in
    (omega (arith, held.rows_whole, parts_within held.held), c.requires.room)

pub returns-then-give-rate : goal.returns-then-give-rate
returns-then-give-rate c =
    let a = c.args in
    let v = c.requires in
    rw (← full-rows v.serving a.slot a.done a.give v.units_within c.if-give-rate.true) c.put_full.ensures

pub overflow_cast-flow : goal.overflow_cast-flow
overflow_cast-flow c = omega (arith, flow-within c.args.self.now.in_service)

pub loop-part-init : goal.loop-part-init
loop-part-init c = slot-kept-first

pub share_of-processors-requires : goal.share_of-processors-requires
share_of-processors-requires c =
    let v = c.requires in
    let r = row-asked c.args.self.now v.serving.held v.units_within v.give_within c.loop-part.invariant c.loop-part-test.true v.room in
    (rw c.from.ensures r.1, r.2, r.3, r.4)

pub overflow_cast-processors : goal.overflow_cast-processors
overflow_cast-processors c =
    let v = c.requires in
    let r = row-asked c.args.self.now v.serving.held v.units_within v.give_within c.loop-part.invariant c.loop-part-test.true v.room in
    let part = get_or c.args.self.now.parts.now c.loop-part.part-index no_part in
    omega (arith, c.share_of-processors.ensures, overlaps-within (c.args.done % c.from.result) c.args.give c.loop-part.before part.take c.args.self.now.current.rate, r.5)

pub put_row-next-requires : goal.put_row-next-requires
put_row-next-requires c =
    let v = c.requires in
    (row-asked c.args.self.now v.serving.held v.units_within v.give_within c.loop-part.invariant c.loop-part-test.true v.room).0

pub overflow_add-before : goal.overflow_add-before
overflow_add-before c =
    let v = c.requires in
    let r = row-asked c.args.self.now v.serving.held v.units_within v.give_within c.loop-part.invariant c.loop-part-test.true v.room in
    omega (arith, r.3, r.4)

pub loop-part-preserved : goal.loop-part-preserved
loop-part-preserved c =
    let v = c.requires in
    slot-kept-next c.args.self.now v.serving.held v.units_within v.give_within c.loop-part.invariant c.loop-part-test.true
    (rw (c.share_of-processors.ensures, c.from.ensures) at c.put_row-next.ensures)

pub returns : goal.returns
returns c =
    let v = c.requires in
    slot-kept-done c.args.self.now v.serving.held v.units_within v.give_within c.loop-part.invariant c.loop-part-test.false
