-- The rows of one slot: the packed ones where it is a full slot, else one part after the other. The invariant is
-- `SlotKept`. Assumes nothing.
use Rattle.place.specs.Service.{current_flow, pseudo_job}
use Rattle.place.proofs.SlotRows.{SlotKept}
use Rattle.place.proofs.in_service.Service.put_slot.Given as goal

abbrev pub invariant-loop-part : goal.invariant-loop-part
invariant-loop-part l =
    SlotKept (current_flow l.self.book.now l.self.current) l.self.current.flow l.slot (pseudo_job l.self.current) l.done l.give l.initial.out l.at l.out l.next
    l.before l.part-index
