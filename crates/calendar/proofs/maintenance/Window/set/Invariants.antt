-- The invariant: the window's slots before this one have the value, and no others more.
use Rattle.rules.specs.Limits.{slots}
use Rattle.calendar.proofs.Area.{WindowTo}
use Rattle.calendar.proofs.maintenance.Window.set.Given as goal

abbrev pub invariant-loop-slot : goal.invariant-loop-slot
invariant-loop-slot l = WindowTo slots l.value l.initial.work l.fn.self.shut l.slot l.work
