-- The invariant: the slots that the windows before this one shut have the value, and no others more.
use Rattle.rules.specs.Limits.{slots}
use Rattle.calendar.specs.Held.{held_windows}
use Rattle.calendar.proofs.Area.{ShutTo}
use Rattle.calendar.proofs.maintenance.Calendar.set_shut.Given as goal

abbrev pub invariant-loop-window : goal.invariant-loop-window
invariant-loop-window l = ShutTo slots l.value l.initial.work (held_windows l.self) l.window-index l.work
