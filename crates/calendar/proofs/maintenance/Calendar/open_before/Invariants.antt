-- The invariant: `open` slots before the slot are open by the windows before this one.
use Rattle.std.proofs.Common.{◌≡◌, take}
use Rattle.rules.specs.Calendar.{open_before}
use Rattle.calendar.specs.Held.{held_windows}
use Rattle.calendar.proofs.maintenance.Calendar.open_before.Given as goal

abbrev pub invariant-loop-window : goal.invariant-loop-window
invariant-loop-window l = l.open ≡ open_before (take l.window-index (held_windows l.self)) l.slot
