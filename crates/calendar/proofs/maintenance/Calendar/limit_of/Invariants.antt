-- The invariant: `limit` is the first slot before which twice the open slots before the deadline stand, by the windows
-- before this one.
use Rattle.std.proofs.Common.{◌*◌, ◌≤◌, take}
use Rattle.rules.specs.Limits.{slots}
use Rattle.rules.specs.Calendar.{open_before}
use Rattle.calendar.specs.Held.{held_windows}
use Rattle.calendar.proofs.Limit.{Reached}
use Rattle.calendar.proofs.maintenance.Calendar.limit_of.Given as goal

abbrev pub invariant-loop-window : goal.invariant-loop-window
invariant-loop-window l =
    record { within : l.limit ≤ slots; reached : Reached (take l.window-index (held_windows l.self)) (2 * open_before (held_windows l.self) l.deadline) l.limit }
