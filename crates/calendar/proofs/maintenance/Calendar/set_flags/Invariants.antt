-- The invariant: the flags say what the windows before this one shut.
use Rattle.std.proofs.Common.{◌≡◌, ℕ, length, take}
use Rattle.rules.specs.Limits.{most_reopening}
use Rattle.rules.specs.Calendar.{is_open}
use Rattle.calendar.specs.Area.{open_by}
use Rattle.calendar.specs.Held.{held_windows}
use Rattle.calendar.proofs.maintenance.Calendar.set_flags.Given as goal

abbrev pub invariant-loop-window : goal.invariant-loop-window
invariant-loop-window l =
    record { as_many : length l.flags ≡ most_reopening; shut : (t : ℕ) → open_by l.flags t ≡ is_open (take l.window-index (held_windows l.self)) t }
