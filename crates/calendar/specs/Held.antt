-- The windows that the reader hands back of a calendar that passes, in the specification's values. Assumes nothing.
use Rattle.std.specs.Prelude.{◌≡◌, ℕ, List, take}
use Rattle.rules.specs.Verdicts.{Pass}
use Rattle.rules.specs.Calendar.{Window, calendar_of, calendar_fault}
use Rattle.calendar.specs.declared.maintenance.Calendar.{Calendar}
use Rattle.calendar.specs.Windows.{windows_in}

unfoldable pub held_windows : Calendar → List Window
held_windows x = windows_in (take x.count x.windows)

-- the windows are those of the calendar in these bytes, which passes
pub record Held (s : List ℕ) (x : Calendar) : Type 0 where
  pub passes : calendar_fault s ≡ Pass
  pub windows : held_windows x ≡ calendar_of s
