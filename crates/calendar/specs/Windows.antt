-- Windows as the code holds them, in the specification's values. Assumes nothing.
use Rattle.std.specs.Prelude.{List, map}
use Rattle.rules.specs.Calendar.{Window}
use Rattle.calendar.specs.declared.maintenance.Window.{Window as Held}

abbrev pub window_in : Held → Window
window_in v = record { shut = v.shut; reopening = v.reopening }

unfoldable pub windows_in : List Held → List Window
windows_in vs = map window_in vs
