-- The flags of the window's slots are filled with 1, and the others stay.
use Rattle.std.proofs.Common.{arith, ℕ, ap, ◌∙◌}
use mathlib.Core.Bool.{not, ◌&&◌}
use Rattle.rules.specs.Calendar.{in_window}
use Rattle.calendar.specs.Area.{open_by}
use Rattle.calendar.proofs.Flags.{filled_open}
use Rattle.calendar.proofs.maintenance.Window.flag.Goals as goal

pub returns : goal.returns
returns c = λ t.
    let flags = c.args.flags.now in
    filled_open flags c.fill.new.self c.from.result c.from-2.result (omega arith) (omega arith) (c.fill.ensures.after (λ y e. e)) t
    ∙ ap (λ (a : ℕ). open_by flags t && not (in_window (record { shut = a; reopening = c.from-2.result }) t)) c.from.ensures
    ∙ ap (λ (e : ℕ). open_by flags t && not (in_window (record { shut = c.args.self.shut; reopening = e }) t)) c.from-2.ensures
