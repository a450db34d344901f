-- Each window takes its slots before the slot away, which were open before it.
use Rattle.std.proofs.Common.{arith, sym, ap, ◌∙◌}
use Rattle.rules.specs.Calendar.{Calendar, open_before}
use Rattle.calendar.specs.Held.{held_windows}
use Rattle.calendar.proofs.Windows.{all-taken}
use Rattle.calendar.proofs.Limit.{all_open, less-open}
use Rattle.calendar.proofs.maintenance.Calendar.open_before.Goals as goal

pub loop-window-init : goal.loop-window-init
loop-window-init c = c.from-open.ensures ∙ sym (all_open (held_windows c.args.self.now) c.args.slot)

pub overflow_sub-open : goal.overflow_sub-open
overflow_sub-open c =
    omega (arith, less-open c.args.self.now c.loop-window.window-index c.loop-window-test.true c.args.slot, c.loop-window.invariant)

pub loop-window-preserved : goal.loop-window-preserved
loop-window-preserved c =
    omega (arith, less-open c.args.self.now c.loop-window.window-index c.loop-window-test.true c.args.slot, c.loop-window.invariant)

pub returns : goal.returns
returns c =
    c.loop-window.invariant
    ∙ ap (λ (w : Calendar). open_before w c.args.slot) (all-taken c.args.self.now c.loop-window-test.false)
