-- The slots of one window after the other get the value.
use Rattle.std.proofs.Common.{arith, ap, ◌∙◌}
use Rattle.std.specs.Prelude.{if◌then◌else◌}
use Rattle.rules.specs.Limits.{slots}
use Rattle.rules.specs.Calendar.{Calendar, is_open}
use Rattle.calendar.specs.Area.{area_holding}
use Rattle.calendar.specs.Held.{held_windows}
use Rattle.calendar.proofs.Windows.{all-taken, not-empty, reopening-most, one_more}
use Rattle.calendar.proofs.Area.{shut_none, shut-next}
use Rattle.calendar.proofs.maintenance.Calendar.set_shut.Goals as goal

pub loop-window-init : goal.loop-window-init
loop-window-init c = let a = c.args in shut_none slots a.value a.work.now (held_windows a.self.now)

pub set-requires : goal.set-requires
set-requires c =
    let x = c.args.self.now in
    let k = c.loop-window.window-index in
    let whole = not-empty x k c.loop-window-test.true in
    let soon = reopening-most x k c.loop-window-test.true in
    (omega arith, omega arith, omega arith)

pub loop-window-preserved : goal.loop-window-preserved
loop-window-preserved c =
    let a = c.args in
    let l = c.loop-window in
    shut-next slots a.value a.work.now l.work (held_windows a.self.now) l.window-index _
    (one_more a.self.now l.window-index c.loop-window-test.true) l.invariant c.set.ensures

pub returns : goal.returns
returns c =
    let a = c.args in
    let all = all-taken a.self.now c.loop-window-test.false in
    λ used bytes e. c.loop-window.invariant used bytes e ∙ ap (λ (w : Calendar). area_holding slots (λ t. if is_open w t then used t else a.value) bytes) all
