-- Each window that shuts before the limit moves it on by its slots.
use Rattle.std.proofs.Common.{ℕ, ◌*◌, ◌+◌, arith, subst, ap}
use Rattle.rules.specs.Calendar.{Calendar, open_before}
use Rattle.rules.proofs.Placing.OpenSlots.{open_most}
use Rattle.calendar.specs.Held.{held_windows}
use Rattle.calendar.proofs.Windows.{in-range, as-many, all-taken, not-empty}
use Rattle.calendar.proofs.Limit.{Reached, reached-none, reached_most, reached-all, moved-on}
use Rattle.calendar.proofs.maintenance.Calendar.limit_of.Goals as goal

pub overflow_mul-limit : goal.overflow_mul-limit
overflow_mul-limit c = omega (arith, c.open_before-limit.ensures, open_most (held_windows c.args.self.now) c.args.deadline)

pub loop-window-init : goal.loop-window-init
loop-window-init c =
    let w = held_windows c.args.self.now in
    let twice = ap (λ (n : ℕ). 2 * n) c.open_before-limit.ensures in
    record { within = omega (arith, twice, open_most w c.args.deadline); reached = rw twice (reached-none w (2 * open_before w c.args.deadline)) }

pub past-limit-requires : goal.past-limit-requires
past-limit-requires c =
    (c.loop-window.invariant.within, not-empty c.args.self.now c.loop-window.window-index c.loop-window-test.true)

pub loop-window-preserved : goal.loop-window-preserved
loop-window-preserved c =
    let x = c.args.self.now in
    let l = c.loop-window in
    let n = 2 * open_before (held_windows x) c.args.deadline in
    let next = rw (← c.past-limit.ensures) at (moved-on x l.window-index c.loop-window-test.true n l.limit l.invariant.reached) in
    record {
      within =
          reached_most (held_windows x) (in-range x) c.args.deadline c.requires (l.window-index + 1) c.past-limit.result (omega (arith, as-many x))
          next;
      reached = next;
    }

pub returns : goal.returns
returns c =
    let x = c.args.self.now in
    let l = c.loop-window in
    let all = subst (λ (w : Calendar). Reached w (2 * open_before (held_windows x) c.args.deadline) l.limit)
    (all-taken x c.loop-window-test.false) l.invariant.reached in
    (reached-all (held_windows x) (in-range x) c.args.deadline c.requires l.limit l.invariant.within all, l.invariant.within)
