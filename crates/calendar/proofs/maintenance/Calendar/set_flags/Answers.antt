-- The flags of one window after the other are set.
use Rattle.std.proofs.Common.{arith, ℕ, List, length, get_or, sym, ap, ◌∙◌}
use Rattle.std.proofs.lemmas.List.{length-replicate}
use mathlib.Core.Bool.{Bool, not, ◌&&◌}
use Rattle.rules.specs.Limits.{most_reopening}
use Rattle.rules.specs.Calendar.{Calendar, is_open, in_window}
use Rattle.calendar.specs.Area.{open_by}
use Rattle.calendar.specs.Windows.{window_in}
use Rattle.calendar.specs.Held.{held_windows}
use Rattle.calendar.proofs.Windows.{held_in, blank, none-shut, all-taken, not-empty, reopening-most, one_more}
use Rattle.calendar.proofs.Flags.{unset_open}
use Rattle.calendar.proofs.maintenance.Calendar.set_flags.Goals as goal

pub loop-window-init : goal.loop-window-init
loop-window-init c = record {
  as_many = ap length c.requires ∙ length-replicate {A = ℕ} most_reopening 0;
  shut = λ t. ap (λ (l : List ℕ). open_by l t) c.requires ∙ unset_open most_reopening t ∙ sym (none-shut (held_windows c.args.self.now) t);
}

pub flag-requires : goal.flag-requires
flag-requires c =
    let k = c.loop-window.window-index in
    let whole = not-empty c.args.self.now k c.loop-window-test.true in
    let soon = reopening-most c.args.self.now k c.loop-window-test.true in
    (omega arith, omega (arith, c.loop-window.invariant.as_many))

pub loop-window-preserved : goal.loop-window-preserved
loop-window-preserved c =
    let x = c.args.self.now in
    let l = c.loop-window in record {
      as_many = omega (arith, c.flag.auto.flags, l.invariant.as_many);
      shut = λ t.
          c.flag.ensures t
          ∙ ap (λ (o : Bool). o && not (in_window (window_in (get_or (held_in x) l.window-index blank)) t)) (l.invariant.shut t)
          ∙ sym (one_more x l.window-index c.loop-window-test.true t);
    }

pub returns : goal.returns
returns c =
    let all = all-taken c.args.self.now c.loop-window-test.false in
    (λ t. c.loop-window.invariant.shut t ∙ ap (λ (w : Calendar). is_open w t) all, c.loop-window.invariant.as_many)
