-- Window after window is tested beside the one before it; the windows that are read are the calendar's, and in range
-- since it passes.
use Rattle.std.proofs.Common.{arith, ◌≡◌, refl, sym, take, ◌∙◌}
use Rattle.std.proofs.lemmas.List.{take_more_set}
use lib.ListN.{length-set}
use Rattle.rules.specs.Calendar.{window_fault}
use Rattle.rules.proofs.Reading.Passing.{calendar-pass_in-range}
use Rattle.book.proofs.Verdicts.{passed_on}
use Rattle.calendar.specs.Held.{held_windows}
use Rattle.calendar.proofs.Verdicts.{window-tested, next_free, none_yet, none_more}
use Rattle.calendar.proofs.Read.{windows-none, windows-next, windows-all, window-refused, all-pass}
use Rattle.calendar.proofs.maintenance.Calendar.read.Goals as goal

pub loop-k-init : goal.loop-k-init
loop-k-init c =
    record { room = refl; none = none_yet (window_fault c.args.bytes.now); read = windows-none c.args.bytes.now refl; free = refl }

pub returns-in_err-count-clause-verdict : goal.returns-in_err-count-clause-verdict
returns-in_err-count-clause-verdict c =
    passed_on c.from_residual.result c.in_err-count.field-0.0 c.from_residual.ensures.1 ∙ c.in_err-count.ensures

pub returns-then-has_fault-clause-verdict : goal.returns-then-has_fault-clause-verdict
returns-then-has_fault-clause-verdict c =
    let l = c.loop-k in
    let s = c.args.bytes.now in
    let tested = window-tested s l.k c.read-window.result c.read-window.ensures l.invariant.free in
    let broken = sym tested ∙ sym c.has_fault.ensures ∙ c.if-has_fault.true in
    rw c.nowhere.ensures (sym (window-refused s c.in_ok-count.count c.in_ok-count.ensures l.k c.loop-k-test.true broken))

pub loop-k-preserved : goal.loop-k-preserved
loop-k-preserved c =
    let l = c.loop-k in
    let s = c.args.bytes.now in
    let v = c.read-window.result in
    let tested = window-tested s l.k v c.read-window.ensures l.invariant.free in
    let one-more = take_more_set l.windows l.k v (omega (arith, l.invariant.room, c.in_ok-count.ensures.few)) in
    record {
      room = length-set l.windows l.k v ∙ l.invariant.room;
      none = none_more (window_fault s) l.k l.invariant.none (c.has_fault.ensures ∙ tested) c.if-has_fault.false;
      read = windows-next s (take l.k l.windows) _ v l.k one-more l.invariant.read c.read-window.ensures;
      free = next_free s l.k v c.read-window.ensures;
    }

pub returns-clause-verdict : goal.returns-clause-verdict
returns-clause-verdict c =
    let l = c.loop-k in
    sym (all-pass c.args.bytes.now c.in_ok-count.count c.in_ok-count.ensures l.k (omega arith) l.invariant.none)

pub invariant_of-result : goal.invariant_of-result
invariant_of-result c =
    let l = c.loop-k in
    let s = c.args.bytes.now in
    let passes = all-pass s c.in_ok-count.count c.in_ok-count.ensures l.k (omega arith) l.invariant.none in
    let all : l.k ≡ c.in_ok-count.count = omega arith in
    let windows = windows-all s c.in_ok-count.count c.in_ok-count.ensures l.k all (take l.k l.windows) l.invariant.read in
    record { few = c.in_ok-count.ensures.few; in_range = rw (← all, windows) (calendar-pass_in-range s passes) }

pub returns-clause-held : goal.returns-clause-held
unfolding held_windows
returns-clause-held c =
    let l = c.loop-k in
    let s = c.args.bytes.now in
    let all : l.k ≡ c.in_ok-count.count = omega arith in
    record {
      passes = all-pass s c.in_ok-count.count c.in_ok-count.ensures l.k all l.invariant.none;
      windows = rw (← all) (windows-all s c.in_ok-count.count c.in_ok-count.ensures l.k all (take l.k l.windows) l.invariant.read);
    }
