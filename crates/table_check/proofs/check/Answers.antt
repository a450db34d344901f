-- `table_check::check` meets its contract: a refusal by 1 to 11, 22 or 24 leaves the work area, one found later clears
-- it, and an accepted table's use stays in it. Assumes nothing.
use mathlib.Core.Path.{sym, ap, ◌∙◌}
use Rattle.std.proofs.lemmas.Result.{err_from_is_err_and}
use Rattle.rules.specs.Check.{CheckOutcome}
use Rattle.table_check.proofs.Judging.{call-unread, call-calendar-unread, call-short, call-failed, call-passed}
use Rattle.table_check.proofs.check.Goals as goal

pub returns-in_err-book : goal.returns-in_err-book
returns-in_err-book c =
    let a = c.args in
    let e = err_from_is_err_and c.from_residual.result c.from_residual.ensures.1 in
    let q = call-unread a.book.now a.calendar.now a.table.now a.work.now (sym c.in_err-book.ensures.verdict) in
    rw (e.1, e.2) (record { answer = sym (ap (λ (o : CheckOutcome). o.answer) q); area = sym (ap (λ (o : CheckOutcome). o.area) q) })

pub returns-in_err-calendar : goal.returns-in_err-calendar
returns-in_err-calendar c =
    let a = c.args in
    let e = err_from_is_err_and c.from_residual-in_err-calendar.result c.from_residual-in_err-calendar.ensures.1 in
    let q = call-calendar-unread a.book.now a.calendar.now a.table.now a.work.now (sym c.in_ok-book.ensures.verdict) (sym c.in_err-calendar.ensures.verdict) in
    rw (e.1, e.2) (record { answer = sym (ap (λ (o : CheckOutcome). o.answer) q); area = sym (ap (λ (o : CheckOutcome). o.area) q) })

pub returns-then-work-lt-WORK_BYTES : goal.returns-then-work-lt-WORK_BYTES
returns-then-work-lt-WORK_BYTES c =
    let a = c.args in
    let q = call-short a.book.now a.calendar.now a.table.now a.work.now (sym c.in_ok-book.ensures.verdict) c.in_ok-calendar.ensures.held.passes c.if-work-lt-WORK_BYTES.true in
    record { answer = rw c.nowhere.ensures (sym (ap (λ (o : CheckOutcome). o.answer) q)); area = sym (ap (λ (o : CheckOutcome). o.area) q) }

pub returns-then-is_err : goal.returns-then-is_err
returns-then-is_err c =
    let a = c.args in
    let held = c.in_ok-calendar.ensures.held in
    let q = call-failed a.book.now a.calendar.now a.table.now a.work.now (sym c.in_ok-book.ensures.verdict) held.passes c.if-work-lt-WORK_BYTES.false
    _ (sym c.if-is_err.ensures.value) (rw (c.in_ok-book.ensures.same, held.windows) at c.judge_with-judged.ensures) in
    record { answer = sym (ap (λ (o : CheckOutcome). o.answer) q); area = c.clear.ensures ∙ sym (ap (λ (o : CheckOutcome). o.area) q) }

pub returns-else-is_err : goal.returns-else-is_err
returns-else-is_err c =
    let a = c.args in
    let held = c.in_ok-calendar.ensures.held in
    let q = call-passed a.book.now a.calendar.now a.table.now a.work.now (sym c.in_ok-book.ensures.verdict) held.passes c.if-work-lt-WORK_BYTES.false
    _ (sym c.if-is_err.ensures.value) (rw (c.in_ok-book.ensures.same, held.windows) at c.judge_with-judged.ensures) in
    record { answer = sym (ap (λ (o : CheckOutcome). o.answer) q); area = sym (ap (λ (o : CheckOutcome). o.area) q) }
