-- The readers' refusals, the test of the work area, and then the plan of a book and a calendar that pass. Assumes
-- nothing.
use native.Mathlib.Omega.{arith}
use Rattle.std.proofs.lemmas.Result.{err_from_is_err_and}
use Rattle.planner.proofs.Outcome.{call-refused, call-refused-calendar, call-short, leaves_passing}
use Rattle.planner.proofs.plan.Goals as goal

pub returns-in_err-book : goal.returns-in_err-book
returns-in_err-book c =
    let e = err_from_is_err_and c.from_residual.result c.from_residual.ensures.1 in
    rw (e.1, e.2) (call-refused _ _ _ _ c.in_err-book.ensures.verdict)

pub returns-in_err-calendar : goal.returns-in_err-calendar
returns-in_err-calendar c =
    let e = err_from_is_err_and c.from_residual-in_err-calendar.result c.from_residual-in_err-calendar.ensures.1 in
    rw (e.1, e.2) (call-refused-calendar _ _ _ _ c.in_ok-book.ensures.verdict c.in_err-calendar.ensures.verdict)

pub returns-then-work-lt-WORK_BYTES : goal.returns-then-work-lt-WORK_BYTES
returns-then-work-lt-WORK_BYTES c =
    rw c.nowhere.ensures (call-short _ _ _ _ c.in_ok-book.ensures.verdict c.in_ok-calendar.ensures.verdict (omega arith))

pub returns : goal.returns
returns c =
    let held = c.in_ok-calendar.ensures.held in
    leaves_passing _ _ _ _ c.in_ok-book.ensures.verdict c.in_ok-book.ensures.same held.windows held.passes (omega arith) c.plan_passing.ensures
