-- The tests in their order, each where those before it pass, and then the finish in a book and a calendar that pass.
use Rattle.std.proofs.Common.{arith, ◌<◌, List, ℕ, ap, sym, ◌∙◌}
use Rattle.rules.specs.Book.{flow_count}
use Rattle.rules.specs.Reading.{book_of}
use Rattle.finish.proofs.Call.{call-refused, call_unknown, call-refused-calendar, call-short, call-placed-held, leaves-as, handed_on, leaves-placed}
use Rattle.finish.proofs.find_finish.Goals as goal

pub returns-in_err-book : goal.returns-in_err-book
returns-in_err-book c =
    let a = c.args in
    handed_on _ _ c.from_residual.result c.in_err-book.field-0.0 c.from_residual.ensures.1
    (leaves-as _ _ (call-refused a.book.now a.calendar.now a.work.now a.flow _ _ _ (sym c.in_err-book.ensures.verdict)))

pub returns-then-flow_count-f : goal.returns-then-flow_count-f
returns-then-flow_count-f c =
    let a = c.args in
    let flows = c.flow_count.ensures.count ∙ ap (λ (s : List ℕ). flow_count (book_of s)) c.in_ok-book.ensures.same in
    rw c.nowhere.ensures
    (leaves-as _ _ (call_unknown a.book.now a.calendar.now a.work.now a.flow (sym c.in_ok-book.ensures.verdict) (omega (arith, flows))))

pub returns-in_err-calendar : goal.returns-in_err-calendar
returns-in_err-calendar c =
    let a = c.args in
    let flows = c.flow_count.ensures.count ∙ ap (λ (s : List ℕ). flow_count (book_of s)) c.in_ok-book.ensures.same in
    let named : a.flow < flow_count (book_of a.book.now) = omega (arith, flows) in
    handed_on _ _ c.from_residual-in_err-calendar.result c.in_err-calendar.field-0.0 c.from_residual-in_err-calendar.ensures.1
    (leaves-as _ _ (call-refused-calendar a.book.now a.calendar.now a.work.now a.flow (sym c.in_ok-book.ensures.verdict) named _ _ _
    (sym c.in_err-calendar.ensures.verdict)))

pub returns-then-work-lt-WORK_BYTES : goal.returns-then-work-lt-WORK_BYTES
returns-then-work-lt-WORK_BYTES c =
    let a = c.args in
    let flows = c.flow_count.ensures.count ∙ ap (λ (s : List ℕ). flow_count (book_of s)) c.in_ok-book.ensures.same in
    let named : a.flow < flow_count (book_of a.book.now) = omega (arith, flows) in
    rw c.nowhere-then-work-lt-WORK_BYTES.ensures
    (leaves-as _ _ (call-short a.book.now a.calendar.now a.work.now a.flow (sym c.in_ok-book.ensures.verdict) named
    (sym c.in_ok-calendar.ensures.verdict) (omega arith)))

pub finish_passing-requires : goal.finish_passing-requires
finish_passing-requires c = (omega (arith, c.flow_count.ensures.count), omega arith)

pub returns : goal.returns
returns c =
    let a = c.args in
    let flows = c.flow_count.ensures.count ∙ ap (λ (s : List ℕ). flow_count (book_of s)) c.in_ok-book.ensures.same in
    let named : a.flow < flow_count (book_of a.book.now) = omega (arith, flows) in
    leaves-placed _ _ (call-placed-held a.book.now a.calendar.now a.work.now a.flow (sym c.in_ok-book.ensures.verdict) named (sym c.in_ok-calendar.ensures.verdict)
    c.in_ok-book.book c.in_ok-calendar.calendar c.in_ok-book.ensures.same c.in_ok-calendar.ensures.held.windows (omega arith)) _ _ c.finish_passing.ensures
