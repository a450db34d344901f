-- The check's refusals are answered as they are; a table that it accepts leaves what the list asks. Assumes nothing.
use mathlib.Core.Path.{sym, ap}
use Rattle.rules.specs.declared.CheckAnswer.{CheckAnswer}
use Rattle.dispatch.proofs.Calls.{number-accepts, left-in_use, listed_after, refused_after}
use Rattle.dispatch.proofs.checked_list.Goals as goal

pub list_accepted-requires : goal.list_accepted-requires
list_accepted-requires c =
    let a = c.args in
    let accepts = sym (ap (λ (x : CheckAnswer). x.number) c.in_ok-check.ensures.answer) in (
      number-accepts a.book.now a.calendar.now a.table.now a.work.now accepts,
      left-in_use a.book.now a.calendar.now a.table.now a.work.now accepts c.check.ensures.area,
    )

pub returns : goal.returns
returns c =
    let accepts = sym (ap (λ (x : CheckAnswer). x.number) c.in_ok-check.ensures.answer) in
    listed_after _ _ _ _ _ c.check.ensures.area accepts c.list_accepted.ensures

pub returns-in_err-check : goal.returns-in_err-check
returns-in_err-check c =
    refused_after _ _ _ _ _ c.in_err-check.field-0.0 c.from_residual.result c.from_residual.ensures.1 c.check.ensures.area c.in_err-check.ensures.answer
