-- The length is read off the table's own; by it the list is refused, or written. Assumes nothing.
use mathlib.Core.Path.{sym, ap, ◌∙◌}
use Prim.Native.Nat.{ℕ}
use mathlib.Core.List.{◌++◌}
use lib.ListN.{drop}
use Rattle.std.specs.Prelude.{Err}
use Rattle.rules.specs.declared.Refusal.{Refusal}
use Rattle.rules.specs.Fields.{AllBytes}
use Rattle.rules.specs.Answers.{list_accepted}
use Rattle.rules.specs.Reading.{book_of}
use Rattle.rules.specs.Dispatch.{list_bytes, DispatchOutcome}
use Rattle.rules.proofs.Reading.Passing.{flow-count, book_passes}
use Rattle.rules.proofs.Demands.Dispatches.{rows-listed, rows-too_long}
use Rattle.dispatch.specs.Accepted.{accepted_rows}
use Rattle.dispatch.specs.Call.{answer_by}
use Rattle.dispatch.proofs.Tables.{rows_fill, size-of_table}
use Rattle.dispatch.proofs.Calls.{size_of_list}
use native.Mathlib.Omega.{arith}
use Rattle.dispatch.proofs.list_accepted.Goals as goal

pub bounds-book-7 : goal.bounds-book-7
bounds-book-7 c = omega (arith, (book_passes c.args.book.now c.requires.0.book_passes).head_whole)

pub overflow_sub-size : goal.overflow_sub-size
overflow_sub-size c =
    let a = c.args in
    omega (arith, c.from-flows.ensures ∙ sym (flow-count a.book.now), rows_fill a.book.now a.table.now c.requires.0)

pub overflow_sub-size-2 : goal.overflow_sub-size-2
overflow_sub-size-2 c =
    let a = c.args in
    omega (arith, c.from-flows.ensures ∙ sym (flow-count a.book.now), rows_fill a.book.now a.table.now c.requires.0)

pub returns-then-output-size : goal.returns-then-output-size
returns-then-output-size c =
    let a = c.args in
    let size = size_of_list a.book.now a.table.now c.requires.0 c.from-flows.result (c.from-flows.ensures ∙ sym (flow-count a.book.now)) in
    let q = rows-too_long (book_of a.book.now) (accepted_rows a.book.now a.table.now) a.output.now a.work.now a.work.now (omega (arith, size, c.if-output-size.true)) in
    record {
      answers = ap (λ (r : Refusal). answer_by (Err r)) c.nowhere.ensures ∙ sym (ap (λ (o : DispatchOutcome). o.answer) q);
      output_left = sym (ap (λ (o : DispatchOutcome). o.output) q);
      area_left = c.clear.ensures ∙ sym (ap (λ (o : DispatchOutcome). o.area) q);
    }

pub write_list-requires : goal.write_list-requires
unfolding AllBytes
write_list-requires c =
    let a = c.args in
    let short = size-of_table a.book.now a.table.now c.requires.0 (λ i. omega (arith, c.type_inv.table i)) in
    record {
      accepted = c.requires.0;
      in_use = c.requires.1;
      size_is = size_of_list a.book.now a.table.now c.requires.0 c.from-flows.result (c.from-flows.ensures ∙ sym (flow-count a.book.now));
      size_fits = omega (arith, short);
      has_room = omega (arith, c.if-output-size.false);
    }

pub overflow_cast-result : goal.overflow_cast-result
unfolding AllBytes
overflow_cast-result c =
    let a = c.args in
    omega (arith, size-of_table a.book.now a.table.now c.requires.0 (λ i. omega (arith, c.type_inv.table i)))

pub returns : goal.returns
returns c =
    let a = c.args in
    let rows = accepted_rows a.book.now a.table.now in
    let size = size_of_list a.book.now a.table.now c.requires.0 c.from-flows.result (c.from-flows.ensures ∙ sym (flow-count a.book.now)) in
    let q = rows-listed (book_of a.book.now) rows a.output.now a.work.now a.work.now (omega (arith, size, c.if-output-size.false)) in
    record {
      answers = ap list_accepted size ∙ sym (ap (λ (o : DispatchOutcome). o.answer) q);
      output_left =
          c.write_list.ensures
          ∙ ap (λ (n : ℕ). list_bytes (book_of a.book.now) rows ++ drop n a.output.now) size
          ∙ sym (ap (λ (o : DispatchOutcome). o.output) q);
      area_left = sym (ap (λ (o : DispatchOutcome). o.area) q);
    }
