-- Each flow of a book that passes lies inside its bytes. Assumes nothing.
use mathlib.Core.Path.{◌≡◌, refl, sym, ap, ◌∙◌}
use lib.ListN.{length, length-set}
use Rattle.rules.specs.Fields.{byte}
use Prim.Native.Nat.{◌<◌}
use Rattle.std.proofs.lemmas.List.{take_more_set}
use Rattle.rules.specs.Reading.{jobs_at, flow_start}
use Rattle.rules.proofs.Reading.Passing.{book_passes, flow-count, processors_of_book}
use Rattle.book.specs.declared.FlowHead.{FlowHead}
use Rattle.book.proofs.Verdicts.{next_start}
use Rattle.book.proofs.Stands.{stands_at, head-fits, flow-stands-whole}
use Rattle.book.proofs.Starts.{starts-none, starts-more}
use native.Mathlib.Omega.{arith}
use Rattle.dispatch.proofs.accepted.passing_book.Goals as goal

pub bounds-bytes-7 : goal.bounds-bytes-7
bounds-bytes-7 c = omega (arith, (book_passes c.args.bytes.now c.requires).head_whole)

pub loop-flow-init : goal.loop-flow-init
unfolding flow_start
loop-flow-init c = record { start_is = refl; whole = refl; kept = sym (starts-none c.args.bytes.now) }

pub bounds-starts-flow : goal.bounds-starts-flow
bounds-starts-flow c = omega (arith, c.loop-flow.invariant.whole, c.from-flows.ensures, (book_passes c.args.bytes.now c.requires).flows_to)

pub at-head-requires : goal.at-head-requires
at-head-requires c =
    let s = c.args.bytes.now in
    let i = c.loop-flow.invariant in
    let below : c.loop-flow.flow < byte s 7 = omega (arith, c.from-flows.ensures) in
    let stands = stands_at s c.loop-flow.flow c.requires below refl in
    (omega (arith, (book_passes s c.requires).head_whole), omega (arith, head-fits stands, i.start_is))

pub overflow_add-start : goal.overflow_add-start
overflow_add-start c =
    let s = c.args.bytes.now in
    let i = c.loop-flow.invariant in
    let below : c.loop-flow.flow < byte s 7 = omega (arith, c.from-flows.ensures) in
    let whole = (flow-stands-whole (stands_at s c.loop-flow.flow c.requires below refl)).flow_whole in
    omega (arith, c.size.ensures, c.from.ensures, ap (λ (h : FlowHead). h.jobs) c.at-head.ensures, ap (jobs_at s) i.start_is, whole)

pub overflow_add-start-in-loop-flow : goal.overflow_add-start-in-loop-flow
overflow_add-start-in-loop-flow c =
    let s = c.args.bytes.now in
    let i = c.loop-flow.invariant in
    let below : c.loop-flow.flow < byte s 7 = omega (arith, c.from-flows.ensures) in
    let whole = (flow-stands-whole (stands_at s c.loop-flow.flow c.requires below refl)).flow_whole in
    omega (arith, c.size.ensures, c.from.ensures, ap (λ (h : FlowHead). h.jobs) c.at-head.ensures, ap (jobs_at s) i.start_is, i.start_is, whole)

pub loop-flow-preserved : goal.loop-flow-preserved
loop-flow-preserved c =
    let s = c.args.bytes.now in
    let l = c.loop-flow in
    let jobs = ap (λ (h : FlowHead). h.jobs) c.at-head.ensures in
    let i = l.invariant in
    let room : l.flow < length l.starts = omega (arith, i.whole, c.from-flows.ensures, (book_passes s c.requires).flows_to) in
    record {
      start_is = omega (arith, c.size.ensures, c.from.ensures, jobs, next_start s l.flow l.start i.start_is);
      whole = length-set l.starts l.flow l.start ∙ i.whole;
      kept = take_more_set l.starts l.flow l.start room ∙ starts-more s l.flow _ _ i.kept i.start_is;
    }

pub read-requires : goal.read-requires
read-requires c = omega (arith, (book_passes c.args.bytes.now c.requires).head_whole)

pub invariant_of-result : goal.invariant_of-result
invariant_of-result c =
    let s = c.args.bytes.now in
    let l = c.loop-flow in
    let flows = c.from-flows.ensures ∙ sym (flow-count s) in
    let all : l.flow ≡ c.from-flows.result = omega arith in
    record {
      passes = c.requires;
      processors_are = c.read.ensures ∙ sym (processors_of_book s);
      flows_are = flows;
      starts_are = rw all at l.invariant.kept;
    }
