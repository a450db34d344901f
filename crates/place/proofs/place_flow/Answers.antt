-- One flow: its records are read out, and its pseudo-jobs are placed from cut to cut. Assumes nothing.
use mathlib.Core.Path.{◌≡◌, ap, ◌∙◌}
use native.Mathlib.Omega.{arith}
use lib.ListN.{take, length-take}
use Rattle.rules.specs.Book.{Flow, flow_of}
use Rattle.rules.specs.Reading.{book_of}
use Rattle.chain.specs.Alone.{JobsOf}
use Rattle.chain.proofs.Alone.{jobs-read}
use Rattle.place.proofs.FlowLoop.{records-fit, flow-not-begun}
use Rattle.place.proofs.place_flow.Goals as goal

pub returns-then-limit-release : goal.returns-then-limit-release
returns-then-limit-release g c rows bytes used within =
    let s = c.args.book.now.bytes.now in
    let release : c.from-release.result ≡ (flow_of (book_of s) c.args.f).release =
    c.from-release.ensures ∙ ap (λ (w : Flow). w.release) c.flow-head.ensures.flow in
    flow-not-begun s c.args.f c.args.limit c.args.book.now.passes c.requires.flow_in (omega (arith, c.if-limit-release.true)) rows bytes _ _ used

pub of-chain-requires : goal.of-chain-requires
of-chain-requires g c =
    let book = c.args.book.now in
    let records : JobsOf (flow_of (book_of book.bytes.now) c.args.f) (take c.from.result c.flow-head.new.jobs) =
    rw c.from.ensures (jobs-read _ c.flow-head.result _ c.flow-head.ensures.flow) in
    (records-fit book.bytes.now c.args.f _ book.passes c.requires.flow_in records, rw length-take (omega (arith, c.from.ensures, c.flow-head.ensures.few)))

pub place_cuts-requires : goal.place_cuts-requires
place_cuts-requires g c =
    let book = c.args.book.now in
    let v = c.requires in
    let records : JobsOf (flow_of (book_of book.bytes.now) c.args.f) (take c.from.result c.flow-head.new.jobs) =
    rw c.from.ensures (jobs-read _ c.flow-head.result _ c.flow-head.ensures.flow) in
    record {
      held = record { passes = book.passes; flow_in_is = v.flow_in; held = c.of-chain.ensures _ records };
      release_is = c.from-release.ensures ∙ ap (λ (w : Flow). w.release) c.flow-head.ensures.flow;
      limit_behind = c.if-limit-release.false;
      limit_within = v.limit_within;
      area_whole = v.area_whole;
      room = v.room;
    }
