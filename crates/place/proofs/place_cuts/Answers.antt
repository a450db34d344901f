-- One flow, from cut to cut. Assumes nothing.
use Rattle.chain.proofs.Ended.{ended-to-none, ended-to-more, ended-to-later}
use Rattle.place.proofs.FlowLoop.{flow-kept-first, flow-kept-next, flow-kept_stops, flow-kept-done, count-few, run-here, parts_within, held_at, cut-within, path-held, path-fits}
use native.Mathlib.Omega.{arith}
use mathlib.Core.Path.{◌≡◌, refl}
use lib.ListN.{length, length-take}
use borrow.Author.Rules.{rules}
use denote.Param.{number}
use Rattle.place.specs.contracts.place_cuts.{LISTED-type}
use Rattle.place.proofs.place_cuts.Goals as goal

pub loop-t-init : goal.loop-t-init
loop-t-init g c =
    let v = c.requires in
    record {
      kept = flow-kept-first v.held (LISTED-type (number g.row.LISTED)) c.args.at c.args.out.now c.args.area.now (omega (arith, v.release_is, v.limit_behind)) v.release_is;
      ended = ended-to-none _ _;
    }

pub skip_ended-from-requires : goal.skip_ended-from-requires
skip_ended-from-requires g c = c.loop-t.invariant.ended.within

pub run_at-run-requires : goal.run_at-run-requires
run_at-run-requires g c =
    (omega (arith, count-few c.requires.held), c.loop-t-test.true, ended-to-more _ _ _ _ c.loop-t.invariant.ended c.skip_ended-from.ensures)

pub run_as-requires : goal.run_as-requires
run_as-requires g c =
    let v = c.requires in
    let k = c.loop-t.invariant.kept in
    let parts : length c.run_at-run.new.parts ≡ 64 = search rules in
    let rows : length c.loop-t.rows ≡ 64 = search rules in (
      held_at v.held c.run_at-run.ensures c.run_at-run.new.parts refl refl c.args.book.now.processors_are (omega (arith, count-few v.held)),
      rw length-take (omega arith),
      omega (arith, v.area_whole, k.area_length),
      k.slot_to,
      v.limit_within,
      record {
        offsets = λ t. omega (arith, v.room.offsets t, k.offset_if t, k.offset_to, k.slot_to, v.limit_within);
        nothing_lent = λ t. omega (arith, v.room.nothing_lent t, k.out_length);
      },
    )

pub returns-in_err-placed : goal.returns-in_err-placed
returns-in_err-placed g c rows bytes used within =
    let v = c.requires in
    rw c.from_residual.ensures
    (flow-kept_stops v.held c.run_at-run.ensures _ c.loop-t.invariant.kept c.run_as.ensures c.in_err-placed.was rows bytes used within)

pub overflow_add-t : goal.overflow_add-t
overflow_add-t g c =
    let v = c.requires in
    omega (arith, cut-within v.held c.run_at-run.ensures, path-fits v.held)

pub loop-t-smaller : goal.loop-t-smaller
loop-t-smaller g c = omega (arith, (run-here c.requires.held c.run_at-run.ensures).run.some, c.loop-t-test.true)

pub loop-t-preserved : goal.loop-t-preserved
loop-t-preserved g c =
    let i = c.loop-t.invariant in
    record {
      kept = flow-kept-next c.requires.held c.run_at-run.ensures _ i.kept c.run_as.ensures c.in_ok-placed.was (omega arith) (omega arith);
      ended = ended-to-later _ _ _ _ (omega arith) (ended-to-more _ _ _ _ i.ended c.skip_ended-from.ensures);
    }

pub returns : goal.returns
returns g c rows bytes used within =
    let v = c.requires in
    flow-kept-done v.held v.limit_within (omega (arith, c.loop-t-test.false, path-held v.held)) c.loop-t.invariant.kept rows bytes used within

pub slice_bounds-parts-end : goal.slice_bounds-parts-end
slice_bounds-parts-end g c = omega (arith, parts_within c.requires.held c.run_at-run.ensures, count-few c.requires.held)

pub slice_bounds-run_as-end : goal.slice_bounds-run_as-end
slice_bounds-run_as-end g c =
    let parts : length c.run_at-run.new.parts ≡ 64 = search rules in
    rw length-take (omega (arith, parts_within c.requires.held c.run_at-run.ensures, count-few c.requires.held))
