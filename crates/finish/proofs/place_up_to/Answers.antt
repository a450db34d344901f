-- Flow after flow: the flow at the state's position goes on where it is placed, and turns the others down where it is
-- infeasible.
use Rattle.std.proofs.Common.{arith, ℕ, refl, sym, ap, ◌∙◌}
use Rattle.rules.specs.declared.Fault.{Fault}
use Rattle.rules.specs.declared.Fault.TheVariants.{Infeasible}
use Rattle.rules.specs.Answers.{none}
use Rattle.rules.specs.Faults.{refusal_at}
use Rattle.rules.specs.Service.{served_at}
use Rattle.place.specs.Turns.{whole_book}
use Rattle.finish.proofs.Flows.{placed-first, next-asked, moved, stopped}
use Rattle.finish.proofs.place_up_to.Goals as goal

pub loop-k-init : goal.loop-k-init
loop-k-init c = record { here = refl; so_far_lem = placed-first _ c.args.work.now c.requires.none_yet }

pub step-requires : goal.step-requires
step-requires c =
    let l = c.loop-k in
    next-asked l.invariant.so_far_lem (omega (arith, l.invariant.here, c.requires.within)) (omega (arith, l.auto.work, c.requires.area_whole))

pub returns-in-Err : goal.returns-in-Err
returns-in-Err c =
    let l = c.loop-k in
    let b = whole_book c.args.turns.now.book.now c.args.turns.now.calendar.now in
    let stays = stopped b l.invariant.so_far_lem c.in-Err.fault c.in-Err.ensures.placed in
    record {
      state = l.placement;
      some = omega (arith, l.invariant.here);
      refusal = c.at_flow.ensures ∙ ap (λ (e : Fault). refusal_at e c.flow.result none) stays.infeasible_is
          ∙ ap (λ (f : ℕ). refusal_at Infeasible f none) (c.flow.ensures.served ∙ ap (served_at b) (sym l.invariant.here));
      stopped = stays.stopped;
    }

pub loop-k-preserved : goal.loop-k-preserved
loop-k-preserved c =
    let l = c.loop-k in
    let next = moved _ l.invariant.so_far_lem c.step.new.placement c.in_default.ensures.placed in
    record { here = omega (arith, next.moves, l.invariant.here); so_far_lem = next.so_far_lem }

pub returns : goal.returns
returns c =
    let l = c.loop-k in
    record { state = l.placement; all = omega (arith, l.invariant.here, l.auto.k-end); so_far_lem = l.invariant.so_far_lem; last = refl }
