-- The first flows in service order, one a turn. Assumes nothing.
use mathlib.Core.Path.{◌≡◌, refl, ap, subst, ◌∙◌}
use Prim.Native.Nat.{ℕ, ◌+◌, ◌*◌, ◌-◌, suc}
use mathlib.Core.List.{[], ◌++◌}
use native.Mathlib.Omega.{arith}
use Rattle.rules.specs.Service.{served_at}
use Rattle.calendar.proofs.Windows.{in-range}
use Rattle.place.specs.Turns.{turn_rows, TurnTaken}
use Rattle.place.proofs.FlowByFlow.{infeasible-stays}
use Rattle.planner.specs.Whole.{planned_book}
use Rattle.planner.proofs.FirstFlows.{put-none_yet, goes_on-turn, ends-planned, ends-infeasible}
use Rattle.planner.proofs.place_flows.Goals as goal

pub loop-k-init : goal.loop-k-init
loop-k-init c =
    ([], put-none_yet _ _ _ _ 64 (in-range c.args.turns.now.calendar.now) c.requires.2 (c.rows_at-end.ensures ∙ ap (λ n. 8 + 2 * n) c.flow_count.ensures.count) refl)

pub returns-in_default : goal.returns-in_default
returns-in_default c =
    let l = c.loop-k in
    let b = planned_book c.args.turns.now in
    let d = c.in_default.ensures.turn _ _ l.invariant.1.stands in
    let e : suc l.k + (c.args.count - suc l.k) ≡ c.args.count = omega arith in
    let all = infeasible-stays b (suc l.k) (c.args.count - suc l.k) (served_at b l.k) d.refused in
    rw (c.at_flow.ensures, c.flow-flow.ensures.served) (ends-infeasible _ _ _ _ _ _ (served_at b l.k) d.others (rw e at all) d.area_used)

pub loop-k-preserved : goal.loop-k-preserved
loop-k-preserved c =
    let l = c.loop-k in
    let b = planned_book c.args.turns.now in
    let d = c.in-Some.ensures.turn _ _ l.invariant.1.stands in
    let taken = subst (λ (n : ℕ). TurnTaken b l.k l.invariant.0 c.args.work.now l.out l.end c.place.new.out c.place.new.area c.in-Some.placed.finish n)
    (d.1 refl) d.2 in (
      l.invariant.0 ++ turn_rows b l.k l.invariant.0,
      rw (c.from.ensures, c.flow-flow.ensures.served)
          (goes_on-turn l.invariant.1 (omega (arith, c.requires)) (omega (arith, c.flow_count.ensures.count, c.flow_count.ensures.few)) taken),
    )

pub returns : goal.returns
returns c =
    let all : c.loop-k.k ≡ c.args.count = omega arith in
    ends-planned _ _ _ _ _ _ c.loop-k.k c.loop-k.invariant.0 _ c.loop-k.invariant.1 all
