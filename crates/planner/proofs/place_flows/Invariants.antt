-- The first flows in service order, one a turn, each up to its limit: the invariant is where the placing stands after
-- some flows. Assumes nothing.
use mathlib.Core.List.{List}
use Rattle.rules.specs.Rows.{Row}
use Rattle.planner.specs.Whole.{planned_book}
use Rattle.planner.proofs.FirstFlows.{PutSoFar}
use Rattle.planner.proofs.place_flows.Given as goal

abbrev pub invariant-loop-k : goal.invariant-loop-k
invariant-loop-k l =
    (rows : List Row) × PutSoFar (planned_book l.turns) l.k rows l.initial.out l.initial.work l.out l.work l.finishes l.end
