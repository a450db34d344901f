-- Flow after flow: the flows before the state's position, which is this turn's, are placed.
use Rattle.std.proofs.Common.{◌≡◌}
use Rattle.place.specs.Turns.{whole_book}
use Rattle.finish.specs.Flows.{PlacedTo}
use Rattle.finish.proofs.place_up_to.Given as goal

abbrev pub invariant-loop-k : goal.invariant-loop-k
invariant-loop-k l = record {
  here : l.placement.position ≡ l.k;
  so_far_lem : PlacedTo (whole_book l.turns.book.now l.turns.calendar.now) l.initial.work l.work l.placement;
}
