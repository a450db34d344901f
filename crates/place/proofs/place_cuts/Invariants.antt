-- One flow, from cut to cut. The invariant is `FlowKept`, and that the jobs below `from` have ended; the measure is
-- what is left of the path. Assumes nothing.
use Prim.Native.Nat.{◌-◌}
use denote.Param.{number}
use Rattle.place.specs.contracts.place_cuts.{LISTED-type}
use Rattle.rules.specs.Reading.{book_of}
use Rattle.chain.specs.Alone.{EndedTo}
use Rattle.place.proofs.FlowLoop.{FlowKept}
use Rattle.place.proofs.place_cuts.Given as goal

abbrev pub invariant-loop-t : goal.invariant-loop-t
invariant-loop-t g l = record {
  kept : FlowKept (LISTED-type (number g.row.LISTED)) (book_of l.book.bytes.now) l.f l.at l.limit l.initial.out l.initial.area l.out l.area l.t l.finish l.next;
  ended : EndedTo l.chain.jobs.now l.from l.t;
}

abbrev pub decreases-loop-t : goal.decreases-loop-t
decreases-loop-t g l = l.chain.path - l.t
