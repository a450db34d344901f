-- The starts of the flows passed are kept, and `start` is where the next one starts. Assumes nothing.
use mathlib.Core.Path.{◌≡◌}
use lib.ListN.{length, take}
use Rattle.rules.specs.Reading.{flow_start}
use Rattle.book.specs.Starts.{starts_of}
use Rattle.dispatch.proofs.accepted.passing_book.Given as goal

abbrev pub invariant-loop-flow : goal.invariant-loop-flow
invariant-loop-flow l = record {
  start_is : l.start ≡ flow_start l.bytes l.flow;
  whole : length l.starts ≡ 64;
  kept : take l.flow l.starts ≡ starts_of l.bytes l.flow;
}
