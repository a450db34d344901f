-- The run is that of the first i jobs, for each flow that the values are of. Assumes nothing.
use Rattle.std.proofs.Common.{◌≤◌, ◌<◌, ◌+◌, ◌*◌}
use Rattle.rules.specs.Book.{Flow}
use Rattle.chain.specs.Alone.{ChainOf}
use Rattle.chain.proofs.Walked.{PartsSoFar}
use Rattle.chain.proofs.held.Chain.run_at.Given as goal

abbrev pub invariant-loop-i : goal.invariant-loop-i
invariant-loop-i l = record {
  few : l.count ≤ l.i;
  some : 0 < l.width;
  within : l.t + l.width ≤ l.self.path;
  rate_most : l.rate ≤ 4096 * l.i;
  so_far : (w : Flow) → ChainOf w l.self.jobs.now l.self.path → PartsSoFar w l.t l.i l.width l.rate l.parts l.count;
}
