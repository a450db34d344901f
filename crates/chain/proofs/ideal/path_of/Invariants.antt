-- `path` is the largest end so far. Assumes nothing.
use Rattle.std.proofs.Common.{◌≡◌, get_or}
use Rattle.rules.specs.Walks.{max_to}
use Rattle.chain.specs.Alone.{no_ideal}
use Rattle.chain.proofs.ideal.path_of.Given as goal

abbrev pub invariant-loop-job : goal.invariant-loop-job
invariant-loop-job l = l.path ≡ max_to (λ i. (get_or l.jobs i no_ideal).end) l.job-index
