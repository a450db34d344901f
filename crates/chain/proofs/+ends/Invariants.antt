-- The measure of the recursion is the job number.
use Rattle.chain.proofs.+ends.Given as goal

abbrev pub decreases-ends : goal.decreases-ends
decreases-ends l = l.n
