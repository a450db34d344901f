-- The jobs from `from` to i have ended. Assumes nothing.
use Rattle.std.proofs.Common.{ℕ, ◌≤◌, ◌<◌, get_or}
use Rattle.chain.specs.Alone.{no_ideal}
use Rattle.chain.proofs.ideal.skip_ended.Given as goal

abbrev pub invariant-loop-i : goal.invariant-loop-i
invariant-loop-i l = (k : ℕ) → l.from ≤ k → k < l.i → (get_or l.jobs k no_ideal).end ≤ l.t
