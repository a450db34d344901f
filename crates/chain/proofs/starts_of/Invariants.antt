-- The starts are filled up to i, each by its end and its slots. Assumes nothing.
use Rattle.std.proofs.Common.{◌≡◌, ◌-◌, get_or}
use Rattle.book.proofs.Filled.{Filled}
use Rattle.chain.proofs.starts_of.Given as goal

abbrev pub invariant-loop-i : goal.invariant-loop-i
invariant-loop-i l = Filled (λ k v. v ≡ get_or l.ends k 0 - get_or l.slots k 0) l.i l.initial.starts l.starts
