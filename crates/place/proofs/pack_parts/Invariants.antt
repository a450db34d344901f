-- The parts' rows, packed one after the other: those of the first q parts are. Assumes nothing.
use Prim.Native.Nat.{ℕ, ◌<◌}
use lib.ListN.{get_or}
use Rattle.chain.specs.Alone.{names_in, takes_in}
use Rattle.place.specs.Service.{Packs}
use Rattle.place.proofs.pack_parts.Given as goal

abbrev pub invariant-loop-q : goal.invariant-loop-q
invariant-loop-q l = (i : ℕ) → i < l.q → Packs (get_or l.rows i 0) l.flow (get_or (names_in l.parts) i 0) (get_or (takes_in l.parts) i 0)
