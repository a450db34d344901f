-- What a test says. Assumes nothing.
use Rattle.std.specs.Prelude.{ℕ}

-- "Planner and check take every byte sequence .. and turn a faulty one down by number and place": an input passes, or it is turned down by a number of
-- the list, at a place, which is a flow and a job
pub data Verdict : Type 0 where
  Pass : Verdict
  Refused : ℕ → ℕ → ℕ → Verdict
