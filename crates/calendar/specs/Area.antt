-- Work areas whose pairs hold any function of the slot, and flags of shut slots. Assumes nothing.
use Rattle.std.specs.Prelude.{ℕ, ◌*◌, Bool, not, List, ◌++◌, drop, get_or, eqb}
use Rattle.rules.specs.Walks.{join_from}
use Rattle.rules.specs.Fields.{bytes_of}

-- the work area of n slots whose pairs hold `used`, before bytes that are untouched
unfoldable pub area_holding : ℕ → (ℕ → ℕ) → List ℕ → List ℕ
area_holding n used area = join_from (λ t. bytes_of 2 (used t)) n 0 ++ drop (2 * n) area

-- slot t is open by its flag: 1 means shut; past the last flag it is open
unfoldable pub open_by : List ℕ → ℕ → Bool
open_by flags t = not (eqb (get_or flags t 0) 1)
