-- Flows placed one after the other in service order, with the cluster's maintenance as rows beside theirs: where it
-- stands after the first k of them. The planner and the finish of one flow both go by it. Assumes nothing.
use Rattle.std.specs.Prelude.{◌≡◌, ℕ, ◌<◌, ◌≤◌, List, ◌++◌, if◌then◌else◌}
use Rattle.rules.specs.Walks.{join_from}
use Rattle.rules.specs.Limits.{most_flows, slots}
use Rattle.rules.specs.Calendar.{is_open}
use Rattle.rules.specs.Book.{Book, flow_count}
use Rattle.rules.specs.Service.{served_at}
use Rattle.rules.specs.Rows.{Row, row_for, used_in, finish_of, work_used}
use Rattle.rules.specs.Placing.{planned, place_first}

-- maintenance as rows: all processors in each shut slot, for a flow that no book has
unfoldable pub shut_rows : Book → List Row
shut_rows b = join_from (λ t. row_for t most_flows 0 (if is_open b.calendar t then 0 else b.processors)) slots 0

-- the first k flows are placed: these are their rows, and the area, past the slots that of `bytes`, holds their use
-- beside the maintenance
pub record Stands (b : Book) (k : ℕ) (rows : List Row) (bytes area : List ℕ) : Type 0 where
  pub placed : place_first b k ≡ planned rows
  pub area_used : area ≡ work_used slots (shut_rows b ++ rows) bytes
  pub within : (t : ℕ) → used_in (shut_rows b ++ rows) t ≤ b.processors
  -- the flows behind have no finish yet
  pub behind : (j : ℕ) → k ≤ j → j < flow_count b → finish_of rows (served_at b j) ≡ 0
