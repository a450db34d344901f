-- The placing of the first flows in service order with their rows, as the planner holds it. Assumes nothing.
use Rattle.std.specs.Prelude.{◌≡◌, ℕ, ◌*◌, ◌<◌, ◌≤◌, List, [], length, get_or, Result, Ok, Err}
use Rattle.rules.specs.declared.Fault.TheVariants as fault
use Rattle.rules.specs.declared.Refusal.{Refusal}
use Rattle.rules.specs.Answers.{none}
use Rattle.rules.specs.Faults.{refusal_at}
use Rattle.rules.specs.Limits.{slots}
use Rattle.rules.specs.Book.{Book, flow_count}
use Rattle.rules.specs.Rows.{Row, finish_of, work_used, work_zero}
use Rattle.rules.specs.Placing.{Plan, planned, infeasible, place_first}
use Rattle.rules.specs.Table.{table_head, table_length}
use Rattle.place.specs.Output.{Put}
use Rattle.place.specs.Order.{Stands}
use Rattle.place.specs.declared.in_turn.Turns.{Turns}
use Rattle.place.specs.Turns.{whole_book}
use Rattle.planner.specs.declared.Whole.{Whole}

-- the book with its calendar, as the code holds both
abbrev pub planned_book : Turns → Book
planned_book turns = whole_book turns.book.now turns.calendar.now

-- the rows of the first k flows are put behind the bytes of head and finishes, and the finishes are theirs
pub record RowsPut (b : Book) (k : ℕ) (rows : List Row) (out out' finishes : List ℕ) (next : ℕ) : Type 0 where
  pub put : Put out (table_head b) rows out' next
  pub finish : (f : ℕ) → f < flow_count b → get_or finishes f 0 ≡ finish_of rows f
  pub few : length rows ≤ 524288 * k

-- how the placing of the first k flows ends: with the offset after the last row, or with a flow that makes the book
-- infeasible
abbrev pub ended_of : Book → Plan → Result ℕ Refusal
ended_of b (planned rows) = Ok (table_length b rows)
ended_of b (infeasible f) = Err (refusal_at fault.Infeasible f none)

-- the offset that a placing came to, and the finishes that it hands back
abbrev pub end_in : Result Whole Refusal → Result ℕ Refusal
end_in (Ok w) = Ok w.end
end_in (Err r) = Err r

abbrev pub finishes_in : Result Whole Refusal → List ℕ
finishes_in (Ok w) = w.finishes
finishes_in (Err r) = []

-- the flows are placed beside the maintenance, which the area holds before and after
pub record FlowsPlaced (b : Book) (k : ℕ) (out area out' area' : List ℕ) (r : Result Whole Refusal) : Type 0 where
  pub ends : end_in r ≡ ended_of b (place_first b k)
  pub rows_put : (rows : List Row) → place_first b k ≡ planned rows → RowsPut b k rows out out' (finishes_in r) (table_length b rows)
  pub stands : (rows : List Row) → place_first b k ≡ planned rows → Stands b k rows area area'
  pub others : List Row
  pub area_used : area' ≡ work_used slots others area

-- .. and beside nothing: the maintenance is taken out of the area again
pub record FirstPlaced (b : Book) (k : ℕ) (out area out' area' : List ℕ) (r : Result Whole Refusal) : Type 0 where
  pub ends : end_in r ≡ ended_of b (place_first b k)
  pub rows_put : (rows : List Row) → place_first b k ≡ planned rows → RowsPut b k rows out out' (finishes_in r) (table_length b rows)
  pub area_used : (rows : List Row) → place_first b k ≡ planned rows → area' ≡ work_used slots rows area
  pub cleared : work_zero slots area' ≡ work_zero slots area
