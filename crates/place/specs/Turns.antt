-- The flows of a book in service order, each in its turn: what the code holds of book and calendar, what a turn adds,
-- and the maintenance taken out of the area at the end. Assumes nothing.
use Rattle.std.specs.Prelude.{◌≡◌, ℕ, suc, ◌+◌, ◌≤◌, Bool, List, ◌++◌, Option, Some, None}
use Rattle.rules.specs.Limits.{slots}
use Rattle.rules.specs.Book as rules
use Rattle.rules.specs.Reading.{book_of}
use Rattle.rules.specs.Service.{served_at}
use Rattle.rules.specs.Rows.{Row, finish_of, work_used, work_zero}
use Rattle.rules.specs.Placing.{infeasible, place_first, slots_for}
use Rattle.book.specs.declared.passing.Book.{Book}
use Rattle.calendar.specs.declared.maintenance.Calendar.{Calendar}
use Rattle.calendar.specs.Held.{held_windows}
use Rattle.place.specs.declared.Placed.{Placed}
use Rattle.place.specs.Output.{flow_bytes, Put}
use Rattle.place.specs.Flows.{OffsetIf, new_rows}
use Rattle.place.specs.Order.{shut_rows, Stands}

-- a book with a calendar, as the code holds both
abbrev pub whole_book : Book → Calendar → rules.Book
whole_book book calendar = rules.with_calendar (held_windows calendar) (book_of book.bytes.now)

-- the rows that the flow at position k adds, in the slots below its limit
abbrev pub turn_rows : rules.Book → ℕ → List Row → List Row
turn_rows b k rows = new_rows b (served_at b k) (slots_for b (rules.flow_of b (served_at b k))) rows

-- that flow is placed beside those before it and the maintenance
pub record TurnTaken (b : rules.Book) (k : ℕ) (rows : List Row) (bytes out : List ℕ) (at : ℕ) (out' area' : List ℕ) (finish next : ℕ) : Type 0 where
  pub stands : Stands b (k + 1) (rows ++ turn_rows b k rows) bytes area'
  pub put : Put out at (turn_rows b k rows) out' next
  pub ends : finish ≡ finish_of (rows ++ turn_rows b k rows) (served_at b k)
  pub others_stay : (g : ℕ) → (g ≡ served_at b k → ⊥) → finish_of (rows ++ turn_rows b k rows) g ≡ finish_of rows g
  pub finish_within : finish ≤ slots
  pub next_within : next ≤ at + flow_bytes

-- .. or makes the book infeasible
pub record TurnRefused (b : rules.Book) (k : ℕ) (bytes area' : List ℕ) : Type 0 where
  pub refused : place_first b (suc k) ≡ infeasible (served_at b k)
  pub others : List Row
  pub area_used : area' ≡ work_used slots others bytes

-- what the turn at position k answers
abbrev pub TurnGoes : Bool → rules.Book → ℕ → List Row → List ℕ → List ℕ → ℕ → List ℕ → List ℕ → Option Placed → Type 0
TurnGoes listed b k rows bytes out at out' area' (Some p) =
    (offset : ℕ) × OffsetIf listed offset p.next × TurnTaken b k rows bytes out at out' area' p.finish offset
TurnGoes listed b k rows bytes out at out' area' None = TurnRefused b k bytes area'

-- the maintenance is taken out of an area that held it beside flows: what is left is the use of the flows, and,
-- whatever it held, it is cleared as before
pub record TakenOut (b : rules.Book) (bytes area area' : List ℕ) : Type 0 where
  pub flows_left : (k : ℕ) (rows : List Row) → Stands b k rows (work_used slots (shut_rows b) bytes) area → area' ≡ work_used slots rows bytes
  pub cleared : (others : List Row) → area ≡ work_used slots others (work_used slots (shut_rows b) bytes) → work_zero slots area' ≡ work_zero slots bytes
