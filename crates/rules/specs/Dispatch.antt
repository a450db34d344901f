-- The dispatch list (document 02, Req 03; "dispatch list" is its word): a table's rows in the order in which the dispatcher works, and a call's
-- answer, output and work area for every book, calendar, table, output and work area. Assumes nothing.
use Rattle.std.specs.Prelude.{ℕ, ◌+◌, ◌*◌, ◌-◌, ◌/◌, Bool, ◌&&◌, ◌||◌, List, [], ◌∷◌, ◌++◌, length, drop, ltb, eqb, if◌then◌else◌}
use Rattle.rules.specs.declared.ListAnswer.{ListAnswer}
use Rattle.rules.specs.Walks.{list_from}
use Rattle.rules.specs.Fields.{bytes_of}
use Rattle.rules.specs.Answers.{none, list_accepted, list_refused}
use Rattle.rules.specs.Limits.{slots}
use Rattle.rules.specs.Book.{Book}
use Rattle.rules.specs.Reading.{book_of}
use Rattle.rules.specs.Rows.{Row, work_zero}
use Rattle.rules.specs.Table.{row_length, rows_bytes, row_at}
use Rattle.rules.specs.Check.{table_rows, CheckOutcome, check_call}

-- ---- the order
-- "ordered by slot, flow, job": row q comes before row r. The flow counts by its number, not by service order.
unfoldable pub listed_before : Row → Row → Bool
listed_before q r =
    ltb q.slot r.slot
    || eqb q.slot r.slot && (ltb q.flow r.flow || eqb q.flow r.flow && ltb q.job r.job)

-- row r put where it belongs among rows in this order
unfoldable pub insert_row : Row → List Row → List Row
insert_row r [] = r ∷ []
insert_row r (q ∷ qs) = if listed_before q r then q ∷ insert_row r qs else r ∷ q ∷ qs

-- "the table's rows, ordered by slot, flow, job"
unfoldable pub in_list_order : List Row → List Row
in_list_order [] = []
in_list_order (r ∷ rs) = insert_row r (in_list_order rs)

-- ---- the bytes
-- "length (4), version 1 (1), P (2)"
abbrev pub list_head : ℕ
list_head = 7

unfoldable pub list_length : List Row → ℕ
list_length rows = list_head + row_length * length rows

-- "then the table's rows", as in the table
unfoldable pub list_bytes : Book → List Row → List ℕ
list_bytes b rows = bytes_of 4 (list_length rows) ++ bytes_of 1 1 ++ bytes_of 2 b.processors ++ rows_bytes (in_list_order rows)

-- the rows that stand in a list behind its head
unfoldable pub rows_in_list : List ℕ → List Row
rows_in_list s = list_from (λ k. row_at s (list_head + row_length * k)) ((length s - list_head) / row_length) 0

-- ---- a call
pub record DispatchOutcome : Type 0 where
  pub answer : ListAnswer
  pub output : List ℕ
  pub area : List ℕ

-- "then 13 if the list is longer than the lent output. The answer is the list's length; output past it is untouched, and the work area ends as
-- the check leaves it, or zeroed where the refusal is that 13": the rows of an accepted table, an area that was `area`, and `left` by the check
unfoldable pub list_outcome : Book → List Row → List ℕ → List ℕ → List ℕ → DispatchOutcome
list_outcome b rows out area left =
    if ltb (length out) (list_length rows)
    then record { answer = list_refused 13 none none; output = out; area = work_zero slots area }
    else record { answer = list_accepted (list_length rows); output = list_bytes b rows ++ drop (list_length rows) out; area = left }

-- "The refusals of the check apply first", each with its number, place and area; a refusal leaves the output untouched
unfoldable pub dispatch_checked : Book → List Row → List ℕ → List ℕ → CheckOutcome → DispatchOutcome
dispatch_checked b rows out area o =
    if eqb o.answer.number 0 then list_outcome b rows out area o.area
    else record { answer = list_refused o.answer.number o.answer.flow o.answer.job; output = out; area = o.area }

-- "From a book and a table that the check accepts, write a dispatch list". Of the book it states P alone.
unfoldable pub dispatch_call : List ℕ → List ℕ → List ℕ → List ℕ → List ℕ → DispatchOutcome
dispatch_call book calendar table out area =
    dispatch_checked (book_of book) (table_rows (book_of book) table) out area (check_call book calendar table area)
