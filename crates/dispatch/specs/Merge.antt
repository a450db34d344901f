-- The merge of an accepted table's rows: where the cursors stand, and what is listed slot by slot, flow by flow.
-- Assumes nothing.
use Rattle.std.specs.Prelude.{◌≡◌, ℕ, suc, ◌+◌, ◌*◌, ◌≤◌, ◌<◌, Bool, true, false, ◌&&◌, List, [], ◌∷◌, map, length, get_or, unwrap_or, eqb, if◌then◌else◌}
use Rattle.std.proofs.lemmas.List.Edits.{sets}
use Rattle.rules.specs.Walks.{join_from}
use Rattle.rules.specs.Limits.{slots, work_bytes}
use Rattle.rules.specs.Book.{Book, flow_count}
use Rattle.rules.specs.Reading.{book_of}
use Rattle.rules.specs.Rows.{Row, work_used}
use Rattle.rules.specs.Table.{row_length, row_bytes, rows_bytes}
use Rattle.rules.specs.Check.{no_row}
use Rattle.rules.specs.Service.{served_before}
use Rattle.dispatch.specs.declared.accepted.AcceptedTable.{AcceptedTable}
use Rattle.dispatch.specs.declared.merge.Cursor as code
use Rattle.dispatch.specs.declared.merge.Span.{Span}
use Rattle.dispatch.specs.Accepted.{accepted_rows}
use Rattle.dispatch.specs.Runs.{due_at}

-- the book of an accepted table, and its rows
abbrev pub book_beside : AcceptedTable → Book
book_beside a = book_of a.book.now.bytes.now

abbrev pub rows_of : AcceptedTable → List Row
rows_of a = accepted_rows a.book.now.bytes.now a.table.now

-- the work area is as the check leaves it
pub record InUse (book table work : List ℕ) : Type 0 where
  pub room : work_bytes ≤ length work
  pub used : work ≡ work_used slots (accepted_rows book table) work

-- ---- the rows slot by slot, flow by flow
-- the rows that pass a test
unfoldable pub keep_rows : (Row → Bool) → List Row → List Row
keep_rows q [] = []
keep_rows q (r ∷ rs) = if q r then r ∷ keep_rows q rs else keep_rows q rs

-- the rows of flow f in slot t
unfoldable pub rows_at : List Row → ℕ → ℕ → List Row
rows_at rows t f = keep_rows (λ r. eqb r.slot t && eqb r.flow f) rows

-- the rows of the flows below n in slot t, by flow number
unfoldable pub rows_in : List Row → ℕ → ℕ → List Row
rows_in rows n t = join_from (rows_at rows t) n 0

-- the rows of these flows in the slots below t, slot by slot
unfoldable pub rows_below : List Row → ℕ → ℕ → List Row
rows_below rows n t = join_from (rows_in rows n) t 0

-- ---- cursors
-- the cursor of flow f before slot t: its rows in earlier slots stand before row c, the others from there on, and
-- where there is one, row c is the first of them
pub record Cursor (rows : List Row) (f t c : ℕ) : Type 0 where
  pub within : c ≤ length rows
  pub before : (k : ℕ) → k < c → (get_or rows k no_row).flow ≡ f → (get_or rows k no_row).slot < t
  pub after : (k : ℕ) → c ≤ k → k < length rows → (get_or rows k no_row).flow ≡ f → t ≤ (get_or rows k no_row).slot
  pub here : (k : ℕ) → c ≤ k → k < length rows → (get_or rows k no_row).flow ≡ f → (get_or rows c no_row).flow ≡ f

-- a flow's cursor as the code holds it: a row, and the slot of that row where it is one of the flow's, else 65,535
pub record CursorStands (rows : List Row) (f at : ℕ) (c : code.Cursor) : Type 0 where
  pub flow_is : c.flow ≡ f
  pub at_is : c.at ≡ at
  pub due_is : c.due ≡ unwrap_or (due_at (map row_bytes rows) at f) 65535

-- and it is the one before slot t
pub record CursorAt (rows : List Row) (t : ℕ) (c : code.Cursor) : Type 0 where
  pub stands : Cursor rows c.flow t c.at
  pub due_is : c.due ≡ unwrap_or (due_at (map row_bytes rows) c.at c.flow) 65535

-- past the last one
abbrev pub no_cursor : code.Cursor
no_cursor = record { due = 0; flow = 0; jobs = 0; at = 0 }

-- all cursors: those of the flows below n are past slot t, the others before it
pub record Cursors (b : Book) (rows : List Row) (t n : ℕ) (cursors : List code.Cursor) : Type 0 where
  pub one_each : length cursors ≡ flow_count b
  pub own : (f : ℕ) → f < flow_count b → (get_or cursors f no_cursor).flow ≡ f
  pub passed : (f : ℕ) → f < n → CursorAt rows (suc t) (get_or cursors f no_cursor)
  pub ahead : (f : ℕ) → n ≤ f → f < flow_count b → CursorAt rows t (get_or cursors f no_cursor)

-- what is left of the rows from `low` to below `high`, in which it is looked for
abbrev pub halved : ℕ → ℕ → ℕ → Bool → Span
halved low high middle true = record { low = middle + 1; high = high }
halved low high middle false = record { low = low; high = middle }

-- the first row that is not of a flow served before flow f
pub record FirstRow (b : Book) (rows : List Row) (f c : ℕ) : Type 0 where
  pub within : c ≤ length rows
  pub earlier : (k : ℕ) → k < c → served_before b (get_or rows k no_row).flow f ≡ true
  pub others : (k : ℕ) → c ≤ k → k < length rows → served_before b (get_or rows k no_row).flow f ≡ true → ⊥

-- ---- what is listed
-- these rows are written behind so many, and `next` is how many there are then
pub record RowsListed (rows : List Row) (count : ℕ) (out out' : List ℕ) (next : ℕ) : Type 0 where
  pub written : out' ≡ sets out (row_length * count) (rows_bytes rows)
  pub next_is : next ≡ count + length rows

-- what listing a flow's rows of a slot asks: its cursor is the one before the slot, and there is room for the rows
pub record FlowAsked (a : AcceptedTable) (slot count : ℕ) (c : code.Cursor) (room : ℕ) : Type 0 where
  pub a_slot : slot < slots
  pub a_flow : c.flow < flow_count (book_beside a)
  pub cursor : CursorAt (rows_of a) slot c
  pub fits : row_length * (count + length (rows_at (rows_of a) slot c.flow)) ≤ room

-- the rows of the flow in a slot are listed, and its cursor is past the slot
pub record FlowListed (a : AcceptedTable) (slot count : ℕ) (out : List ℕ) (c : code.Cursor) (out' : List ℕ) (c' : code.Cursor) (next : ℕ) : Type 0 where
  pub flow_is : c'.flow ≡ c.flow
  pub cursor : CursorAt (rows_of a) (suc slot) c'
  pub listed : RowsListed (rows_at (rows_of a) slot c.flow) count out out' next

-- what listing the rows of all flows in a slot asks: all cursors are before the slot, and there is room for the rows
pub record SlotAsked (a : AcceptedTable) (slot count : ℕ) (cursors : List code.Cursor) (room : ℕ) : Type 0 where
  pub a_slot : slot < slots
  pub cursors_are : Cursors (book_beside a) (rows_of a) slot 0 cursors
  pub fits : row_length * (count + length (rows_in (rows_of a) (flow_count (book_beside a)) slot)) ≤ room

-- the rows of all flows in a slot are listed, and all cursors are past the slot
pub record SlotListed (a : AcceptedTable) (slot count : ℕ) (out out' : List ℕ) (cursors : List code.Cursor) (next : ℕ) : Type 0 where
  pub cursors_are : Cursors (book_beside a) (rows_of a) (suc slot) 0 cursors
  pub listed : RowsListed (rows_in (rows_of a) (flow_count (book_beside a)) slot) count out out' next
