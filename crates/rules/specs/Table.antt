-- The bytes of an allocation table. Assumes nothing.
use Rattle.std.specs.Prelude.{ℕ, ◌+◌, ◌*◌, List, [], ◌∷◌, ◌++◌, length}
use Rattle.rules.specs.Walks.{join_from}
use Rattle.rules.specs.Fields.{byte, field, bytes_of}
use Rattle.rules.specs.Book.{Book, flow_count}
use Rattle.rules.specs.Rows.{Row, finish_of}

-- "length of the whole table (4), version = 1 (1), P (2), flows (1); the finish of each flow in book order (2 each)"
abbrev pub table_head : Book → ℕ
table_head b = 8 + 2 * flow_count b

-- "then rows of 6 bytes"
abbrev pub row_length : ℕ
row_length = 6

unfoldable pub table_length : Book → List Row → ℕ
table_length b rows = table_head b + row_length * length rows

-- "slot (2), flow (1), job (1), processors (2)"
unfoldable pub row_bytes : Row → List ℕ
row_bytes r = bytes_of 2 r.slot ++ bytes_of 1 r.flow ++ bytes_of 1 r.job ++ bytes_of 2 r.processors

unfoldable pub rows_bytes : List Row → List ℕ
rows_bytes [] = []
rows_bytes (r ∷ rs) = row_bytes r ++ rows_bytes rs

unfoldable pub table_bytes : Book → List Row → List ℕ
table_bytes b rows =
    bytes_of 4 (table_length b rows) ++ bytes_of 1 1 ++ bytes_of 2 b.processors ++ bytes_of 1 (flow_count b)
    ++ join_from (λ f. bytes_of 2 (finish_of rows f)) (flow_count b) 0 ++ rows_bytes rows

-- the finish of flow f that stands in a table: "the finish of each flow in book order (2 each)", behind 8 bytes
abbrev pub finish_in : List ℕ → ℕ → ℕ
finish_in table f = field 2 table (8 + 2 * f)

-- the row that stands at `at`
unfoldable pub row_at : List ℕ → ℕ → Row
row_at s at = record { slot = field 2 s at; flow = byte s (at + 2); job = byte s (at + 3); processors = field 2 s (at + 4) }
