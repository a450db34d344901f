-- The parts of a table that stand before its rows, as they are written. Assumes nothing.
use Rattle.std.specs.Prelude.{ℕ, List, ◌++◌, get_or}
use Rattle.rules.specs.Walks.{join_from}
use Rattle.rules.specs.Fields.{bytes_of}

-- "length of the whole table (4), version = 1 (1), P (2), flows (1)"
unfoldable pub table_head_bytes : ℕ → ℕ → ℕ → List ℕ
table_head_bytes bytes processors flows = bytes_of 4 bytes ++ bytes_of 1 1 ++ bytes_of 2 processors ++ bytes_of 1 flows

-- "the finish of each flow in book order (2 each)"
unfoldable pub finish_bytes : List ℕ → ℕ → List ℕ
finish_bytes finishes flows = join_from (λ f. bytes_of 2 (get_or finishes f 0)) flows 0
