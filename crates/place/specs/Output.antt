-- Rows put into an output where they fit. Assumes nothing.
use Rattle.std.specs.Prelude.{◌≡◌, ℕ, ◌+◌, ◌*◌, List, [], ◌∷◌, length, leb, if◌then◌else◌}
use Rattle.std.proofs.lemmas.List.Edits.{sets}
use Rattle.rules.specs.Limits.{most_jobs, slots}
use Rattle.rules.specs.Rows.{Row}
use Rattle.rules.specs.Table.{row_length, row_bytes}

-- the most bytes of one flow's rows, in one slot and in all
abbrev pub slot_bytes : ℕ
slot_bytes = row_length * most_jobs

abbrev pub flow_bytes : ℕ
flow_bytes = slot_bytes * slots

-- a row put at an offset of the output, if it fits whole
unfoldable pub put_row : List ℕ → ℕ → Row → List ℕ
put_row out at r = if leb (at + row_length) (length out) then sets out at (row_bytes r) else out

-- rows put one after the other
unfoldable pub put_rows : List ℕ → ℕ → List Row → List ℕ
put_rows out at [] = out
put_rows out at (r ∷ rs) = put_rows (put_row out at r) (at + row_length) rs

-- rows are put from an offset of an output on: the output after that, and the offset after them
pub record Put (out : List ℕ) (at : ℕ) (rows : List Row) (out' : List ℕ) (next : ℕ) : Type 0 where
  pub output : out' ≡ put_rows out at rows
  pub offset : next ≡ at + row_length * length rows
