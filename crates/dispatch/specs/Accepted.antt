-- An accepted table and its rows. Assumes nothing.
use Rattle.std.specs.Prelude.{◌≡◌, ℕ, List}
use Rattle.rules.specs.Verdicts.{Pass}
use Rattle.rules.specs.Reading.{book_of, book_fault}
use Rattle.rules.specs.Rows.{Row}
use Rattle.rules.specs.Check.{table_rows, table_fault}

-- the check accepts the table
pub record Accepted (book table : List ℕ) : Type 0 where
  pub book_passes : book_fault book ≡ Pass
  pub table_passes : table_fault (book_of book) table ≡ Pass

-- its rows
abbrev pub accepted_rows : List ℕ → List ℕ → List Row
accepted_rows book table = table_rows (book_of book) table
