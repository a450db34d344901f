-- The rows of a table that passes 14, by their offset in its bytes. Assumes nothing.
use mathlib.Core.Path.{◌≡◌, sym, ap, ◌∙◌}
use Prim.Native.Nat.{ℕ, ◌+◌, ◌*◌, ◌-◌, ◌/◌, ◌≤◌, ◌<◌}
use mathlib.Core.Bool.{Bool}
use mathlib.Core.List.{List}
use native.Mathlib.Omega.{arith}
use lib.ListN.{length, get_or}
use Rattle.rules.specs.Verdicts.{Pass}
use Rattle.rules.specs.Book.{Book}
use Rattle.rules.specs.Rows.{Row}
use Rattle.rules.specs.Table.{table_head, row_length, row_at}
use Rattle.rules.specs.Check.{no_row, table_rows, table_head_fault}
use Rattle.rules.proofs.Laws.Walks.{length-list_from, list_at}
use Rattle.rules.proofs.Tables.TableBytes.{head_passes}
use Rattle.table_check.specs.Tally.{rows_to, Reached}

pub rows-length : (b : Book) (s : List ℕ) → length (table_rows b s) ≡ (length s - table_head b) / row_length
unfolding table_rows
rows-length b s = length-list_from (λ k. row_at s (table_head b + row_length * k)) ((length s - table_head b) / row_length) 0

pub row-at : (b : Book) (s : List ℕ) (k : ℕ) → k < length (table_rows b s) → get_or (table_rows b s) k no_row ≡ row_at s (table_head b + row_length * k)
unfolding table_rows
row-at b s k h =
    let e : 0 + k ≡ k = omega arith in
    list_at (λ j. row_at s (table_head b + row_length * j)) ((length s - table_head b) / row_length) 0 k no_row (omega (arith, rows-length b s))
    ∙ ap (λ (j : ℕ). row_at s (table_head b + row_length * j)) e

-- the rows fill the table behind its head
pub table_length_is : (b : Book) (s : List ℕ) → table_head_fault b s ≡ Pass → length s ≡ table_head b + row_length * length (table_rows b s)
table_length_is b s e = let p = head_passes b s e in omega (arith, rows-length b s, p.head_whole, p.rows_whole)

pub rows_to_lem : (b : Book) (at k : ℕ) → at ≡ table_head b + row_length * k → rows_to b at ≡ k
unfolding rows_to
rows_to_lem b at k e = omega arith

-- ---- the row behind the first k rows
module _ {b : Book} {opened : ℕ → Bool} {table work : List ℕ} {k at : ℕ} (headed : table_head_fault b table ≡ Pass)
    (reached : Reached b opened table k at work) where
  module _ (here : at < length table) where
    pub row_inside : at + 6 ≤ length table
    row_inside = omega (arith, table_length_is b table headed, reached.at_is)

    pub more_rows : k < length (table_rows b table)
    more_rows = omega (arith, table_length_is b table headed, reached.at_is)

    pub row_read : {r : Row} → r ≡ row_at table at → get_or (table_rows b table) k no_row ≡ r
    row_read read = row-at b table k more_rows ∙ ap (row_at table) (sym reached.at_is) ∙ sym read

  pub no-more_rows : length table ≤ at → k ≡ length (table_rows b table)
  no-more_rows h = omega (arith, table_length_is b table headed, reached.at_is, reached.within)
