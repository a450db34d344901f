-- The bytes of a dispatch list, written and read back: its head and its rows, one after the other, and behind them what stood in the output. Assumes nothing.
use mathlib.Core.Path.{◌≡◌, ◌∙◌}
use Prim.Native.Nat.{ℕ, ◌-◌, ◌/◌}
use native.Mathlib.Omega.{arith}
use mathlib.Core.List.{List, ◌++◌, append_assoc}
use lib.ListN.{length, take, drop, length-append}
use lib.Seq.{take_at, drop_at}
use Rattle.rules.specs.Fields.{bytes_of}
use Rattle.rules.specs.Book.{Book}
use Rattle.rules.specs.Rows.{Row}
use Rattle.rules.specs.Table.{row_length, rows_bytes}
use Rattle.rules.specs.Dispatch.{in_list_order, list_head, list_length, list_bytes, rows_in_list}
use Rattle.rules.proofs.Rows.Rising.{◌∈◌}
use Rattle.rules.proofs.Laws.Fields.{bytes-length, stands-whole, stands_after}
use Rattle.rules.proofs.Tables.TableBytes.{RowFits, rows-bytes-length, rows_written}
use Rattle.rules.proofs.Rows.ListOrder.{length-in_list_order, list_in}

module _ (b : Book) (rows : List Row) where
  abbrev head : List ℕ
  head = bytes_of 4 (list_length rows) ++ bytes_of 1 1 ++ bytes_of 2 b.processors

  head-length : length head ≡ list_head
  head-length = simp (length-append, bytes-length)

  pub list-bytes-length : length (list_bytes b rows) ≡ list_length rows
  unfolding list_bytes list_length
  list-bytes-length = length-append head (rows_bytes (in_list_order rows)) ∙ omega (arith, head-length, rows-bytes-length (in_list_order rows), length-in_list_order rows)

  -- the rows are read back
  pub list-rows_written : ((r : Row) → r ∈ rows → RowFits r) → rows_in_list (list_bytes b rows) ≡ in_list_order rows
  unfolding rows_in_list list_bytes list_length
  list-rows_written fits =
      let s = list_bytes b rows in
      let count : (length s - list_head) / row_length ≡ length (in_list_order rows) = omega (arith, list-bytes-length, length-in_list_order rows) in
      rw count
      (rows_written s list_head 0 (in_list_order rows) (λ r m. fits r (list_in rows r m))
      (stands_after s 0 list_head head (rows_bytes (in_list_order rows)) head-length (stands-whole s)))

  -- ---- in an output
  module _ (out : List ℕ) where
    abbrev written : List ℕ
    written = list_bytes b rows ++ drop (list_length rows) out

    pub list-taken : take (list_length rows) written ≡ list_bytes b rows
    list-taken = take_at (list_bytes b rows) (drop (list_length rows) out) (list_length rows) list-bytes-length

    pub list-past : drop (list_length rows) written ≡ drop (list_length rows) out
    list-past = drop_at (list_bytes b rows) (drop (list_length rows) out) (list_length rows) list-bytes-length

    pub list-head : take list_head written ≡ head
    unfolding list_bytes
    list-head =
        rw (append_assoc head (rows_bytes (in_list_order rows)) (drop (list_length rows) out))
        (take_at head (rows_bytes (in_list_order rows) ++ drop (list_length rows) out) list_head head-length)
