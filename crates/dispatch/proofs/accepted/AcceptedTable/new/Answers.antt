-- The bytes behind the head of an accepted table are its rows. Assumes nothing.
use mathlib.Core.Path.{◌≡◌, ap, ◌∙◌}
use Prim.Native.Nat.{ℕ, ◌+◌, ◌*◌, ◌/◌}
use mathlib.Core.List.{List}
use lib.ListN.{length, drop, length-drop}
use Rattle.std.specs.Simd.{first_chunks}
use Rattle.rules.specs.Fields.{AllBytes}
use Rattle.rules.specs.Reading.{book_of}
use Rattle.rules.specs.Table.{table_head}
use Rattle.dispatch.proofs.Runs.{rest_is}
use Rattle.dispatch.proofs.Tables.{rows_fill, rows_stand, size-of_table}
use native.Mathlib.Omega.{arith}
use Rattle.dispatch.proofs.accepted.AcceptedTable.new.Goals as goal

pub slice_bounds-as_chunks-count : goal.slice_bounds-as_chunks-count
slice_bounds-as_chunks-count c = let a = c.args in omega (arith, c.flow_count.ensures.count, rows_fill a.book.now.bytes.now a.table.now c.requires)

pub slice_bounds-as_chunks-start : goal.slice_bounds-as_chunks-start
slice_bounds-as_chunks-start c = let a = c.args in omega (arith, c.flow_count.ensures.count, rows_fill a.book.now.bytes.now a.table.now c.requires)

pub invariant_of-result : goal.invariant_of-result
unfolding AllBytes
invariant_of-result c =
    let a = c.args in
    let head : 8 + 2 * c.flow_count.result ≡ table_head (book_of a.book.now.bytes.now) = omega (arith, c.flow_count.ensures.count) in
    let bytes : AllBytes a.table.now = λ i. omega (arith, c.type_inv.table i) in
    let behind = rest_is a.table.now (8 + 2 * c.flow_count.result) in
    record {
      accepted = c.requires;
      short =
          omega (
            arith,
            c.as_chunks.ensures.front_len,
            ap length behind,
            length-drop (8 + 2 * c.flow_count.result) a.table.now,
            size-of_table a.book.now.bytes.now a.table.now c.requires bytes,
          );
      rows_are =
          c.as_chunks.ensures.front
          ∙ ap (λ (s : List ℕ). first_chunks 6 (length s / 6) s) (behind ∙ ap (λ (j : ℕ). drop j a.table.now) head)
          ∙ rows_stand a.book.now.bytes.now a.table.now c.requires bytes;
    }
