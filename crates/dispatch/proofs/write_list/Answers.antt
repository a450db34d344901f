-- The cursors are set by the book's index, the head is stored, and the rows are stored behind it: together they are
-- the list. Assumes nothing.
use mathlib.Core.Path.{◌≡◌, refl, ap, ◌∙◌}
use Prim.Native.Nat.{ℕ}
use mathlib.Core.List.{List}
use lib.ListN.{length, length-drop}
use lib.Seq.{sets, length-sets}
use Rattle.rules.specs.Reading.{book_of}
use Rattle.rules.specs.Table.{rows_bytes}
use Rattle.rules.specs.Dispatch.{in_list_order}
use Rattle.dispatch.specs.Accepted.{accepted_rows}
use Rattle.dispatch.specs.Call.{list_head_bytes}
use Rattle.dispatch.proofs.Runs.{behind, rest_is, sets_rest}
use Rattle.dispatch.proofs.Calls.{list-length_is, list_stores}
use native.Mathlib.Omega.{arith}
use Rattle.dispatch.proofs.write_list.Goals as goal

pub put_head-requires : goal.put_head-requires
put_head-requires c =
    let a = c.args in
    omega (arith, c.requires.size_is ∙ list-length_is (accepted_rows a.book.now a.table.now), c.requires.has_room)

pub slice_bounds-merge-count : goal.slice_bounds-merge-count
slice_bounds-merge-count c =
    let a = c.args in
    omega (arith, c.requires.size_is ∙ list-length_is (accepted_rows a.book.now a.table.now), c.requires.has_room)

pub slice_bounds-merge-start : goal.slice_bounds-merge-start
slice_bounds-merge-start c =
    let a = c.args in
    omega (arith, c.requires.size_is ∙ list-length_is (accepted_rows a.book.now a.table.now), c.requires.has_room)

pub merge-requires : goal.merge-requires
merge-requires c =
    let a = c.args in
    let t = c.new-accepted in
    let same = c.passing_book-book.ensures in
    let size = c.requires.size_is ∙ list-length_is (accepted_rows a.book.now a.table.now) in
    let kept = ap length c.put_head.ensures ∙ length-sets a.out.now 0 (list_head_bytes a.size c.passing_book-book.result.processors) in (
      c.start_cursors.ensures,
      rw (t.ensures.book, t.ensures.table, same) c.requires.in_use,
      rw (t.ensures.book, t.ensures.table, same)
          (omega (arith, size, kept, c.requires.has_room, ap length (rest_is c.put_head.new.out 7), length-drop 7 c.put_head.new.out)),
    )

pub returns : goal.returns
returns c =
    let a = c.args in
    let t = c.new-accepted in
    let same = c.passing_book-book.ensures in
    let rows = accepted_rows a.book.now a.table.now in
    let list = rows_bytes (in_list_order rows) in
    let head = c.put_head.new.out in
    let merged : c.merge.new.out ≡ sets (behind head 7) 0 list = rw (t.ensures.book, t.ensures.table, same) at c.merge.ensures in
    sets_rest head list c.merge.new.out 7 _ refl
    (merged ∙ ap (λ (o : List ℕ). sets o 0 list) (rest_is head 7))
    ∙ ap (λ (o : List ℕ). sets o 7 list) c.put_head.ensures
    ∙ ap (λ (p : ℕ). sets (sets a.out.now 0 (list_head_bytes a.size p)) 7 list) (c.passing_book-book.result.processors_are ∙ ap (λ (s : List ℕ). (book_of s).processors) same)
    ∙ list_stores (book_of a.book.now) rows a.out.now a.size c.requires.size_is c.requires.has_room
