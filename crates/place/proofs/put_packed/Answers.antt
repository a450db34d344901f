-- A packed row: its slot, and what stands after it, where it fits. Assumes nothing.
use mathlib.Core.Path.{◌≡◌}
use mathlib.Core.List.{[], ◌∷◌}
use Rattle.rules.specs.Fields.{bytes_of}
use Rattle.book.proofs.Stores.{stored, stores-length}
use Rattle.place.specs.Service.{packed_row}
use Rattle.place.proofs.Output.{put-rows_too_far}
use Rattle.place.proofs.Packed.{packed-put}
use lib.ListN.{length}
use Prim.Native.Nat.{◌+◌, ◌≤◌}
use borrow.Author.Rules.{rules}
use native.Mathlib.Omega.{arith}
use Rattle.place.proofs.put_packed.Goals as goal

pub returns-then-out-end : goal.returns-then-out-end
returns-then-out-end c =
    let a = c.args in
    put-rows_too_far a.out.now a.at (packed_row a.slot a.row ∷ []) c.if-out-end.true

pub returns : goal.returns
returns c =
    let a = c.args in
    let out = c.write.new.s in
    let low = c.to_le_bytes.result in
    let whole : a.at + 6 ≡ a.at + 2 + 4 = omega arith in
    let fits : a.at + 2 + 4 ≤ length out = omega (arith, stores-length a.out.now a.at (bytes_of 2 a.slot) c.write.ensures) in
    packed-put a.out.now out _ low a.at a.slot a.row (omega arith) (omega arith) c.write.ensures c.to_le_bytes.ensures
    (rw whole (stored out (a.at + 2) 4 low c.copy_from_slice.new.self fits (search rules) c.copy_from_slice.ensures.after))
