-- The four bytes of a row after its slot in one number: what stands in it is the row. Assumes nothing.
use mathlib.Core.Path.{◌≡◌, refl}
use Prim.Native.Nat.{◌/◌, ◌%◌}
use lib.ListN.{get_or}
use borrow.Author.Rules.{rules}
use native.Mathlib.Omega.{arith}
use Rattle.place.proofs.Packed.{packed-row}
use Rattle.place.proofs.pack.Goals as goal

pub returns : goal.returns
returns c =
    let part = c.args.part in
    let high : get_or c.to_be_bytes.result 0 0 ≡ part.take / 256 = rw c.to_be_bytes.ensures (omega (arith, c.requires)) in
    let low : get_or c.to_be_bytes.result 1 0 ≡ part.take % 256 = rw c.to_be_bytes.ensures refl in
    packed-row _ c.args.flow part.job part.take c.ranges.flow.fits (search rules) (omega (arith, c.requires)) (omega (arith, c.from_le_bytes.ensures, high, low))
