-- The lowest bit is that of one job, and the others are left. Assumes nothing.
use mathlib.Core.Path.{sym}
use Prim.Native.Nat.{◌-◌}
use native.Mathlib.Nat.{div-one}
use native.Mathlib.Omega.{arith}
use lib.Bits.{and_le_l}
use Rattle.rules.proofs.Laws.Bits.{no-bit-left}
use Rattle.chain.proofs.Lowest.{lowest}
use Rattle.chain.proofs.Starts.{start_none, start-lowest}
use Rattle.chain.proofs.start_of.Goals as goal

pub returns-then-n-job : goal.returns-then-n-job
returns-then-n-job c =
    let a = c.args in
    let l = c.loop-bits in
    let low = lowest 64 l.bits (omega arith) (omega arith) in
    let none = start_none l.bits a.ends.now a.n (λ i h. low.below i (omega arith)) in
    omega (arith, l.invariant.1, none)

pub loop-bits-preserved : goal.loop-bits-preserved
loop-bits-preserved c =
    let a = c.args in
    let l = c.loop-bits in
    let low = lowest 64 l.bits (omega arith) (omega arith) in (
      omega (arith, and_le_l l.bits (l.bits - 1)),
      omega (arith, l.invariant.1, c.max-start.ensures, start-lowest l.bits _ _ a.ends.now low a.n (omega arith)),
    )

pub returns : goal.returns
returns c =
    let a = c.args in
    let l = c.loop-bits in
    let none = start_none l.bits a.ends.now a.n (λ i h. no-bit-left l.bits l.bits 0 (sym (div-one l.bits)) c.loop-bits-test.false i (omega arith)) in
    omega (arith, l.invariant.1, none)
