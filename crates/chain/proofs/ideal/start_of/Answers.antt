-- The lowest bit is that of one job, and the others are left. Assumes nothing.
use Rattle.std.proofs.Common.{arith, sym, ap, ◌∙◌, ◌≡◌, ◌-◌, ◌<◌, length, get_or}
use Rattle.std.proofs.lemmas.List.{get_or-map}
use native.Mathlib.Nat.{div-one}
use borrow.Author.Tests.{ltb-true}
use lib.Bits.{and_le_l}
use lib.Count.{count_trailing_zeros}
use Rattle.rules.proofs.Laws.Bits.{no-bit-left}
use Rattle.chain.specs.declared.IdealJob.{IdealJob}
use Rattle.chain.specs.Alone.{ends_in}
use Rattle.chain.proofs.Lowest.{lowest}
use Rattle.chain.proofs.Starts.{start_none, start-lowest}
use Rattle.chain.proofs.ideal.start_of.Goals as goal

pub returns-in_default : goal.returns-in_default
returns-in_default c =
    let l = c.loop-bits in
    let jobs = c.args.jobs.now in
    let low = lowest 64 l.bits (omega arith) (omega arith) in
    let past = c.in_default.ensures.lookup in
    omega (arith, l.invariant.1, start_none l.bits (ends_in jobs) (length jobs) (λ i h. low.below i (omega (arith, past.3))))

pub loop-bits-preserved : goal.loop-bits-preserved
loop-bits-preserved c =
    let l = c.loop-bits in
    let jobs = c.args.jobs.now in
    let z = count_trailing_zeros 64 l.bits in
    let low = lowest 64 l.bits (omega arith) (omega arith) in
    let there = c.in-Some.ensures.lookup in
    let within : z < length jobs = ltb-true z (length jobs) (sym there.0) in
    let e : get_or (ends_in jobs) z 0 ≡ c.in-Some.job.now.end =
    get_or-map (λ (j : IdealJob). j.end) jobs z c.in-Some.job.now 0 within ∙ ap (λ (j : IdealJob). j.end) (sym there.1) in (
      omega (arith, and_le_l l.bits (l.bits - 1)),
      omega (arith, l.invariant.1, c.max-start.ensures, e, start-lowest l.bits _ _ (ends_in jobs) low (length jobs) within),
    )

pub returns : goal.returns
returns c =
    let l = c.loop-bits in
    let jobs = c.args.jobs.now in
    let none = start_none l.bits (ends_in jobs) (length jobs) (λ i h. no-bit-left l.bits l.bits 0 (sym (div-one l.bits)) c.loop-bits-test.false i (omega arith)) in
    omega (arith, l.invariant.1, none)
