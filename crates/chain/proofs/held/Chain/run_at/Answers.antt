-- The laws of `Walked` at each step, and the bounds of at most 64 jobs in range. Assumes nothing.
use Rattle.std.proofs.Common.{arith, refl, get_or}
use lib.Dec.{ltb}
use Rattle.chain.specs.Alone.{no_ideal}
use Rattle.chain.proofs.Walked.{take-most, one-at-most, from_bool-bit, ended-parts, none-begun-parts, all-parts, one-more-part}
use Rattle.chain.proofs.held.Chain.run_at.Goals as goal

pub loop-i-init : goal.loop-i-init
loop-i-init c = record {
  few = omega arith;
  some = omega (arith, c.requires.1);
  within = omega (arith, c.requires.1);
  rate_most = omega arith;
  so_far = λ w of. ended-parts w _ _ of _ _ _ c.requires.2 c.requires.1;
}

pub returns-then-t-job : goal.returns-then-t-job
returns-then-t-job c w of =
    none-begun-parts w _ _ of _ _ _ _ _ _ _ _ (omega arith) refl c.if-t-job.true c.min.ensures (c.loop-i.invariant.so_far w of)

pub overflow_add-rate : goal.overflow_add-rate
overflow_add-rate c =
    let j = get_or c.args.self.now.jobs.now c.loop-i.i no_ideal in
    let within = c.args.self.now.in_range in
    let r = within.each c.loop-i.i (omega arith) in
    omega (arith, c.loop-i.invariant.rate_most, within.few, c.take_at-take.ensures, take-most j.start j.end j.last j.cap 4096 c.args.t r.last_most r.cap_most)

pub loop-i-preserved : goal.loop-i-preserved
loop-i-preserved c =
    let l = c.loop-i in
    let j = get_or c.args.self.now.jobs.now l.i no_ideal in
    let r = c.args.self.now.in_range.each l.i (omega arith) in
    record {
      few = omega (arith, l.invariant.few, c.from-count.ensures, one-at-most (ltb 0 c.take_at-take.result));
      some = c.until_change-width.ensures.some;
      within = omega (arith, l.invariant.within, c.until_change-width.ensures.within);
      rate_most = omega (arith, l.invariant.rate_most, c.take_at-take.ensures, take-most j.start j.end j.last j.cap 4096 c.args.t r.last_most r.cap_most);
      so_far = λ w of.
          rw (c.from-count.ensures, from_bool-bit)
          (one-more-part w _ _ of _ l.i (omega arith) j refl _ _ _ _ _ _ (omega (arith, l.invariant.few, c.requires.0)) (l.invariant.so_far w of)
          c.take_at-take.ensures c.until_change-width.ensures);
    }

pub returns : goal.returns
returns c w of = all-parts w _ _ of _ _ _ _ _ _ (omega arith) (c.loop-i.invariant.so_far w of)
