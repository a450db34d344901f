-- The calls give the chain of each flow that has these records, and there is one. Assumes nothing.
use Rattle.std.proofs.Common.{arith, length}
use Rattle.std.proofs.lemmas.List.{length-take}
use Rattle.chain.proofs.Alone.{flow_with, jobs_of-flow_with, chain_of, chain-in-range}
use Rattle.chain.proofs.held.Chain.of.Goals as goal

pub invariant_of-result : goal.invariant_of-result
invariant_of-result c =
    let records = c.args.jobs.now in
    let of = jobs_of-flow_with records in
    record {
      in_range =
          chain-in-range (flow_with records) _ _
          (chain_of (flow_with records) records c.ends.new.ideal c.least_from.new.jobs c.path_of.result c.requires.0 of c.least_from.ensures.kept
          (omega (arith, length-take (length c.args.jobs.now) c.args.room.now)) (omega arith) (c.ends.ensures.alone _ of) c.least_from.ensures.least c.path_of.ensures);
    }

pub returns : goal.returns
returns c w of =
    chain_of w c.args.jobs.now c.ends.new.ideal c.least_from.new.jobs c.path_of.result c.requires.0 of c.least_from.ensures.kept
    (omega (arith, length-take (length c.args.jobs.now) c.args.room.now)) (omega arith) (c.ends.ensures.alone w of) c.least_from.ensures.least c.path_of.ensures
