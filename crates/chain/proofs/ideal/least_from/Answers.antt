-- One job lower. Assumes nothing.
use Rattle.std.proofs.Common.{arith, refl, ◌∙◌, ◌-◌, length}
use Rattle.std.proofs.Math.ListN.{get_or-map}
use Rattle.std.proofs.lemmas.List.{length-map, map-set}
use Rattle.std.proofs.Math.Seq.{map-set_same}
use Rattle.chain.specs.declared.IdealJob.{IdealJob}
use Rattle.chain.specs.Alone.{no_ideal, starts_in, with_first}
use Rattle.chain.proofs.Leasts.{leasts_lower}
use Rattle.chain.proofs.Alone.{start-in, start-kept}
use Rattle.chain.proofs.ideal.least_from.Goals as goal

pub loop-i-preserved : goal.loop-i-preserved
loop-i-preserved c =
    let l = c.loop-i in
    let k = l.i - 1 in
    let a = c.args.jobs.now in
    let same = start-kept l.jobs a l.invariant.kept k in
    record {
      kept = map-set_same (with_first 0) l.jobs k _ no_ideal refl ∙ l.invariant.kept;
      leasts =
          rw (map-set (λ (j : IdealJob). j.first) l.jobs k _)
          (leasts_lower (starts_in a) (length a) l.i k l.least _ _ _ (omega arith) l.invariant.leasts
          (omega (arith, start-in a k, same))
          (omega (arith, c.min-least.ensures, start-in a k, same))
          (omega (arith, length-map a (λ (j : IdealJob). j.first))));
    }

pub returns-clause-least : goal.returns-clause-least
returns-clause-least c i h =
    rw (get_or-map (λ (j : IdealJob). j.first) c.loop-i.jobs i no_ideal) at (c.loop-i.invariant.leasts.each i (omega arith) h)
