-- The call below gives the lower jobs, and job n - 1 is stored after them. Assumes nothing.
use Rattle.std.proofs.Common.{arith, ◌∙◌, ◌-◌, get_or}
use Rattle.std.proofs.lemmas.List.{length-take}
use Rattle.book.specs.Starts.{no_record}
use Rattle.chain.proofs.Alone.{flow_with, jobs_of-flow_with, jobs-last-to, end-to, start-by-ends, alone-next, alone-stored, rest-kept}
use Rattle.chain.proofs.ideal.+ends.Goals as goal

pub overflow_add-ideal : goal.overflow_add-ideal
overflow_add-ideal t c =
    let jobs = c.args.jobs.now in
    let k = c.args.n - 1 in
    let w = flow_with jobs in
    let of = jobs_of-flow_with jobs in
    let e = of.each k (omega arith) in
    let es = c.start_of-start.ensures ∙ start-by-ends w k (get_or jobs k no_record) e c.ends.new.ideal (omega arith) (c.ends.ensures.alone w of) in
    let j = alone-next w k (get_or jobs k no_record) e _ _ 0 _ es c.from-cap.ensures c.lasts-lasting.ensures in
    let n = c.args.n in
    let lasts = jobs-last-to w jobs of n (omega arith) c.requires.0 in
    omega (arith, j.end, end-to w n lasts n (omega arith) k (omega arith), length-take n jobs, c.requires.0.few)

pub returns-clause-alone : goal.returns-clause-alone
returns-clause-alone t c w of =
    let jobs = c.args.jobs.now in
    let k = c.args.n - 1 in
    let e = of.each k (omega arith) in
    let below = c.ends.ensures.alone w of in
    let es = c.start_of-start.ensures ∙ start-by-ends w k (get_or jobs k no_record) e c.ends.new.ideal (omega arith) below in
    let j = alone-next w k (get_or jobs k no_record) e _ _ _ _ es c.from-cap.ensures c.lasts-lasting.ensures in
    λ i h. alone-stored w k (get_or jobs k no_record) e c.ends.new.ideal _ (omega arith) below j i (omega arith)

pub returns-clause-rest : goal.returns-clause-rest
returns-clause-rest t c = rest-kept c.args.n (c.args.n - 1) _ _ _ (omega arith) c.ends.ensures.rest
