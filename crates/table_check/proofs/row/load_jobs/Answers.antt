-- `table_check::row::load_jobs` meets its contract. The invariant: the jobs so far are read out. Assumes nothing.
use mathlib.Core.Path.{refl, ◌∙◌}
use native.Mathlib.Omega.{arith}
use Rattle.table_check.proofs.Jobs.{ready_none, loaded_next, loaded_all}
use Rattle.table_check.proofs.row.load_jobs.Goals as goal

pub loop-i-preserved : goal.loop-i-preserved
loop-i-preserved c =
    loaded_next _ _ c.loop-i.i c.loop-i.jobs _ (omega (arith, c.loop-i.auto.jobs, c.loop-i-test.true))
    (record { as_in_book = c.job.ensures; no_total = refl; not_complete = ready_none _ c.default.ensures }) c.loop-i.invariant

pub returns : goal.returns
returns c =
    loaded_all _ _ c.loop-i.jobs (c.loop-i.auto.jobs ∙ c.requires ∙ c.args.current.now.head_is.jobs)
    (λ k h. c.loop-i.invariant k (omega (arith, c.loop-i.auto.jobs, c.loop-i-test.false)))
