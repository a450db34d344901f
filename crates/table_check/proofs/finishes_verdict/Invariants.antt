-- `table_check::finishes_verdict` meets its contract. The invariant: the flows so far pass. Assumes nothing.
use mathlib.Core.Path.{◌≡◌}
use Rattle.rules.specs.Verdicts.{Pass}
use Rattle.rules.specs.Answers.{first_fault}
use Rattle.table_check.specs.Walk.{finishes_of, finish_fault_by}
use Rattle.table_check.proofs.finishes_verdict.Given as goal

abbrev pub invariant-loop-f : goal.invariant-loop-f
invariant-loop-f l = first_fault (finish_fault_by l.table (finishes_of l.ends)) l.f ≡ Pass
