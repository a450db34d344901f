-- `table_check::totals_verdict` meets its contract. The invariant: the flows so far pass. Assumes nothing.
use mathlib.Core.Path.{◌≡◌}
use Rattle.rules.specs.Verdicts.{Pass}
use Rattle.table_check.specs.Walk.{mismatches_of, mismatches_fault}
use Rattle.table_check.proofs.totals_verdict.Given as goal

abbrev pub invariant-loop-f : goal.invariant-loop-f
invariant-loop-f l = mismatches_fault (mismatches_of l.ends) l.f ≡ Pass
