-- The closure in `table_check::walk::walk_flows` tells a fault with the row's flow and job. Assumes nothing.
use mathlib.Core.Path.{◌≡◌}
use Rattle.rules.specs.Faults.{refusal_at}
use Rattle.table_check.proofs.walk.fn.walk_flows.map_err.Given as goal

abbrev pub ensures : goal.ensures
ensures l r = r ≡ refusal_at l.fault l.r-flow l.r-job
