-- The units of the pseudo-job in service, as the code holds it: all of them, and the rows of a slot that gives some.
-- Assumes nothing.
use Rattle.std.specs.Prelude.{ℕ, List}
use Rattle.rules.specs.PseudoJobs.{work}
use Rattle.rules.specs.Rows.{Row}
use Rattle.place.specs.declared.in_service.Service.{Service}
use Rattle.place.specs.Service.{current_flow, pseudo_job, job_rows}

-- its work
abbrev pub all_units : Service → ℕ
all_units x = work (current_flow x.book.now x.current) (pseudo_job x.current)

-- the rows of a slot that gives n units after the first `done`
abbrev pub units_rows : Service → ℕ → ℕ → ℕ → List Row
units_rows x slot done n = job_rows (current_flow x.book.now x.current) x.current.flow slot (pseudo_job x.current) done n
