-- One pseudo-job, slot after slot. The invariant is `RunKept`, or `UsedKept` without rows, at the work done, which is
-- all without what is left. Assumes nothing.
use mathlib.Core.Path.{◌≡◌}
use mathlib.Core.Bool.{true, false}
use denote.Param.{number}
use Rattle.place.specs.contracts.in_service.Service.place_run.{LISTED-type}
use Prim.Native.Nat.{◌-◌, ◌≤◌, ◌<◌}
use Rattle.rules.specs.PseudoJobs.{work}
use Rattle.place.specs.Service.{current_flow, pseudo_job}
use Rattle.place.proofs.Runs.{RunKept, UsedKept}
use Rattle.place.proofs.in_service.Service.place_run.Given as goal

abbrev pub invariant-loop-slot : goal.invariant-loop-slot
invariant-loop-slot g l =
    record {
      listed : LISTED-type (number g.row.LISTED) ≡ true →
          RunKept l.self.book.now l.self.current l.from l.limit l.at l.initial.out l.initial.area l.out l.area (work (current_flow l.self.book.now l.self.current) (pseudo_job l.self.current) - l.left) l.slot l.next;
      unlisted : LISTED-type (number g.row.LISTED) ≡ false →
          UsedKept l.self.book.now l.self.current l.from l.limit l.initial.area l.area (work (current_flow l.self.book.now l.self.current) (pseudo_job l.self.current) - l.left) l.slot;
      some : 0 < l.left;
      within : l.left ≤ work (current_flow l.self.book.now l.self.current) (pseudo_job l.self.current);
    }

abbrev pub decreases-loop-slot : goal.decreases-loop-slot
decreases-loop-slot g l = l.limit - l.slot
