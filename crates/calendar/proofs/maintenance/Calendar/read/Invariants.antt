-- The invariant: the windows before this one are read and keep their rules, and `free` is the first slot at which this
-- one may begin.
use Rattle.std.proofs.Common.{◌≡◌, false, length, take}
use Rattle.rules.specs.Walks.{any_to}
use Rattle.rules.specs.Calendar.{window_fault}
use Rattle.calendar.specs.Windows.{windows_in}
use Rattle.calendar.proofs.Verdicts.{first_free}
use Rattle.calendar.proofs.Read.{windows_to}
use Rattle.calendar.proofs.maintenance.Calendar.read.Given as goal

abbrev pub invariant-loop-k : goal.invariant-loop-k
invariant-loop-k l = record {
  room : length l.windows ≡ 32;
  none : any_to (window_fault l.bytes) l.k ≡ false;
  read : windows_in (take l.k l.windows) ≡ windows_to l.bytes l.k;
  free : l.free ≡ first_free l.bytes l.k;
}
