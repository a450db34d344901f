-- The jobs from i on have their least start, and nothing else changes. Assumes nothing.
use Rattle.std.proofs.Common.{◌≡◌, map, length}
use Rattle.chain.specs.Alone.{starts_in, with_first}
use Rattle.chain.proofs.Leasts.{LeastsFrom}
use Rattle.chain.proofs.ideal.least_from.Given as goal

abbrev pub invariant-loop-i : goal.invariant-loop-i
invariant-loop-i l = record {
  kept : map (with_first 0) l.jobs ≡ map (with_first 0) l.initial.jobs;
  leasts : LeastsFrom (starts_in l.initial.jobs) (length l.initial.jobs) l.i l.least (map (λ j. j.first) l.initial.jobs) (map (λ j. j.first) l.jobs);
}
