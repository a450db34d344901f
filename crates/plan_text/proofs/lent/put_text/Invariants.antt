-- The first n lines stand at the slice's start, and take at most 64 bytes each. Assumes nothing.
use Prim.Native.Nat.{◌*◌, ◌≤◌}
use mathlib.Core.Path.{◌≡◌}
use lib.ListN.{length}
use Rattle.plan_text.specs.Put.{TextPut, longest_line}
use Rattle.plan_text.specs.Lines.{first_lines}
use Rattle.plan_text.proofs.lent.put_text.Given as goal

abbrev pub invariant-loop-n : goal.invariant-loop-n
invariant-loop-n l =
    (l.at ≤ longest_line * l.n) × (length l.out ≡ length l.initial.out) × TextPut l.initial.out 0 (first_lines l.table l.answer l.n) l.out l.at
