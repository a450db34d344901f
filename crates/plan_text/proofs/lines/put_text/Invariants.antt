-- The first n lines stand at the end of the text, and take at most 64 bytes each. Assumes nothing.
use Prim.Native.Nat.{◌+◌, ◌*◌, ◌≤◌}
use mathlib.Core.Path.{◌≡◌}
use mathlib.Core.List.{◌++◌}
use Rattle.arrayvec.specs.ArrayString.{array_string_len}
use Rattle.plan_text.specs.Put.{longest_line}
use Rattle.plan_text.specs.Lines.{first_lines}
use Rattle.plan_text.proofs.lines.put_text.Given as goal

abbrev pub invariant-loop-n : goal.invariant-loop-n
invariant-loop-n g l =
    (array_string_len l.text ≤ array_string_len l.initial.text + longest_line * l.n) ×
    (l.text.bytes ≡ l.initial.text.bytes ++ first_lines l.table l.answer l.n)
