-- Three stores, one after the other, are those of the head. Assumes nothing.
use mathlib.Core.Path.{ap, ◌∙◌}
use Prim.Native.Nat.{ℕ}
use mathlib.Core.List.{List}
use lib.ListN.{set, length-set}
use lib.Seq.{sets}
use Rattle.rules.specs.Fields.{bytes_of}
use Rattle.dispatch.proofs.Calls.{head_stores}
use native.Mathlib.Omega.{arith}
use Rattle.dispatch.proofs.put_head.Goals as goal

pub write-requires-2 : goal.write-requires-2
write-requires-2 c = simp length-set (omega arith)

pub returns : goal.returns
returns c =
    let a = c.args in
    c.write-2.ensures
    ∙ ap (λ (s : List ℕ). sets (set s 4 1) 5 (bytes_of 2 a.processors)) c.write.ensures
    ∙ head_stores a.out.now a.size a.processors
