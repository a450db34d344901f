-- `table_check::walk::finishes` meets its contract. The invariant: the finishes so far are those of the flows. Assumes
-- nothing.
use mathlib.Core.Path.{◌≡◌, sym, ◌∙◌}
use Prim.Native.Nat.{◌+◌, ◌<◌}
use native.Mathlib.Omega.{arith}
use lib.ListN.{length, get_or, length-set}
use lib.Seq.{ext_get_or}
use Rattle.std.proofs.lemmas.List.{length-map}
use Rattle.rules.proofs.Laws.Walks.{after-set}
use Rattle.table_check.specs.Walk.{finishes_of}
use Rattle.table_check.proofs.Finals.{finish_at}
use Rattle.table_check.proofs.walk.finishes.Goals as goal

pub loop-f-preserved : goal.loop-f-preserved
loop-f-preserved c =
    let l = c.loop-f in
    let ends = c.args.ends.now in
    let inside : l.f < length ends = omega (arith, c.loop-f-test.true, c.told-ends) in (
      length-set l.finishes l.f _ ∙ l.invariant.0,
      after-set (λ k v. k < l.f + 1 → v ≡ get_or (finishes_of ends) k 0) l.finishes l.f _ (omega (arith, l.invariant.0, c.loop-f-test.true))
          (λ h. sym (finish_at ends l.f _ inside)) (λ k other h. l.invariant.1 k (omega arith)),
    )

pub returns : goal.returns
returns c =
    let l = c.loop-f in
    ext_get_or 0 l.finishes (finishes_of c.args.ends.now) (l.invariant.0 ∙ sym (length-map c.args.ends.now _ ∙ c.told-ends))
    (λ k h. l.invariant.1 k (omega (arith, l.invariant.0, c.loop-f-test.false)))
