-- Each slot's pair is written, and no other.
use Rattle.std.proofs.Common.{arith, ◌≡◌, ℕ, ◌*◌, ap, subst, ◌∙◌}
use lib.Seq.{sets}
use Rattle.rules.specs.Fields.{bytes_of}
use Rattle.rules.specs.Limits.{slots}
use Rattle.calendar.proofs.Area.{WindowTo, window-none, window-next}
use Rattle.calendar.proofs.maintenance.Window.set.Goals as goal

pub loop-slot-init : goal.loop-slot-init
loop-slot-init c = let a = c.args in window-none slots a.value a.work.now a.self.shut

pub loop-slot-preserved : goal.loop-slot-preserved
loop-slot-preserved c =
    let a = c.args in
    let l = c.loop-slot in
    let stored = c.write.ensures ∙ ap (λ (n : ℕ). sets l.work (2 * n) (bytes_of 2 a.value)) c.from.ensures in
    let next = window-next slots a.value a.work.now a.self.shut l.slot l.work l.auto.slot (omega arith) l.invariant in
    λ used bytes e. stored ∙ next used bytes e

pub returns : goal.returns
returns c =
    let a = c.args in
    let l = c.loop-slot in
    let e : l.slot ≡ a.self.reopening = omega arith in
    subst (λ (n : ℕ). WindowTo slots a.value a.work.now a.self.shut n l.work) e l.invariant
