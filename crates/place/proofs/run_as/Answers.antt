-- One pseudo-job with its rows, which are packed first, or without, where no output is lent. Assumes nothing.
use Prim.Native.Nat.{◌≤◌}
use native.Mathlib.Omega.{arith}
use denote.Param.{number}
use lib.ListN.{length, length-take}
use Rattle.std.proofs.lemmas.List.{length-map}
use Rattle.place.specs.contracts.run_as.{LISTED-type}
use Rattle.place.proofs.Output.{no_bytes}
use Rattle.place.proofs.Serving.{flow-within, parts-fit}
use Rattle.place.proofs.Runs.{run-goes}
use Rattle.place.proofs.run_as.Goals as goal
use Rattle.place.proofs.run_as.Goals.{then-this-ne0, else-this-ne0}

pub overflow_cast-current : goal.overflow_cast-current
overflow_cast-current g c = omega (arith, flow-within c.requires.0.in_service)

pub pack_parts-requires : goal.pack_parts-requires
pack_parts-requires g c =
    let few : c.if-this-ne0.packed ≤ length c.args.parts.now =
    elim c.if-this-ne0.branch [ then-this-ne0 w ↦ omega (arith, w.packed-is) | else-this-ne0 w ↦ omega (arith, w.packed-is) ] in
    (rw length-take (omega arith), λ q l. parts-fit c.requires.0 q (rw (length-map c.args.parts.now (λ p. p.job)) l))

pub returns : goal.returns
returns g c =
    let v = c.requires in
    run-goes _ _ _ _ _ _ _ _ _ (LISTED-type (number g.row.LISTED)) c.place_run.result c.place_run.ensures.listed c.place_run.ensures.unlisted
    (λ t. no_bytes _ (v.5.nothing_lent t)) (λ t. no_bytes _ (omega (arith, v.5.nothing_lent t)))
