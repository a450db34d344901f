-- Each arm is one case of the definition. Assumes nothing.
use mathlib.Core.Path.{sym, ap}
use Rattle.dispatch.specs.Merge.{halved}
use Rattle.dispatch.proofs.merge.halve.Goals as goal

pub returns-then-earlier : goal.returns-then-earlier
returns-then-earlier c = let a = c.args in ap (halved a.low a.high a.middle) (sym c.if-earlier.true)

pub returns : goal.returns
returns c = let a = c.args in ap (halved a.low a.high a.middle) (sym c.if-earlier.false)
