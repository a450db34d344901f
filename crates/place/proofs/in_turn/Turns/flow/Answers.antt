-- The flow at a position of the order. Assumes nothing.
use mathlib.Core.Path.{◌∙◌}
use native.Mathlib.Omega.{arith}
use Rattle.place.proofs.TurnByTurn.{served_is, order-length, served-below}
use Rattle.place.proofs.in_turn.Turns.flow.Goals as goal

pub bounds-as_slice-k : goal.bounds-as_slice-k
bounds-as_slice-k c =
    let t = c.args.self.now in
    omega (arith, order-length t.book.now t.calendar.now _ (c.as_slice.ensures.value ∙ t.in_order), c.requires)

pub returns-clause-served : goal.returns-clause-served
returns-clause-served c =
    let t = c.args.self.now in
    served_is t.book.now t.calendar.now _ c.args.k (c.as_slice.ensures.value ∙ t.in_order)

pub returns-clause-within : goal.returns-clause-within
returns-clause-within c =
    let t = c.args.self.now in
    omega (arith, served_is t.book.now t.calendar.now _ c.args.k (c.as_slice.ensures.value ∙ t.in_order), served-below t.book.now t.calendar.now c.args.k c.requires)
