-- The maintenance taken out of the area. Assumes nothing.
use Rattle.place.proofs.TurnByTurn.{taken-out}
use Rattle.place.proofs.in_turn.Turns.open.Goals as goal

pub returns : goal.returns
returns c = taken-out c.args.self.now.book.now c.args.self.now.calendar.now c.set_shut.ensures
