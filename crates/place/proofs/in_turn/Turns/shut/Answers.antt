-- The maintenance put into the area. Assumes nothing.
use Rattle.place.proofs.TurnByTurn.{shut-held}
use Rattle.place.proofs.in_turn.Turns.shut.Goals as goal

pub returns : goal.returns
returns c = λ none.
    let t = c.args.self.now in
    shut-held t.book.now t.calendar.now none (rw t.book.now.processors_are at c.set_shut.ensures)
