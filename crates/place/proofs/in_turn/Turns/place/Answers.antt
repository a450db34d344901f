-- The flow at a position, placed up to its limit. Assumes nothing.
use mathlib.Core.Path.{◌≡◌, ◌∙◌}
use native.Mathlib.Omega.{arith}
use denote.Param.{number}
use Rattle.rules.specs.Reading.{book_of}
use Rattle.rules.proofs.Reading.Passing.{calendar_of_book}
use Rattle.rules.specs.Service.{served_at}
use Rattle.place.specs.Turns.{whole_book}
use Rattle.calendar.specs.Held.{held_windows}
use Rattle.calendar.proofs.Windows.{in-range}
use Rattle.place.specs.contracts.in_turn.Turns.place.{LISTED-type}
use Rattle.place.proofs.Maintenance.{limit_is}
use Rattle.place.proofs.TurnByTurn.{deadline-within, turn-goes, finish-in}
use Rattle.place.proofs.in_turn.Turns.place.Goals as goal

pub limit_of-limit-requires : goal.limit_of-limit-requires
limit_of-limit-requires g c =
    omega (arith, c.head.ensures.deadline, deadline-within c.args.self.now.book.now c.args.self.now.calendar.now c.from-f.result (omega arith))

pub returns-clause-turn : goal.returns-clause-turn
returns-clause-turn g c rows bytes stands =
    let t = c.args.self.now in
    let s = t.book.now.bytes.now in
    let q : c.from-f.result ≡ served_at (whole_book t.book.now t.calendar.now) c.args.k = c.from-f.ensures ∙ c.flow.ensures.served in
    let limit = limit_is (held_windows t.calendar.now) (book_of s) (in-range t.calendar.now) (calendar_of_book s) c.from-f.result _ _ c.head.ensures.deadline
    c.limit_of-limit.ensures.0 in
    turn-goes t.book.now t.calendar.now (LISTED-type (number g.row.LISTED)) c.args.k c.limit_of-limit.result stands c.requires.turn_in (rw q at limit)
    c.limit_of-limit.ensures.1 _ _ _ _ c.place_flow.result (rw q at (c.place_flow.ensures _ bytes stands.area_used stands.within))

pub returns-clause-within : goal.returns-clause-within
returns-clause-within g c rows bytes holds within =
    finish-in (LISTED-type (number g.row.LISTED)) _ _ _ _ _ _ _ _ _ c.place_flow.result c.limit_of-limit.ensures.1 (c.place_flow.ensures rows bytes holds within)
