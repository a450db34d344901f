-- The next flow: what its turn promises of any rows is taken of the rows that stand so far.
use Rattle.std.proofs.Common.{arith}
use Rattle.book.proofs.Starts.{flows-few}
use Rattle.finish.specs.Flows.{NextPlaced}
use Rattle.finish.proofs.Flows.{moves-on-turn, stays_put-turn, finish-fits-turn}
use Rattle.finish.proofs.place_next.Goals as goal

pub returns-in_default : goal.returns-in_default
unfolding NextPlaced
returns-in_default c bytes so_far = stays_put-turn so_far (c.in_default.ensures.turn so_far.rows bytes so_far.stands)

pub overflow_add-result : goal.overflow_add-result
overflow_add-result c = omega (arith, c.requires.below, flows-few c.args.turns.now.book.now)

pub overflow_cast-result : goal.overflow_cast-result
overflow_cast-result c =
    let a = c.requires in
    omega (arith, finish-fits-turn a (c.in-Some.ensures.within a.rows a.bytes a.area_used a.within))

pub returns : goal.returns
unfolding NextPlaced
returns c bytes so_far = moves-on-turn so_far (c.in-Some.ensures.turn so_far.rows bytes so_far.stands).2
