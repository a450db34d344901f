-- An error is turned down by its number, at its place. Assumes nothing.
use Rattle.planner.proofs.plan_book.Goals as goal

pub returns-in-Err : goal.returns-in-Err
returns-in-Err c = rw c.into.ensures c.in-Err.ensures
