-- The next flow below a limit: what its placing promises of any rows is taken of those that stand so far, by the calendar
-- that the limit comes of.
use Rattle.std.proofs.Common.{arith, List, [], ℕ, ap, refl, ◌++◌}
use Rattle.std.specs.Prelude.{Some, None}
use Rattle.rules.specs.Book.{flow_count, with_calendar}
use Rattle.rules.specs.Reading.{book_of}
use Rattle.place.specs.Order.{shut_rows}
use Rattle.finish.specs.Flows.{FlowGoesOn}
use Rattle.finish.proofs.Flows.{flow_in, moves-on, stays_put}
use Rattle.finish.proofs.place_below.Goals as goal

pub place_flow-requires-clause-flow_in : goal.place_flow-requires-clause-flow_in
place_flow-requires-clause-flow_in c =
    omega (arith, flow_in c.requires, ap (λ (s : List ℕ). flow_count (book_of s)) c.in-Ok.ensures.same)

pub returns-in_default-place_flow : goal.returns-in_default-place_flow
unfolding FlowGoesOn
returns-in_default-place_flow c calendar range rule-6 bytes so_far =
    let b = with_calendar calendar (book_of c.args.book.now) in
    let placed = rw c.in-Ok.ensures.same at c.in_default-place_flow.ensures in
    stays_put c.requires range rule-6 so_far [] _ _ 0 None (placed (shut_rows b ++ so_far.rows) bytes so_far.stands.area_used so_far.stands.within) refl

pub returns : goal.returns
unfolding FlowGoesOn
returns c calendar range rule-6 bytes so_far =
    let b = with_calendar calendar (book_of c.args.book.now) in
    let placed = rw c.in-Ok.ensures.same at c.in-Some.ensures in
    moves-on c.requires range rule-6 so_far [] _ _ 0 (Some c.in-Some.placed)
    (placed (shut_rows b ++ so_far.rows) bytes so_far.stands.area_used so_far.stands.within) refl
