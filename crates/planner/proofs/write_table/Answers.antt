-- 13 by the test of the length; otherwise rows, finishes and head, in turn, are the table. Assumes nothing.
use mathlib.Core.Path.{ap, ◌∙◌}
use Prim.Native.Nat.{◌≤◌}
use native.Mathlib.Omega.{arith}
use lib.ListN.{length, length-take}
use lib.Seq.{sets}
use Rattle.planner.proofs.Assembly.{finishes-taken}
use Rattle.planner.proofs.Outcome.{head-within, leaves-longer, leaves-written, late-planned, not-refused}
use Rattle.planner.proofs.write_table.Goals as goal

pub returns-then-output-size : goal.returns-then-output-size
returns-then-output-size c = rw c.nowhere.ensures (leaves-longer c.requires.1 c.requires.2 c.if-output-size.true)

pub returns-in_err-whole : goal.returns-in_err-whole
returns-in_err-whole c = not-refused c.requires.1 c.requires.2 c.flow_count-flows.ensures.count c.in_err-whole.ensures

pub put_finishes-requires : goal.put_finishes-requires
put_finishes-requires c =
    let few : c.flow_count-flows.result ≤ length c.in_ok-whole.whole.finishes = omega (arith, c.flow_count-flows.ensures.few) in
    simp length-take
    (omega (arith, c.flow_count-flows.ensures.few), omega (arith, head-within c.requires.2 c.flow_count-flows.ensures.count))

pub put_head-requires : goal.put_head-requires
put_head-requires c = omega (arith, head-within c.requires.2 c.flow_count-flows.ensures.count)

pub returns : goal.returns
returns c =
    let n = c.flow_count-flows.result in
    let finishes = c.in_ok-whole.whole.finishes in
    let few : n ≤ length finishes = omega (arith, c.flow_count-flows.ensures.few) in
    rw c.accepted.ensures
    (leaves-written c.requires.1 c.requires.2 c.flow_count-flows.ensures.count _ _ _ _ _ _ _ c.if-output-size.false c.in_ok-whole.ensures
    (c.put_finishes.ensures ∙ ap (sets c.place_first.new.out 8) (finishes-taken finishes n few)) c.args.turns.now.book.now.processors_are
    c.put_head.ensures (λ rows e. c.late_flows-late.ensures ∙ late-planned _ _ finishes rows e))
