-- A flow number below the flows of the book is one of its flows; pairs of deadline and number compare as the rule
-- does. Assumes nothing.
use Rattle.std.proofs.lemmas.Bool.Decides.{nat_tests}
use Rattle.rules.specs.Service.{served_before}
use Rattle.rules.specs.Book.{flow_count}
use Rattle.rules.specs.Reading.{book_of}
use Prim.Native.Nat.{◌<◌}
use borrow.Author.Tests.{lt-ltb}
use native.Mathlib.Omega.{arith}
use Rattle.dispatch.proofs.merge.is_before.Goals as goal

pub bounds-deadlines-g : goal.bounds-deadlines-g
bounds-deadlines-g c = omega (arith, c.flow_count.ensures.count, c.requires.0.enough)

pub bounds-deadlines-f : goal.bounds-deadlines-f
bounds-deadlines-f c = omega (arith, c.requires.0.enough)

pub returns-then-g-flow_count : goal.returns-then-g-flow_count
unfolding served_before
returns-then-g-flow_count c =
    let b = book_of c.args.table.now.book.now.bytes.now in
    let g = c.from-g.result in
    let here : g < flow_count b = omega (arith, c.flow_count.ensures.count) in
    let same = c.requires.0.same in
    rw (← c.from-g.ensures, lt-ltb g (flow_count b) here, c.lt.ensures, ← same g here, ← same c.args.f c.requires.1) (grind (arith, nat_tests))
