-- `table_check::walk::walk_rows` meets its contract. The invariant of the loop over rows: the rows so far pass, those
-- since `from` are the flow's, and totals, completeness and work area are theirs (`Going`); of the loop over
-- predecessors: the row is released, and none so far is lacking (`Asking`). The measures are the bytes of the table
-- that are left, and the bits that are left. Assumes nothing.
use mathlib.Core.Path.{refl, ◌∙◌, sym}
use native.Mathlib.Omega.{arith}
use Rattle.table_check.proofs.Turns.{going-first, test_refused, turn_of}
use Rattle.table_check.proofs.Jobs.{held_count, held_amounts}
use Rattle.table_check.proofs.TableRows.{row_inside, more_rows}
use Rattle.table_check.proofs.Counting.{job_in, countable, asked_here, bits_here, unreleased_stops, is-released, cleared-next, going_next}
use Rattle.table_check.proofs.Asking.{asking-first, asks-few, asks-in, asking-next, asking_stops, asking-ends}
use Rattle.table_check.proofs.Leaving.{walk_stops, walk_ends, walk_turns}
use Rattle.table_check.proofs.walk.walk_rows.Goals as goal

pub rows-init : goal.rows-init
rows-init c = let p = c.requires in (going-first c.args.current.now.book.now.passes c.args.current.now.inside p.0 p.1 (omega (arith, c.well_formed.1.0)), refl)

pub read-r-requires : goal.read-r-requires
read-r-requires c = let g = c.rows.invariant.0 in row_inside g.headed g.reached c.if-current-at.false

pub test_row-requires : goal.test_row-requires
test_row-requires c = let g = c.rows.invariant.0 in (held_amounts g.held, g.room)

pub bounds-jobs-from : goal.bounds-jobs-from
bounds-jobs-from c =
    let g = c.rows.invariant.0 in
    let turn = turn_of g c.if-current-at.false c.read-r.result c.read-r.ensures (sym c.from.ensures ∙ c.if-from-current.false) c.test_row.ensures c.in-Ok.is in
    omega (arith, job_in g turn, held_count g.held, c.from-in-rows.ensures)

pub loop-bits-init : goal.loop-bits-init
loop-bits-init c =
    let g = c.rows.invariant.0 in
    let here = c.if-current-at.false in
    let turn = turn_of g here c.read-r.result c.read-r.ensures (sym c.from.ensures ∙ c.if-from-current.false) c.test_row.ensures c.in-Ok.is in
    let asked = c.predecessors_due-asks.ensures in
    asking-first g turn here
    (is-released g turn (asked_here g turn c.from-in-rows.ensures c.args.current.now.head_is.release (sym asked.unreleased ∙ c.if-asks.false)))
    (bits_here g turn c.from-in-rows.ensures asked.bits)

pub offset_bounds-jobs-k : goal.offset_bounds-jobs-k
offset_bounds-jobs-k c = omega (arith, asks-few c.loop-bits.invariant c.loop-bits-test.true)

pub bounds-jobs-k : goal.bounds-jobs-k
bounds-jobs-k c = asks-in c.loop-bits.invariant c.loop-bits-test.true

pub overflow_add-k : goal.overflow_add-k
overflow_add-k c = omega (arith, asks-few c.loop-bits.invariant c.loop-bits-test.true)

pub loop-bits-preserved : goal.loop-bits-preserved
loop-bits-preserved c = asking-next c.loop-bits.invariant c.loop-bits-test.true c.lacks.ensures c.if-lacks.false

pub count_row-requires : goal.count_row-requires
count_row-requires c = let a = c.loop-bits.invariant in countable a.going a.turn

pub rows-preserved : goal.rows-preserved
rows-preserved c =
    let a = c.loop-bits.invariant in
    let none = asking-ends a c.loop-bits-test.false in
    let counted = c.count_row.ensures in
    (going_next a.going a.turn a.released none counted c.rank_of-least.ensures.0, cleared-next a.going a.turn a.released none counted _ c.rows.invariant.1)

pub returns-then-current-at : goal.returns-then-current-at
returns-then-current-at c = walk_ends c.rows.invariant.0 c.rows.invariant.1 c.if-current-at.true

pub returns-then-from-current : goal.returns-then-from-current
returns-then-from-current c =
    walk_turns c.rows.invariant.0 c.rows.invariant.1 c.if-current-at.false c.read-r.result c.read-r.ensures (λ e. c.if-from-current.true (c.from.ensures ∙ e))

pub returns-in-Err : goal.returns-in-Err
returns-in-Err c =
    let g = c.rows.invariant.0 in
    let here = c.if-current-at.false in
    rw c.at.ensures
    (walk_stops g c.rows.invariant.1 (more_rows g.headed g.reached here)
    (test_refused g here c.read-r.result c.read-r.ensures (sym c.from.ensures ∙ c.if-from-current.false) c.test_row.ensures c.in-Err.is))

pub returns-then-asks : goal.returns-then-asks
returns-then-asks c =
    let g = c.rows.invariant.0 in
    let turn = turn_of g c.if-current-at.false c.read-r.result c.read-r.ensures (sym c.from.ensures ∙ c.if-from-current.false) c.test_row.ensures c.in-Ok.is in
    rw c.at-then-asks.ensures
    (walk_stops g c.rows.invariant.1 turn.more
    (unreleased_stops g turn
    (asked_here g turn c.from-in-rows.ensures c.args.current.now.head_is.release (sym c.predecessors_due-asks.ensures.unreleased ∙ c.if-asks.true))))

pub returns-then-lacks : goal.returns-then-lacks
returns-then-lacks c =
    let a = c.loop-bits.invariant in
    rw c.at-then-lacks.ensures
    (walk_stops a.going c.rows.invariant.1 a.turn.more (asking_stops a c.loop-bits-test.true c.lacks.ensures c.if-lacks.true))
