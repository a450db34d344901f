-- The flow's position is found, the flows up to it are placed in a cleared area beside the maintenance, and what comes
-- of that tells the finish.
use Rattle.std.proofs.Common.{arith, sym, ap, ◌∙◌}
use Rattle.rules.specs.Book.{flow_count}
use Rattle.rules.specs.Reading.{book_of}
use Rattle.rules.proofs.Reading.Position.{position_below}
use Rattle.book.specs.declared.passing.Book.{Book}
use Rattle.book.proofs.Starts.{flows-few}
use Rattle.place.specs.Turns.{whole_book}
use Rattle.finish.proofs.Call.{cleared-holds, maintenance-over, leaves_placed, leaves_cleared, named-same, counted-same, leaves-same}
use Rattle.finish.proofs.finish_passing.Goals as goal

pub overflow_add-count : goal.overflow_add-count
overflow_add-count c =
    omega (arith, c.position-count.ensures, position_below (book_of c.args.book.now.bytes.now) c.args.flow c.requires.0, flows-few c.args.book.now)

pub place_up_to-finish-requires : goal.place_up_to-finish-requires
place_up_to-finish-requires c =
    let below = position_below (book_of c.args.book.now.bytes.now) c.args.flow c.requires.0 in
    let same = ap (λ (x : Book). flow_count (book_of x.bytes.now)) c.of-turns.ensures.book in
    record {
      within = omega (arith, c.position-count.ensures, below, same);
      area_whole = omega (arith, c.requires.1, c.clear.auto.work, c.shut.auto.area);
      none_yet = (c.shut.ensures (cleared-holds c.args.work.now c.clear.new.work c.clear.ensures)).1;
    }

pub returns-then-is_err : goal.returns-then-is_err
returns-then-is_err c =
    let a = c.args in
    let t = c.of-turns in
    let b = whole_book t.result.book.now t.result.calendar.now in
    let held = (c.shut.ensures (cleared-holds a.work.now c.clear.new.work c.clear.ensures)).0 in
    leaves-same t.result.book.now a.book.now t.result.calendar.now a.calendar.now t.ensures.book t.ensures.calendar a.flow a.work.now _ _
    (leaves_cleared b a.flow _ a.work.now _ _ _ (named-same _ _ _ _ t.ensures.book t.ensures.calendar a.flow c.requires.0)
    (counted-same _ _ _ _ t.ensures.book t.ensures.calendar a.flow c.position-count.result c.position-count.ensures)
    (maintenance-over b _ _ _ c.clear.ensures held) (c.open.ensures a.work.now)
    c.place_up_to-finish.result (sym c.is_err.ensures.value ∙ c.if-is_err.true) c.place_up_to-finish.ensures _ c.clear-then-is_err.ensures)

pub returns-else-is_err : goal.returns-else-is_err
returns-else-is_err c =
    let a = c.args in
    let t = c.of-turns in
    let b = whole_book t.result.book.now t.result.calendar.now in
    let held = (c.shut.ensures (cleared-holds a.work.now c.clear.new.work c.clear.ensures)).0 in
    leaves-same t.result.book.now a.book.now t.result.calendar.now a.calendar.now t.ensures.book t.ensures.calendar a.flow a.work.now _ _
    (leaves_placed b a.flow _ a.work.now _ _ _ (named-same _ _ _ _ t.ensures.book t.ensures.calendar a.flow c.requires.0)
    (counted-same _ _ _ _ t.ensures.book t.ensures.calendar a.flow c.position-count.result c.position-count.ensures)
    (maintenance-over b _ _ _ c.clear.ensures held) (c.open.ensures a.work.now)
    c.place_up_to-finish.result (sym c.is_err.ensures.value ∙ c.if-is_err.false) c.place_up_to-finish.ensures)
