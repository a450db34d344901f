-- A slot without use has no row, since each row has a processor; the cursors stand before the next slot as they are.
-- Assumes nothing.
use mathlib.Core.Path.{◌≡◌, sym, ap, ◌∙◌}
use Prim.Native.Nat.{◌*◌}
use Rattle.rules.specs.Fields.{field}
use Rattle.rules.specs.Book.{flow_count}
use Rattle.rules.specs.Rows.{used_in}
use Rattle.dispatch.specs.Merge.{book_beside, rows_of}
use Rattle.dispatch.proofs.Steps.{listed-none, pair-used, no-rows_in, cursors-pass}
use native.Mathlib.Omega.{arith}
use Rattle.dispatch.proofs.merge.list_used.Goals as goal

pub returns-then-read-eq0 : goal.returns-then-read-eq0
returns-then-read-eq0 c =
    let a = c.args in
    let t = a.table.now in
    let p = c.requires.0 in
    let e : 2 * c.from.result ≡ 2 * a.slot = ap (2 *◌) c.from.ensures in
    let unused : used_in (rows_of t) a.slot ≡ 0 =
    sym (pair-used _ _ t.accepted _ p.a_slot a.work.now c.requires.1) ∙ ap (field 2 a.work.now) (sym e) ∙ sym c.read.ensures ∙ (omega (arith, c.if-read-eq0.true)) in
    record {
      cursors_are = cursors-pass _ _ t.accepted _ p.a_slot unused _ p.cursors_are;
      listed = rw (no-rows_in _ _ t.accepted _ p.a_slot unused (flow_count (book_beside t))) (listed-none _ _);
    }
