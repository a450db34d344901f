-- Where the cursor stands at another slot nothing is listed and it stays; otherwise the run that is copied is the
-- flow's rows in the slot, and the cursor goes behind it. Assumes nothing.
use mathlib.Core.Path.{◌≡◌, refl, ap, ◌∙◌}
use Prim.Native.Nat.{ℕ, ◌*◌}
use lib.ListN.{length, length-map, length-drop}
use Rattle.std.specs.Prelude.{Option, Some, map, unwrap_or}
use Rattle.rules.specs.Table.{row_bytes}
use Rattle.dispatch.specs.Runs.{due_at}
use Rattle.dispatch.specs.Merge.{rows_of}
use Rattle.dispatch.proofs.Runs.{rest_is}
use Rattle.dispatch.proofs.Tables.{run_asked, after_run, run-size}
use Rattle.dispatch.proofs.Steps.{cursor_stands, run-listed, kept_cursor, kept-listed}
use native.Mathlib.Omega.{arith}
use Rattle.dispatch.proofs.merge.list_flow.Goals as goal

pub returns-then-cursor-slot : goal.returns-then-cursor-slot
returns-then-cursor-slot c =
    let t = c.args.table.now in
    let k = c.args.cursor.now in
    let cursor = c.requires.cursor in
    let not-due : due_at (map row_bytes (rows_of t)) k.at k.flow ≡ Some c.args.slot → ⊥ =
    λ e. c.if-cursor-slot.true (cursor.due_is ∙ ap (λ (o : Option ℕ). unwrap_or o 65535) e) in
    record {
      flow_is = refl;
      cursor = record { stands = kept_cursor _ _ t.accepted _ _ _ cursor.stands not-due; due_is = cursor.due_is };
      listed = kept-listed _ _ t.accepted _ _ _ cursor.stands not-due _ _;
    }

pub copy_run-listed-requires : goal.copy_run-listed-requires
copy_run-listed-requires c =
    let a = c.args in
    let t = a.table.now in
    let long = ap length (rest_is a.out.now (6 * a.count)) ∙ length-drop (6 * a.count) a.out.now in
    rw t.rows_are (run_asked _ _ t.accepted _ _ _ c.requires.cursor.stands _ (omega (arith, c.requires.fits, long)))

pub overflow_add-at : goal.overflow_add-at
overflow_add-at c =
    let t = c.args.table.now in
    let behind = after_run _ _ t.accepted _ _ _ c.requires.cursor.stands _ (rw t.rows_are at c.copy_run-listed.ensures.run) in
    omega (arith, behind.within, ap length t.rows_are, length-map (rows_of t) row_bytes)

pub overflow_add-result : goal.overflow_add-result
overflow_add-result c =
    let t = c.args.table.now in
    omega (arith, run-size _ _ t.accepted _ _ _ c.requires.cursor.stands _ (rw t.rows_are at c.copy_run-listed.ensures.run), c.requires.fits)

pub set-requires : goal.set-requires
set-requires c =
    let t = c.args.table.now in
    let behind = after_run _ _ t.accepted _ _ _ c.requires.cursor.stands _ (rw t.rows_are at c.copy_run-listed.ensures.run) in
    omega (arith, behind.within, ap length t.rows_are, length-map (rows_of t) row_bytes)

pub returns : goal.returns
returns c =
    let t = c.args.table.now in
    let copied = rw t.rows_are at c.copy_run-listed.ensures in
    record {
      flow_is = c.set.ensures.flow_is;
      cursor = cursor_stands c.set.ensures (after_run _ _ t.accepted _ _ _ c.requires.cursor.stands _ copied.run);
      listed = run-listed _ _ t.accepted _ _ _ c.requires.cursor.stands _ _ _ _ copied;
    }
