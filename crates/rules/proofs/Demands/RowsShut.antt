-- 25 (02, Req 07): it is said exactly where the first row with a fault passes 15 and uses a shut slot. A verdict of 25 on a table comes from its rows, since
-- head, totals and finishes have other numbers; of a row, from the second of its tests. Assumes nothing.
use mathlib.Core.Path.{◌≡◌, refl, sym, ap, ◌∙◌, ap₂}
use mathlib.Core.Logic.{⊎_elim}
use Prim.Native.Nat.{ℕ, ◌+◌, ◌-◌, ◌%◌}
use mathlib.Core.Bool.{Bool, true, false, not, true≢false, ◌||◌}
use mathlib.Core.List.{List}
use native.Mathlib.Omega.{arith}
use lib.ListN.{length, get_or, take}
use lib.Dec.{ltb, eqb}
use borrow.Author.Tests.{le-ltb}
use Rattle.rules.specs.Verdicts.{Verdict, Pass, Refused}
use Rattle.std.specs.Prelude.{if◌then◌else◌}
use Rattle.rules.specs.Fields.{byte, field}
use Rattle.rules.specs.Answers.{none, ◌and_then◌, check_refused, number_of}
use Rattle.rules.specs.Limits.{work_bytes}
use Rattle.rules.specs.Calendar.{is_open}
use Rattle.rules.specs.Book.{Book, flow_count, job_count, flow_of, job_of}
use Rattle.rules.specs.Reading.{read}
use Rattle.rules.specs.Rows.{Row, used_in, total_of, finish_of}
use Rattle.rules.specs.Table.{finish_in, table_head, row_length}
use Rattle.rules.specs.Check.{no_row, table_rows, table_head_fault, row_fault, total_fault, finish_fault, table_fault, check_outcome, check_reading, check_call, rises, lacks_predecessor, before_release}
use Rattle.rules.specs.Demands.Check.{row_in, PassesFifteen, ShutRow, RowsShut}
use Rattle.rules.proofs.Laws.Faults.{not-pass, then_met, fault_met, fault_stop, all_pass, test_skipped, hold_skipped, test-said}
use Rattle.rules.proofs.Tables.TablePasses.{in-book_of, shut_is_25, rows_fault, totals_fault, job_faults, finishes_fault}
use Rattle.rules.proofs.Calls.CallCases.{check_cases}

-- 16 to 19, the tests of a row after 25, have other numbers
after-said : (order cap used begun : Bool) (f j g i : ℕ) → (if order then Refused 16 f j else if cap then Refused 17 f j else if used then Refused 18 f j
    else if begun then Refused 19 f j else Pass) ≡ Refused 25 g i → ⊥
after-said true cap used begun f j g i e = omega (arith, ap number_of e)
after-said false true used begun f j g i e = omega (arith, ap number_of e)
after-said false false true begun f j g i e = omega (arith, ap number_of e)
after-said false false false true f j g i e = omega (arith, ap number_of e)
after-said false false false false f j g i e = omega (arith, ap number_of e)

module _ (b : Book) (opened : ℕ → Bool) (rows : List Row) (k f j : ℕ) where
  abbrev r : Row
  r = get_or rows k no_row

  row-said : row_fault b opened rows k ≡ Refused 25 f j → PassesFifteen b r × (opened r.slot ≡ false) × (r.flow ≡ f) × (r.job ≡ j)
  unfolding row_fault
  row-said e =
      let range = test_skipped _ 15 r.flow r.job _ 25 f j refl e in
      let w = test-said _ 25 r.flow r.job _ f j range.1
      (after-said (not (rises b rows k)) (ltb (job_of (flow_of b r.flow) r.job).cap r.processors)
      (ltb b.processors (used_in (take k rows) r.slot + r.processors)) (before_release b r || lacks_predecessor b (take k rows) r) r.flow r.job f j) in
      let inside = in-book_of b r range.0 in (
        record { slot_in = inside.0; flow_in_is = inside.1; job_in = inside.2; processors_some = inside.3 },
        not_true (opened r.slot) w.0,
        w.1,
        w.2,
      )
    where
      not_true : (c : Bool) → not c ≡ true → c ≡ false
      not_true true e = absurd (true≢false (sym e))
      not_true false e = refl

module _ (b : Book) (s : List ℕ) where
  -- the row that a verdict of 25 comes from
  table-said : (f j : ℕ) → table_fault b s ≡ Refused 25 f j → (k : ℕ) × ShutRow b s k × ((row_in b s k).flow ≡ f) × ((row_in b s k).job ≡ j)
  unfolding table_fault table_head_fault total_fault finish_fault
  table-said f j e =
      ⊎_elim of-head
      (λ p. ⊎_elim of_row (λ q. ⊎_elim of-totals (λ w. of-finishes w.1) (then_met (totals_fault b s) (finishes_fault b s) 25 f j q.1))
      (then_met (rows_fault b s) (totals_fault b s and_then finishes_fault b s) 25 f j p.1))
      (then_met (table_head_fault b s) (rows_fault b s and_then totals_fault b s and_then finishes_fault b s) 25 f j e)
    where
      Found : Type 0
      Found = (k : ℕ) × ShutRow b s k × ((row_in b s k).flow ≡ f) × ((row_in b s k).job ≡ j)

      of-head : table_head_fault b s ≡ Refused 25 f j → Found
      of-head p =
          not-pass 25 f j (sym (test_skipped (ltb (length s) (table_head b) || not (eqb (field 4 s 0) (length s)) || not (eqb (byte s 4) 1)
          || not (eqb (field 2 s 5) b.processors) || not (eqb (byte s 7) (flow_count b)) || not (eqb ((length s - table_head b) % row_length) 0))
          14 none none Pass 25 f j refl p).1)

      of_row : rows_fault b s ≡ Refused 25 f j → Found
      of_row p =
          let w = fault_met (row_fault b (is_open b.calendar) (table_rows b s)) (length (table_rows b s)) 25 f j p in
          let said = row-said b (is_open b.calendar) (table_rows b s) w.0 f j w.3 in
          (w.0, record { is_row = w.1; before_pass = w.2; passes_15 = said.0; shut = said.1 }, said.2, said.3)

      of-totals : totals_fault b s ≡ Refused 25 f j → Found
      of-totals p =
          let flow = fault_met (job_faults b s) (flow_count b) 25 f j p in
          let job = fault_met (total_fault b (table_rows b s) flow.0) (job_count (flow_of b flow.0)) 25 f j flow.3 in
          hold_skipped (eqb (total_of (table_rows b s) flow.0 job.0) (job_of (flow_of b flow.0) job.0).size) 20 flow.0 job.0 25 f j refl job.3

      of-finishes : finishes_fault b s ≡ Refused 25 f j → Found
      of-finishes p =
          let flow = fault_met (finish_fault s (table_rows b s)) (flow_count b) 25 f j p in
          hold_skipped (eqb (finish_in s flow.0) (finish_of (table_rows b s) flow.0)) 21 flow.0 none 25 f j refl flow.3

  -- the call
  call-said : (area : List ℕ) → (check_reading s area (read b)).answer.number ≡ 25 →
      (f : ℕ) × (j : ℕ) × (table_fault b s ≡ Refused 25 f j) × ((check_reading s area (read b)).answer ≡ check_refused 25 f j)
  unfolding check_outcome
  call-said area =
      check_cases b s area (λ o. o.answer.number ≡ 25 → (f : ℕ) × (j : ℕ) × (table_fault b s ≡ Refused 25 f j) × (o.answer ≡ check_refused 25 f j))
      (λ l z. absurd (omega arith)) (λ l. said (table_fault b s) refl)
    where
      said : (v : Verdict) → table_fault b s ≡ v → (check_outcome b s area v).answer.number ≡ 25 →
          (f : ℕ) × (j : ℕ) × (table_fault b s ≡ Refused 25 f j) × ((check_outcome b s area v).answer ≡ check_refused 25 f j)
      said Pass e z = absurd (omega arith)
      said (Refused n f j) e z = (f, j, e ∙ ap (λ m. Refused m f j) z, ap (λ m. check_refused m f j) z)

  -- the first row with a fault ends the walk
  shut-said : (k : ℕ) → table_head_fault b s ≡ Pass → ShutRow b s k → table_fault b s ≡ Refused 25 (row_in b s k).flow (row_in b s k).job
  unfolding table_fault
  shut-said k head row =
      let rows = table_rows b s in
      let opened = is_open b.calendar in
      let p = row.passes_15 in
      rw (
        head,
        fault_stop (row_fault b opened rows) (length rows) k (Refused 25 (row_in b s k).flow (row_in b s k).job) row.is_row (not-pass 25 _ _)
            (all_pass (row_fault b opened rows) k row.before_pass)
            (shut_is_25 b opened rows k p.slot_in p.flow_in_is p.job_in p.processors_some row.shut),
      ) refl

pub rows_shut : RowsShut
unfolding check_call check_reading check_outcome
rows_shut = record {
  only_shut = λ book calendar table area b reads z.
      let c = call-said b table area (ap (λ r. (check_reading table area r).answer.number) (sym reads) ∙ z) in
      let w = table-said b table c.0 c.1 c.2 in
      (w.0, w.1, ap (λ r. (check_reading table area r).answer) reads ∙ c.3 ∙ ap₂ (check_refused 25) (sym w.2) (sym w.3));
  every_shut = λ book calendar table area b k reads long head row.
      rw (reads, le-ltb (length area) work_bytes long, shut-said b table k head row) refl;
}
