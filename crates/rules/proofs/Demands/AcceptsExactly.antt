-- Demand 2, second half: the table check accepts exactly the tables of valid schedules within the slots.
-- A table that is accepted has the bytes that its rows give, and its rows are those of the schedule that they state, which is valid. The
-- other way, the table of a valid schedule reads back as its rows, and these pass. Assumes nothing.
use mathlib.Core.Path.{◌≡◌, refl, sym, ap, ◌∙◌, subst}
use Prim.Native.Nat.{ℕ, ◌≤◌}
use mathlib.Core.List.{List}
use native.Mathlib.Omega.{arith}
use lib.ListN.{length}
use borrow.Author.Tests.{le-ltb}
use Rattle.rules.specs.Verdicts.{Verdict, Pass, Refused}
use Rattle.rules.specs.Fields.{AllBytes}
use Rattle.rules.specs.Answers.{check_accepted}
use Rattle.rules.specs.Limits.{slots, work_bytes}
use Rattle.rules.specs.Book.{Book, InRange}
use Rattle.rules.specs.Reading.{read, read_book}
use Rattle.rules.specs.Rows.{Row, late_flows}
use Rattle.rules.specs.Table.{table_length, table_bytes}
use Rattle.rules.specs.Check.{table_rows, table_fault, check_outcome, check_reading, check_call}
use Rattle.rules.specs.Schedule.{Schedule, every_flow, Valid, InSlots, schedule_of, schedule_rows, schedule_table}
use Rattle.rules.specs.Demands.Check.{IsScheduleTable, AcceptsExactly}
use Rattle.rules.proofs.Reading.Caps.{used_in-range}
use Rattle.rules.proofs.Reading.Passing.{read_in-range}
use Rattle.rules.proofs.Rows.Rising.{◌∈◌}
use Rattle.rules.proofs.Rows.RowSums.{finish_least}
use Rattle.rules.proofs.Rows.ScheduleRows.{row_is-job, schedule-rows_in, schedule-rows-length}
use Rattle.rules.proofs.Tables.TableBytes.{RowFits, table-rows_written, head-written, finish-written, table-read}
use Rattle.rules.proofs.Tables.TablePasses.{RowsPass, table_passes, passes-table}
use Rattle.rules.proofs.Tables.AcceptedRows.{passing-rows, passing-valid, passing_in-slots, valid-passes}
use Rattle.rules.proofs.Calls.CallCases.{check_cases}
use Rattle.rules.proofs.Demands.Refusals.{Numbered, of_table, table_numbered}

-- ---- the table of a valid schedule passes
module _ (b : Book) (range : InRange b) (σ : Schedule) (valid : Valid b every_flow σ) (within : InSlots σ) where
  abbrev rows : List Row
  rows = schedule_rows b σ

  pub row_fits : (r : Row) → r ∈ rows → RowFits r
  row_fits r m =
      let o = schedule-rows_in b σ r m in
      let j = row_is-job b r o.is_row.in_book in
      let flow_in-range = used_in-range range r.flow j.flow_in_is in
      record {
        slot_fits = omega (arith, o.is_row.slot_in);
        flow_fits = omega (arith, j.flow_in_is, range.flows_most);
        job_fits = omega (arith, j.job_in, flow_in-range.jobs_most);
        processors_fit =
            omega (
              arith,
              o.given_there,
              valid.caps r.flow r.job r.slot j,
              (flow_in-range.each_job r.job j.job_in).cap_most,
              range.processors_most,
            );
      }

  pub schedule-table_rows : table_rows b (schedule_table b σ) ≡ rows
  unfolding schedule_table
  schedule-table_rows = table-rows_written b rows row_fits

  pub schedule-table-passes : table_fault b (schedule_table b σ) ≡ Pass
  unfolding schedule_table table_length
  schedule-table-passes =
      passes-table b (table_bytes b rows)
      (record {
        head_passes = head-written b rows range (omega (arith, schedule-rows-length b σ range, range.flows_most));
        rows_pass = subst (RowsPass b) (sym schedule-table_rows) (valid-passes b range σ valid within);
        finishes = λ f l.
            rw schedule-table_rows
            (finish-written b rows f l (omega (arith, finish_least rows f slots (λ r m e. (schedule-rows_in b σ r m).is_row.slot_in))));
      })

-- rows that are those of the valid schedule that they state, written as a table, have no fault: so it is with what the planner writes
pub rows-accepted : (b : Book) → InRange b → (rows : List Row) → rows ≡ schedule_rows b (schedule_of rows) → Valid b every_flow (schedule_of rows) →
    InSlots (schedule_of rows) → (table_fault b (table_bytes b rows) ≡ Pass) × (table_rows b (table_bytes b rows) ≡ rows)
unfolding schedule_table
rows-accepted b range rows same valid within = (
  subst (λ r. table_fault b (table_bytes b r) ≡ Pass) (sym same) (schedule-table-passes b range (schedule_of rows) valid within),
  subst (λ r. table_rows b (table_bytes b r) ≡ r) (sym same) (schedule-table_rows b range (schedule_of rows) valid within),
)

-- ---- an outcome that accepts
module _ (b : Book) (s area : List ℕ) where
  -- number 0 is that of a table without a fault
  outcome-accepts : (v : Verdict) → Numbered of_table v → (check_outcome b s area v).answer.number ≡ 0 → v ≡ Pass
  unfolding check_outcome
  outcome-accepts Pass h e = refl
  outcome-accepts (Refused n f j) h e = absurd (omega (arith, (h.among n f j refl).0))

  reading-accepts : (check_reading s area (read b)).answer.number ≡ 0 →
      (table_fault b s ≡ Pass) × (check_reading s area (read b) ≡ check_outcome b s area Pass) × (work_bytes ≤ length area)
  reading-accepts =
      check_cases b s area (λ o. o.answer.number ≡ 0 → (table_fault b s ≡ Pass) × (o ≡ check_outcome b s area Pass) × (work_bytes ≤ length area))
      (λ l e. absurd (omega arith))
      (λ l e. let pass = outcome-accepts (table_fault b s) (table_numbered b s) e in (pass, ap (check_outcome b s area) pass, l))

  passing-accepted : table_fault b s ≡ Pass → work_bytes ≤ length area → check_reading s area (read b) ≡ check_outcome b s area Pass
  unfolding check_reading
  passing-accepted pass long = rw (le-ltb (length area) work_bytes long, pass) refl

-- a call that answers 0 has a table without a fault, the outcome of such a table, and a work area that is long enough
pub call-accepts : (book calendar table area : List ℕ) (b : Book) → read_book book calendar ≡ read b → (check_call book calendar table area).answer.number ≡ 0 →
    (table_fault b table ≡ Pass) × (check_call book calendar table area ≡ check_outcome b table area Pass) × (work_bytes ≤ length area)
unfolding check_call
call-accepts book calendar table area b reads zero =
    let same = ap (check_reading table area) reads in
    let w = reading-accepts b table area (ap (λ o. o.answer.number) (sym same) ∙ zero) in
    (w.0, same ∙ w.1, w.2)

-- a table without a fault is that of the schedule that its rows state
pub faultless_is-schedule : (b : Book) → InRange b → (s : List ℕ) → AllBytes s → table_fault b s ≡ Pass → IsScheduleTable b s (late_flows b (table_rows b s))
unfolding schedule_table
faultless_is-schedule b range s bytes pass =
    let p = table_passes b s pass in
    let rows = table_rows b s in
    let same = passing-rows b range rows p.rows_pass in
    record {
      schedule = schedule_of rows;
      valid = passing-valid b range rows p.rows_pass;
      in_slots = passing_in-slots b range rows p.rows_pass;
      written = table-read b s bytes p.head_passes p.finishes ∙ ap (table_bytes b) same;
      late_flows_is = ap (late_flows b) same;
    }

pub accepts_exactly : AcceptsExactly
unfolding check_call check_outcome
accepts_exactly = record {
  only_schedules = λ book calendar table area b reads bytes zero.
      let w = call-accepts book calendar table area b reads zero in
      subst (IsScheduleTable b table) (sym (ap (λ o. o.answer.late) w.1))
      (faultless_is-schedule b (read_in-range book calendar b reads) table bytes w.0);
  area_used = λ book calendar table area b reads zero. ap (λ o. o.area) (call-accepts book calendar table area b reads zero).1;
  every_schedule = λ book calendar table area b late reads long is.
      let range = read_in-range book calendar b reads in
      let pass : table_fault b table ≡ Pass = rw is.written (schedule-table-passes b range is.schedule is.valid is.in_slots) in
      let rows : table_rows b table ≡ schedule_rows b is.schedule =
      rw is.written (schedule-table_rows b range is.schedule is.valid is.in_slots) in
      ap (λ r. (check_reading table area r).answer) reads ∙ ap (λ o. o.answer) (passing-accepted b table area pass long)
      ∙ ap check_accepted (ap (late_flows b) rows ∙ sym is.late_flows_is);
}
