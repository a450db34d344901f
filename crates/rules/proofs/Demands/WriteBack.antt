-- The write-back slot (02, Req 06): a flow is late exactly when no slot is left between its last used slot and its deadline, in every plan and in
-- every valid schedule. Its finish is the first slot from which on it has nothing, and every flow of a book has something. Assumes nothing.
use mathlib.Core.Path.{◌≡◌, refl, sym, ◌∙◌, subst}
use mathlib.Core.Logic.{◌⊎◌, inl, inr}
use mathlib.Core.Bool.{Bool, true, false}
use Prim.Native.Nat.{ℕ, ◌≤◌, ◌<◌}
use native.Mathlib.Omega.{arith}
use native.Mathlib.Numerals.{unary_clauses}
use mathlib.Core.List.{List}
use lib.Dec.{leb, leb-suc-suc}
use borrow.Author.Tests.{leb-true, leb-false, le-leb}
use Rattle.rules.specs.Book.{Flow, Book, flow_count, flow_of, InRange}
use Rattle.rules.specs.Rows.{Row, finish_of, is_late}
use Rattle.rules.specs.Schedule.{Schedule, every_flow, Valid, EndsBy, InSlots, schedule_of, schedule_rows}
use Rattle.rules.specs.Demands.LateFlows.{LeftForWriteBack, LateMeans, WriteBack}
use Rattle.rules.proofs.Reading.Caps.{used_in-range}
use Rattle.rules.proofs.Laws.Division.{lt-or_ge}
use Rattle.rules.proofs.Reading.Passing.{read_in-range}
use Rattle.rules.proofs.Laws.Sums.{sum-nothing}
use Rattle.rules.proofs.Rows.RowSums.{finish-ends, ends-finish}
use Rattle.rules.proofs.Rows.ScheduleRows.{schedule-rows_in, valid-within, schedule_of-rows}
use Rattle.rules.proofs.Placing.PlannedValid.{planned-valid, planned_in-slots}
use Rattle.rules.proofs.Placing.PlannedTable.{planned-rows_are-schedule_rows}

-- a flow of a book in range has something in every valid schedule: its first job has a size
flow_has_something : (b : Book) → InRange b → (σ : Schedule) → Valid b every_flow σ → (f : ℕ) → f < flow_count b → EndsBy σ f 0 → ⊥
unfolding EndsBy
flow_has_something b range σ v f l ends =
    let w = used_in-range range f l in
    omega (
      arith,
      (w.each_job 0 w.jobs_least).size_least,
      v.sizes f 0 (record { flow_among = refl; flow_in_is = l; job_in = w.jobs_least }),
      sum-nothing (σ f 0) v.horizon (λ t m. ends 0 t (omega arith)),
    )

-- by numbers: a flow is late exactly when its finish is not below its deadline
late-from-deadline : (w : Flow) (finish : ℕ) → is_late w finish ≡ leb w.deadline finish
unfolding is_late
late-from-deadline w finish = simp unary_clauses (leb-suc-suc w.deadline finish)

-- a finish above 0 that is the first slot by which the flow ends
module _ (b : Book) (σ : Schedule) (f finish : ℕ) (ends : (d : ℕ) → finish ≤ d → EndsBy σ f d) (least : (d : ℕ) → EndsBy σ f d → finish ≤ d)
    (above_0 : 0 < finish) where
  next-left : is_late (flow_of b f) finish ≡ false → LeftForWriteBack b σ f finish
  next-left e = record {
    after_last_used = ends finish (omega arith);
    before_deadline = leb-false (flow_of b f).deadline finish (sym (late-from-deadline (flow_of b f) finish) ∙ e);
  }

  late_means : LateMeans b σ f finish
  late_means = record {
    late_none_left = λ e t left.
        let past = leb-true (flow_of b f).deadline finish (sym (late-from-deadline (flow_of b f) finish) ∙ e) in
        omega (arith, past, least t left.after_last_used, left.before_deadline);
    none_left_late = λ none. go none (is_late (flow_of b f) finish) refl;
    next_slot_left = next-left;
    deadline_1_late = λ one. late-from-deadline (flow_of b f) finish ∙ le-leb (flow_of b f).deadline finish (omega arith);
  }
    where
      go : ((t : ℕ) → LeftForWriteBack b σ f t → ⊥) → (c : Bool) → is_late (flow_of b f) finish ≡ c → is_late (flow_of b f) finish ≡ true
      go none true e = e
      go none false e = absurd (none finish (next-left e))

-- the finish by a schedule's own rows
schedule-late_means : (b : Book) → InRange b → (σ : Schedule) → Valid b every_flow σ → InSlots σ → (f : ℕ) → f < flow_count b →
    LateMeans b σ f (finish_of (schedule_rows b σ) f)
unfolding EndsBy
schedule-late_means b range σ v s f l =
    late_means b σ f (finish_of rows f) ends (λ d h. ends-finish rows f d (λ r m. (schedule-rows_in b σ r m).is_row.takes) (λ i t m. same i t ∙ h i t m))
    (above_0 (lt-or_ge 0 (finish_of rows f)))
  where
    rows : List Row
    rows = schedule_rows b σ

    same : (i t : ℕ) → schedule_of rows f i t ≡ σ f i t
    same i t = schedule_of-rows b σ (valid-within b σ v s) f i t

    ends : (d : ℕ) → finish_of rows f ≤ d → EndsBy σ f d
    ends d h i t m = sym (same i t) ∙ finish-ends rows f d h i t m

    above_0 : (0 < finish_of rows f) ⊎ (finish_of rows f ≤ 0) → 0 < finish_of rows f
    above_0 (inl h) = h
    above_0 (inr h) = absurd (flow_has_something b range σ v f l (ends 0 h))

pub write_back : WriteBack
write_back = record {
  of_plans = λ book calendar b reads rows e f l.
      let range = read_in-range book calendar b reads in
      subst (λ r. LateMeans b (schedule_of rows) f (finish_of r f)) (sym (planned-rows_are-schedule_rows b range rows e))
      (schedule-late_means b range (schedule_of rows) (planned-valid b range rows e) (planned_in-slots b range rows e) f l);
  of_schedules = λ book calendar b reads. schedule-late_means b (read_in-range book calendar b reads);
}
