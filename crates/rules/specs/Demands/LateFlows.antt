-- What it means that a flow is late (02, Req 06). Assumes nothing.
use Rattle.std.specs.Prelude.{◌≡◌, ℕ, ◌<◌, true, false, List}
use Rattle.rules.specs.Book.{Book, flow_count, flow_of}
use Rattle.rules.specs.Reading.{read, read_book}
use Rattle.rules.specs.Rows.{Row, finish_of, is_late}
use Rattle.rules.specs.Placing.{planned, plan}
use Rattle.rules.specs.Schedule.{Schedule, every_flow, Valid, EndsBy, InSlots, schedule_of, schedule_rows}

-- ---- the write-back slot (02, Req 06): "Results now go through the historian and reach the stands one slot after the flow's finish."

-- slot t is left for the write-back of flow f: it is after the flow's last used slot and before its deadline
pub record LeftForWriteBack (b : Book) (σ : Schedule) (f t : ℕ) : Type 0 where
  pub after_last_used : EndsBy σ f t
  pub before_deadline : t < (flow_of b f).deadline

-- what it means that flow f is late, or is not, with this finish in this schedule
pub record LateMeans (b : Book) (σ : Schedule) (f finish : ℕ) : Type 0 where
  -- it is late exactly when no slot is left for its write-back
  pub late_none_left : is_late (flow_of b f) finish ≡ true → (t : ℕ) → LeftForWriteBack b σ f t → ⊥
  pub none_left_late : ((t : ℕ) → LeftForWriteBack b σ f t → ⊥) → is_late (flow_of b f) finish ≡ true
  -- where it is not late, the slot after its last used one is left
  pub next_slot_left : is_late (flow_of b f) finish ≡ false → LeftForWriteBack b σ f finish
  -- with a deadline of 1 it is always late
  pub deadline_1_late : (flow_of b f).deadline ≡ 1 → is_late (flow_of b f) finish ≡ true

-- "in planner and check alike": of every plan, and of every valid schedule in a table's slots, whoever made it
pub record WriteBack : Type 0 where
  pub of_plans : (book calendar : List ℕ) (b : Book) → read_book book calendar ≡ read b → (rows : List Row) → plan b ≡ planned rows → (f : ℕ) → f < flow_count b →
      LateMeans b (schedule_of rows) f (finish_of rows f)
  pub of_schedules : (book calendar : List ℕ) (b : Book) → read_book book calendar ≡ read b → (σ : Schedule) → Valid b every_flow σ → InSlots σ → (f : ℕ) → f < flow_count b →
      LateMeans b σ f (finish_of (schedule_rows b σ) f)
