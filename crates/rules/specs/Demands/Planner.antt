-- Demand 2 of the planner, and demand 3: what is written is the plan by the rules, planned flows are a valid schedule within twice their deadlines, and a
-- refusal proves that none is on time. Assumes nothing.
use Rattle.std.specs.Prelude.{◌≡◌, ◌⊎◌, ℕ, ◌≤◌, ◌<◌, true, List, ◌++◌, length, drop}
use Rattle.rules.specs.Answers.{none, plan_accepted, plan_refused}
use Rattle.rules.specs.Limits.{work_bytes, slots}
use Rattle.rules.specs.Calendar.{open_before}
use Rattle.rules.specs.Book.{Book, flow_count, flow_of, twice_deadline}
use Rattle.rules.specs.Reading.{version_of, read, read_book, book_bytes}
use Rattle.rules.specs.Service.{up_to}
use Rattle.rules.specs.Rows.{Row, finish_of, late_flows, work_used}
use Rattle.rules.specs.Placing.{planned, rows_of, plan, infeasible}
use Rattle.rules.specs.Table.{table_length, table_bytes}
use Rattle.rules.specs.Planner.{PlanOutcome, plan_call}
use Rattle.rules.specs.Schedule.{Schedule, every_flow, Valid, EndsBy, InSlots, schedule_of}
use Rattle.rules.specs.Cut.{cut}

-- ---- demand 2, first half: "The planner's table, its finishes and its count of late flows are those that the deadline-greedy rule on chains
-- of pseudo-jobs gives, row for row."

-- the outcome with the rows that the rules give; the finishes stand in the table
pub record WritesPlan (b : Book) (out area : List ℕ) (o : PlanOutcome) : Type 0 where
  pub all_placed : plan b ≡ planned (rows_of (plan b))
  -- "An accepted call returns number 0 and place 255, 255."
  pub no_place : (o.answer.flow ≡ none) × (o.answer.job ≡ none)
  pub table : o.output ≡ table_bytes b (rows_of (plan b)) ++ drop (table_length b (rows_of (plan b))) out
  pub late_flows_is : o.answer.late ≡ late_flows b (rows_of (plan b))
  pub table_length_is : o.answer.length ≡ table_length b (rows_of (plan b))
  -- "After acceptance each pair holds the processors in use in that slot." "Bytes past 16,384 are untouched."
  pub work_area : o.area ≡ work_used slots (rows_of (plan b)) area

unfoldable pub PlansByTheRules : Type 0
PlansByTheRules =
    (book calendar out area : List ℕ) (b : Book) → read_book book calendar ≡ read b → (plan_call book calendar out area).answer.number ≡ 0 →
    WritesPlan b out area (plan_call book calendar out area)

-- "The planner goes on with 12, 13.": which number it is, where the book passes and the work area is long enough
pub record PlanNumbers : Type 0 where
  -- "infeasible by rule 6", and only then
  pub infeasible_12 : (book calendar out area : List ℕ) (b : Book) → read_book book calendar ≡ read b → work_bytes ≤ length area → (f : ℕ) → plan b ≡ infeasible f →
      (plan_call book calendar out area).answer ≡ plan_refused 12 f none
  -- "table longer than the lent output"
  pub longer_13 : (book calendar out area : List ℕ) (b : Book) → read_book book calendar ≡ read b → work_bytes ≤ length area → (rows : List Row) →
      plan b ≡ planned rows → length out < table_length b rows → (plan_call book calendar out area).answer ≡ plan_refused 13 none none
  -- otherwise it is accepted
  pub fits_0 : (book calendar out area : List ℕ) (b : Book) → read_book book calendar ≡ read b → work_bytes ≤ length area → (rows : List Row) →
      plan b ≡ planned rows → table_length b rows ≤ length out → (plan_call book calendar out area).answer ≡ plan_accepted (late_flows b rows) (table_length b rows)

-- ---- demand 3: "Whatever book passes its checks, at whatever point in the deadline order it is cut, and whatever output and work area the
-- planner is lent, this holds."

-- a flow with this finish "ends within twice its deadline": "Wherever a flow's end is held against twice its deadline, it is the open slots before its
-- finish that are counted" (02, Req 07)
abbrev pub WithinTwice : Book → ℕ → ℕ → Type 0
WithinTwice b f finish = open_before b.calendar finish ≤ twice_deadline b (flow_of b f)

-- "their rows are a valid schedule of them, which keeps to precedence, caps and the processor count in every slot, and each ends within
-- twice its deadline"
pub record PlannedWell (b : Book) (rows : List Row) : Type 0 where
  pub valid : Valid b every_flow (schedule_of rows)
  -- "A flow's finish is its last used slot plus 1 in any schedule.": the flow ends by it, and by no earlier slot
  pub ends : (f : ℕ) → f < flow_count b → EndsBy (schedule_of rows) f (finish_of rows f)
  pub finish_least : (f d : ℕ) → f < flow_count b → EndsBy (schedule_of rows) f d → finish_of rows f ≤ d
  pub within_twice : (f : ℕ) → f < flow_count b → WithinTwice b f (finish_of rows f)
  -- no plan needs a slot above 8,191, whatever the calendar (02, Req 07)
  pub in_slots : InSlots (schedule_of rows)

-- "no whole-slot schedule of that flow and those before it, whoever made it, keeps the same rules and ends each of them by its own deadline";
-- "a refusal that means no schedule beginning at the releases could be on time" (02, Req 01); "On-time schedules in the claim about refusals use open
-- slots only" (02, Req 07): a valid schedule begins at the releases and uses open slots only
unfoldable pub NoneOnTime : Book → ℕ → Type 0
NoneOnTime b f =
    (σ : Schedule) → Valid b (up_to b f) σ → ((g : ℕ) → g < flow_count b → up_to b f g ≡ true → EndsBy σ g (flow_of b g).deadline) → ⊥

-- what is owed of the planner's outcome for a book and an output
pub record PlannerOwes (b : Book) (out : List ℕ) (o : PlanOutcome) : Type 0 where
  -- "Where the work area is long enough the answer is 0, 12 or 13."
  pub answers : (o.answer.number ≡ 0) ⊎ ((o.answer.number ≡ 12) ⊎ (o.answer.number ≡ 13))
  -- "Its flows are planned when the answer is 0 or 13: their rows are those that rules 1 to 5 give"
  pub planned_0 : o.answer.number ≡ 0 → PlannedWell b (rows_of (plan b))
  pub planned_13 : o.answer.number ≡ 13 → PlannedWell b (rows_of (plan b))
  -- "with 0 they stand in the written table"
  pub written : o.answer.number ≡ 0 → o.output ≡ table_bytes b (rows_of (plan b)) ++ drop (table_length b (rows_of (plan b))) out
  -- "with 13 nothing is written, because their table is longer than the lent output"
  pub too_long : o.answer.number ≡ 13 → (length out < table_length b (rows_of (plan b))) × (o.output ≡ out)
  -- "One is refused as infeasible when the answer is 12: it is the flow named"
  pub infeasible_flow : o.answer.number ≡ 12 → (o.answer.flow < flow_count b) × NoneOnTime b o.answer.flow
  -- 12 with "that flow, 255", 13 with "255, 255"
  pub place_12 : o.answer.number ≡ 12 → o.answer.job ≡ none
  pub place_13 : o.answer.number ≡ 13 → (o.answer.flow ≡ none) × (o.answer.job ≡ none)

-- "Cut after its first k flows in service order .. it .. is a book of its own. The planner is given that book." It keeps its version, and
-- with its flows their releases (02, Req 01); "a book that is cut keeps its calendar" (02, Req 07).
unfoldable pub Demand3 : Type 0
Demand3 =
    (book calendar : List ℕ) (b : Book) → read_book book calendar ≡ read b → (k : ℕ) → k ≤ flow_count b → (out area : List ℕ) → work_bytes ≤ length area →
    PlannerOwes (cut b k) out (plan_call (book_bytes (version_of book) (cut b k)) calendar out area)

-- the same of the caller's own bytes, whichever version they have; their values are those of the book cut after all its flows
pub record OfWholeBook : Type 0 where
  pub cut_after_all : (b : Book) → cut b (flow_count b) ≡ b
  pub owes : (book calendar : List ℕ) (b : Book) → read_book book calendar ≡ read b → (out area : List ℕ) → work_bytes ≤ length area →
      PlannerOwes b out (plan_call book calendar out area)
