-- What is owed of the finish of one flow (02, Req 05). Assumes nothing.
use Rattle.std.specs.Prelude.{◌≡◌, ◌⊎◌, ℕ, ◌≤◌, ◌<◌, Bool, true, false, ◌||◌, List, length, eqb}
use Rattle.rules.specs.Verdicts.{Pass, Refused}
use Rattle.rules.specs.Answers.{none, finish_accepted, finish_refused}
use Rattle.rules.specs.Limits.{slots, work_bytes}
use Rattle.rules.specs.Calendar.{calendar_fault}
use Rattle.rules.specs.Book.{Book, flow_count}
use Rattle.rules.specs.Reading.{version_of, book_of, book_fault, read, read_book, book_bytes}
use Rattle.rules.specs.Service.{up_to}
use Rattle.rules.specs.Rows.{work_zero}
use Rattle.rules.specs.Placing.{rows_of, plan}
use Rattle.rules.specs.Table.{table_bytes, finish_in}
use Rattle.rules.specs.Planner.{PlanOutcome, plan_call}
use Rattle.rules.specs.Finish.{up_to_named, FinishOutcome, finish_call}
use Rattle.rules.specs.Cut.{among_first, cut, number_in_cut}
use Rattle.rules.specs.Demands.Refusals.{by_eleven}
use Rattle.rules.specs.Demands.Planner.{WithinTwice, NoneOnTime}

-- ---- the finish of one flow (02, Req 05)

-- "A fault found before or by 11", with 23 "after every check of the book and before 11"; "every count, length or finish returned with it is 0"
abbrev pub finish_by_eleven : ℕ → Bool
finish_by_eleven number = by_eleven number || eqb number 23

pub record FinishRefusal (area : List ℕ) (o : FinishOutcome) : Type 0 where
  pub finish_zero : o.answer.finish ≡ 0
  pub kept : finish_by_eleven o.answer.number ≡ true → o.area ≡ area
  pub zeroed : finish_by_eleven o.answer.number ≡ false → o.area ≡ work_zero slots area

-- what the planner leaves for "the book cut after that flow in service order"
abbrev pub plan_of_cut : List ℕ → List ℕ → Book → ℕ → List ℕ → List ℕ → PlanOutcome
plan_of_cut book calendar b f out area = plan_call (book_bytes (version_of book) (cut b (up_to_named b f))) calendar out area

-- number, finish and work area are those that the planner leaves for the cut book, in which flows have other numbers
pub record AsForCut (b : Book) (f : ℕ) (p : PlanOutcome) (o : FinishOutcome) : Type 0 where
  pub same_number : o.answer.number ≡ p.answer.number
  -- "the finish that the full table .. would show without the flows after it"
  pub same_finish : p.answer.number ≡ 0 → o.answer.finish ≡ finish_in p.output (number_in_cut b (up_to_named b f) f)
  -- "it is that 12", with the flow's number in the whole book: a flow that was kept, and the one refused in the cut book
  pub same_flow : p.answer.number ≡ 12 →
      (among_first b (up_to_named b f) o.answer.flow ≡ true) × (p.answer.flow ≡ number_in_cut b (up_to_named b f) o.answer.flow)
  -- "An accepted call returns number 0 and place 255, 255."; 12 with "that flow, 255"
  pub no_flow : p.answer.number ≡ 0 → o.answer.flow ≡ none
  pub no_job_is : o.answer.job ≡ none
  -- "The work area ends as it would for the book cut after that flow in service order."
  pub same_area : o.area ≡ p.area

-- 12 with flow g: g is the flow asked for or one before it, and no schedule of the flows up to g is on time
pub record RefusedFlow (b : Book) (f g : ℕ) : Type 0 where
  pub in_book : g < flow_count b
  pub up_to_named_is : up_to b f g ≡ true
  pub none_on_time : NoneOnTime b g

pub record Finishes : Type 0 where
  -- the numbers are 0 to 12 and 22 to 24
  pub numbers : (book calendar area : List ℕ) (f : ℕ) →
      ((finish_call book calendar f area).answer.number ≤ 12) ⊎ ((22 ≤ (finish_call book calendar f area).answer.number) × ((finish_call book calendar f area).answer.number ≤ 24))
  pub refusal : (book calendar area : List ℕ) (f : ℕ) → 0 < (finish_call book calendar f area).answer.number → FinishRefusal area (finish_call book calendar f area)
  -- "Check the book in full": what the planner refuses a book by
  pub book_first : (book calendar area : List ℕ) (f n g j : ℕ) → book_fault book ≡ Refused n g j →
      finish_call book calendar f area ≡ record { answer = finish_refused n g j; area = area }
  -- "23 when the flow number is not in the book, after every check of the book and before 11, with 255 and 255", and only then
  pub not_in_book : (book calendar area : List ℕ) (f : ℕ) → book_fault book ≡ Pass → flow_count (book_of book) ≤ f →
      finish_call book calendar f area ≡ record { answer = finish_refused 23 none none; area = area }
  pub only_23 : (book calendar area : List ℕ) (f : ℕ) → (finish_call book calendar f area).answer.number ≡ 23 → (book_fault book ≡ Pass) × (flow_count (book_of book) ≤ f)
  -- "24 .. after the book's checks and 23 and before 11" (02, Req 07)
  pub calendar_next : (book calendar area : List ℕ) (f n g j : ℕ) → book_fault book ≡ Pass → f < flow_count (book_of book) → calendar_fault calendar ≡ Refused n g j →
      finish_call book calendar f area ≡ record { answer = finish_refused n g j; area = area }
  -- then 11, and with a work area that is long enough 0 or 12
  pub area_short : (book calendar area : List ℕ) (f : ℕ) (b : Book) → read_book book calendar ≡ read b → f < flow_count b → length area < work_bytes →
      finish_call book calendar f area ≡ record { answer = finish_refused 11 none none; area = area }
  pub answers : (book calendar area : List ℕ) (f : ℕ) (b : Book) → read_book book calendar ≡ read b → f < flow_count b → work_bytes ≤ length area →
      ((finish_call book calendar f area).answer.number ≡ 0) ⊎ ((finish_call book calendar f area).answer.number ≡ 12)
  -- "The result is the finish that the full table shows": the table that the planner writes, or with 13 would write
  pub in_table : (book calendar area out other : List ℕ) (f : ℕ) (b : Book) → read_book book calendar ≡ read b → f < flow_count b → work_bytes ≤ length area →
      (plan_call book calendar out other).answer.number ≡ 0 → (finish_call book calendar f area).answer ≡ finish_accepted (finish_in (plan_call book calendar out other).output f)
  pub in_long_table : (book calendar area out other : List ℕ) (f : ℕ) (b : Book) → read_book book calendar ≡ read b → f < flow_count b → work_bytes ≤ length area →
      (plan_call book calendar out other).answer.number ≡ 13 → (finish_call book calendar f area).answer ≡ finish_accepted (finish_in (table_bytes b (rows_of (plan b))) f)
  -- as the planner on the cut book, where it is lent output enough
  pub as_for_cut : (book calendar area out : List ℕ) (f : ℕ) (b : Book) → read_book book calendar ≡ read b → f < flow_count b →
      ((plan_of_cut book calendar b f out area).answer.number ≡ 13 → ⊥) → AsForCut b f (plan_of_cut book calendar b f out area) (finish_call book calendar f area)
  -- "If that flow or one before it is infeasible, it is that 12": exactly where the cut book is infeasible, whatever output is lent
  pub infeasible_cut : (book calendar area out other : List ℕ) (f : ℕ) (b : Book) → read_book book calendar ≡ read b → f < flow_count b → work_bytes ≤ length other →
      (finish_call book calendar f area).answer.number ≡ 12 → (plan_of_cut book calendar b f out other).answer.number ≡ 12
  pub cut_infeasible : (book calendar area out other : List ℕ) (f : ℕ) (b : Book) → read_book book calendar ≡ read b → f < flow_count b → work_bytes ≤ length area →
      (plan_of_cut book calendar b f out other).answer.number ≡ 12 → (finish_call book calendar f area).answer.number ≡ 12
  pub refused_flow : (book calendar area : List ℕ) (f : ℕ) (b : Book) → read_book book calendar ≡ read b → (finish_call book calendar f area).answer.number ≡ 12 →
      RefusedFlow b f (finish_call book calendar f area).answer.flow
  -- "each ends within twice its deadline"
  pub within_twice : (book calendar area : List ℕ) (f : ℕ) (b : Book) → read_book book calendar ≡ read b → (finish_call book calendar f area).answer.number ≡ 0 →
      WithinTwice b f (finish_call book calendar f area).answer.finish
