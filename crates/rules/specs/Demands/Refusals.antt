-- Demand 1: refusals, by number and place, and what they leave. Assumes nothing.
use Rattle.std.specs.Prelude.{◌≡◌, ◌⊎◌, ℕ, ◌≤◌, ◌<◌, Bool, true, false, ◌||◌, List, length, leb, eqb}
use Rattle.rules.specs.Verdicts.{Verdict}
use Rattle.rules.specs.declared.PlanAnswer.{PlanAnswer}
use Rattle.rules.specs.declared.CheckAnswer.{CheckAnswer}
use Rattle.rules.specs.Answers.{number_of, verdict_flow, verdict_job, none, plan_refused, check_refused}
use Rattle.rules.specs.Limits.{slots, work_bytes}
use Rattle.rules.specs.Book.{Book}
use Rattle.rules.specs.Reading.{read_book, read, book_verdict}
use Rattle.rules.specs.Rows.{work_zero}
use Rattle.rules.specs.Planner.{PlanOutcome, plan_call}
use Rattle.rules.specs.Check.{CheckOutcome, check_call, table_fault}

-- ---- demand 1: "turn down a faulty one by a number from the list. A refusal gives the number and the place, leaves the output untouched
-- and the work area as the list says." (That the calls take every sequence of bytes and end is what their contracts without a `requires`
-- say.)

-- "A fault found before or by 11": a number up to 11, or 22, which is tested "directly after 6" (02, Req 01), or 24, "after the book's checks and 23 and
-- before 11" (02, Req 07)
abbrev pub by_eleven : ℕ → Bool
by_eleven number = leb number 11 || eqb number 22 || eqb number 24

-- "A fault found before or by 11 leaves the work area as it was; one found after 11 zeroes its first 16,384 bytes."
pub record AreaAfterRefusal (number : ℕ) (before after : List ℕ) : Type 0 where
  pub kept : by_eleven number ≡ true → after ≡ before
  pub zeroed : by_eleven number ≡ false → after ≡ work_zero slots before

-- "The output is never touched by a refusal, and every count, length or finish returned with it is 0."
pub record PlannerRefusal (out area : List ℕ) (o : PlanOutcome) : Type 0 where
  pub late_zero : o.answer.late ≡ 0
  pub length_zero : o.answer.length ≡ 0
  pub output_kept : o.output ≡ out
  pub area_left : AreaAfterRefusal o.answer.number area o.area

pub record CheckRefusal (area : List ℕ) (o : CheckOutcome) : Type 0 where
  pub late_zero : o.answer.late ≡ 0
  pub area_left : AreaAfterRefusal o.answer.number area o.area

-- number, flow and job of an answer are those of this verdict ("The promises use that definition")
pub record Says (v : Verdict) (number flow job : ℕ) : Type 0 where
  pub number_is : number ≡ number_of v
  pub flow_is : flow ≡ verdict_flow v
  pub job_is : job ≡ verdict_job v

abbrev pub PlanSays : Verdict → PlanAnswer → Type 0
PlanSays v a = Says v a.number a.flow a.job

abbrev pub CheckSays : Verdict → CheckAnswer → Type 0
CheckSays v a = Says v a.number a.flow a.job

pub record Demand1 : Type 0 where
  -- a book or a calendar that does not pass is turned down by its first fault, whatever else is lent
  pub planner_says : (book calendar out area : List ℕ) → 0 < number_of (book_verdict book calendar) →
      PlanSays (book_verdict book calendar) (plan_call book calendar out area).answer
  pub check_says : (book calendar table area : List ℕ) → 0 < number_of (book_verdict book calendar) →
      CheckSays (book_verdict book calendar) (check_call book calendar table area).answer
  -- then "work area too short", 11, with 255 and 255
  pub planner_11 : (book calendar out area : List ℕ) (b : Book) → read_book book calendar ≡ read b → length area < work_bytes →
      plan_call book calendar out area ≡ record { answer = plan_refused 11 none none; output = out; area = area }
  pub check_11 : (book calendar table area : List ℕ) (b : Book) → read_book book calendar ≡ read b → length area < work_bytes →
      check_call book calendar table area ≡ record { answer = check_refused 11 none none; area = area }
  -- then a table is turned down by its first fault, or accepted with number 0 and place 255, 255
  pub table_says : (book calendar table area : List ℕ) (b : Book) → read_book book calendar ≡ read b → work_bytes ≤ length area →
      CheckSays (table_fault b table) (check_call book calendar table area).answer
  -- the planner's numbers are 0 to 13, 22 and 24, the check's 0 to 11, 14 to 22, 24 and 25
  pub planner_number : (book calendar out area : List ℕ) →
      ((plan_call book calendar out area).answer.number ≤ 13) ⊎
      (((plan_call book calendar out area).answer.number ≡ 22) ⊎ ((plan_call book calendar out area).answer.number ≡ 24))
  pub check_number : (book calendar table area : List ℕ) →
      ((check_call book calendar table area).answer.number ≤ 11) ⊎
      (((14 ≤ (check_call book calendar table area).answer.number) × ((check_call book calendar table area).answer.number ≤ 22)) ⊎
      ((24 ≤ (check_call book calendar table area).answer.number) × ((check_call book calendar table area).answer.number ≤ 25)))
  -- what every refusal returns and leaves
  pub planner_refusal : (book calendar out area : List ℕ) → 0 < (plan_call book calendar out area).answer.number →
      PlannerRefusal out area (plan_call book calendar out area)
  pub check_refusal : (book calendar table area : List ℕ) → 0 < (check_call book calendar table area).answer.number →
      CheckRefusal area (check_call book calendar table area)
