-- Verdicts and answers: this paper's number and place for each case. Assumes nothing.
use Rattle.std.specs.Prelude.{ℕ, zero, suc}
use Rattle.rules.specs.Verdicts.{Verdict, Pass, Refused}
use Rattle.rules.specs.declared.PlanAnswer.{PlanAnswer}
use Rattle.rules.specs.declared.CheckAnswer.{CheckAnswer}
use Rattle.rules.specs.declared.ListAnswer.{ListAnswer}
use Rattle.rules.specs.declared.FinishAnswer.{FinishAnswer}

-- "'Place' is flow and job number; 255 stands where there is none."
abbrev pub none : ℕ
none = 255

-- "the first fault met ends the walk": the second test counts where the first passes
infixr 6 ◌and_then◌
abbrev pub ◌and_then◌ : Verdict → Verdict → Verdict
Pass and_then v = v
Refused n f j and_then v = Refused n f j

-- the first fault among the tests g 0 .. g (n - 1)
unfoldable pub first_fault : (ℕ → Verdict) → ℕ → Verdict
first_fault g zero = Pass
first_fault g (suc n) = first_fault g n and_then g n

-- "An accepted call returns number 0 and place 255, 255." "Planner and check both answer with the number of late flows; the planner also
-- with the table's length."
abbrev pub plan_accepted : ℕ → ℕ → PlanAnswer
plan_accepted late bytes = record { number = 0; flow = none; job = none; late = late; length = bytes }

abbrev pub check_accepted : ℕ → CheckAnswer
check_accepted late = record { number = 0; flow = none; job = none; late = late }

-- "The answer is the list's length" (02, Req 03)
abbrev pub list_accepted : ℕ → ListAnswer
list_accepted bytes = record { number = 0; flow = none; job = none; length = bytes }

-- "The result is the finish" (02, Req 05)
abbrev pub finish_accepted : ℕ → FinishAnswer
finish_accepted finish = record { number = 0; flow = none; job = none; finish = finish }

-- "every count, length or finish returned with it [a refusal] is 0"
abbrev pub plan_refused : ℕ → ℕ → ℕ → PlanAnswer
plan_refused n f j = record { number = n; flow = f; job = j; late = 0; length = 0 }

abbrev pub check_refused : ℕ → ℕ → ℕ → CheckAnswer
check_refused n f j = record { number = n; flow = f; job = j; late = 0 }

abbrev pub list_refused : ℕ → ℕ → ℕ → ListAnswer
list_refused n f j = record { number = n; flow = f; job = j; length = 0 }

abbrev pub finish_refused : ℕ → ℕ → ℕ → FinishAnswer
finish_refused n f j = record { number = n; flow = f; job = j; finish = 0 }

-- ---- "Where an answer is an enum, a definition gives this paper's number and values for each of its cases.": the number of a verdict, 0 where it passes,
-- and the flow and the job of its place
abbrev pub number_of : Verdict → ℕ
number_of Pass = 0
number_of (Refused n f j) = n

abbrev pub verdict_flow : Verdict → ℕ
verdict_flow Pass = none
verdict_flow (Refused n f j) = f

abbrev pub verdict_job : Verdict → ℕ
verdict_job Pass = none
verdict_job (Refused n f j) = j
