-- What a call for the finish of a flow leaves. Assumes nothing.
use Rattle.std.specs.Prelude.{◌≡◌, ℕ, List, Result, Ok, Err}
use Rattle.rules.specs.declared.Refusal.{Refusal}
use Rattle.rules.specs.declared.FinishAnswer.{FinishAnswer}
use Rattle.rules.specs.Answers.{finish_accepted, finish_refused}
use Rattle.rules.specs.Faults.{fault_number}
use Rattle.rules.specs.Book.{Book}
use Rattle.rules.specs.Placing.{place_first}
use Rattle.rules.specs.Finish.{up_to_named, FinishOutcome, finish_outcome}

-- the outcome for flow f of a book that passes with its calendar, where the work area is long enough
abbrev pub outcome_up_to : Book → ℕ → List ℕ → FinishOutcome
outcome_up_to b f area = finish_outcome f area (place_first b (up_to_named b f))

-- the answer that a call gives: the finish, or a refusal by its number and place
abbrev pub answer_by : Result ℕ Refusal → FinishAnswer
answer_by (Ok finish) = finish_accepted finish
answer_by (Err r) = finish_refused (fault_number r.fault) r.flow r.job

-- answer and work area are those of the outcome
pub record Leaves (o : FinishOutcome) (answer : FinishAnswer) (area : List ℕ) : Type 0 where
  pub answers : answer ≡ o.answer
  pub area_left : area ≡ o.area
