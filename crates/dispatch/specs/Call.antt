-- What a call writes before the rows, and what it leaves. Assumes nothing.
use Rattle.std.specs.Prelude.{◌≡◌, ℕ, ◌≤◌, ◌<◌, List, ◌++◌, Result, Ok, Err}
use Rattle.rules.specs.declared.ListAnswer.{ListAnswer}
use Rattle.rules.specs.declared.Refusal.{Refusal}
use Rattle.rules.specs.Fields.{bytes_of}
use Rattle.rules.specs.Answers.{list_accepted, list_refused}
use Rattle.rules.specs.Faults.{fault_number}
use Rattle.rules.specs.Dispatch.{DispatchOutcome, list_length}
use Rattle.dispatch.specs.Accepted.{Accepted, accepted_rows}
use Rattle.dispatch.specs.Merge.{InUse}

-- "length (4), version 1 (1), P (2)" (02, Req 03)
unfoldable pub list_head_bytes : ℕ → ℕ → List ℕ
list_head_bytes bytes processors = bytes_of 4 bytes ++ bytes_of 1 1 ++ bytes_of 2 processors

-- what writing the list of an accepted table asks: the area as the check leaves it, and an output in which the list,
-- whose length four bytes can hold, has room
pub record ListAsked (book table work : List ℕ) (size room : ℕ) : Type 0 where
  pub accepted : Accepted book table
  pub in_use : InUse book table work
  pub size_is : size ≡ list_length (accepted_rows book table)
  pub size_fits : size < 4294967296
  pub has_room : size ≤ room

-- the answer of a call that comes to a list of so many bytes, or to a refusal
abbrev pub answer_by : Result ℕ Refusal → ListAnswer
answer_by (Ok size) = list_accepted size
answer_by (Err r) = list_refused (fault_number r.fault) r.flow r.job

-- answer, output and work area are those of the outcome
pub record Leaves (o : DispatchOutcome) (answer : ListAnswer) (output area : List ℕ) : Type 0 where
  pub answers : answer ≡ o.answer
  pub output_left : output ≡ o.output
  pub area_left : area ≡ o.area
