-- The finish of one flow (document 02, Req 05): a call's answer and the work area that it leaves, for every book, calendar, flow number and work
-- area. Assumes nothing.
use Rattle.std.specs.Prelude.{ℕ, suc, List, length, ltb, leb, if◌then◌else◌}
use Rattle.rules.specs.Verdicts.{Verdict, Pass, Refused}
use Rattle.rules.specs.declared.FinishAnswer.{FinishAnswer}
use Rattle.rules.specs.Answers.{none, ◌and_then◌, finish_accepted, finish_refused}
use Rattle.rules.specs.Limits.{slots, work_bytes}
use Rattle.rules.specs.Calendar.{calendar_fault}
use Rattle.rules.specs.Book.{Book, flow_count}
use Rattle.rules.specs.Reading.{Reading, read, unread, book_of, book_fault, book_with, reading_of}
use Rattle.rules.specs.Service.{position}
use Rattle.rules.specs.Rows.{finish_of, work_used, work_zero}
use Rattle.rules.specs.Placing.{Plan, planned, infeasible, place_first}

pub record FinishOutcome : Type 0 where
  pub answer : FinishAnswer
  pub area : List ℕ

-- "up to the one named, in service order": so many flows, the one named among them
abbrev pub up_to_named : Book → ℕ → ℕ
up_to_named b f = suc (position b f)

-- "The result is the finish that the full table shows, or would show without the flows after it. If that flow or one before it is infeasible, it
-- is that 12", by how the placing of those flows ends. "The work area ends as it would for the book cut after that flow in service order": it
-- holds their use, or is zeroed after 12.
unfoldable pub finish_outcome : ℕ → List ℕ → Plan → FinishOutcome
finish_outcome f area (infeasible g) = record { answer = finish_refused 12 g none; area = work_zero slots area }
finish_outcome f area (planned rows) = record { answer = finish_accepted (finish_of rows f); area = work_used slots rows area }

-- where the input passes, 11; then "place flows only up to the one named". "A fault found before or by 11 leaves the work area as it was"
unfoldable pub finish_reading : ℕ → List ℕ → Reading → FinishOutcome
finish_reading f area (unread n g j) = record { answer = finish_refused n g j; area = area }
finish_reading f area (read b) =
    if ltb (length area) work_bytes then record { answer = finish_refused 11 none none; area = area }
    else finish_outcome f area (place_first b (up_to_named b f))

-- "23 when the flow number is not in the book, after every check of the book and before 11, with 255 and 255"
unfoldable pub unknown_flow : Book → ℕ → Verdict
unknown_flow b f = if leb (flow_count b) f then Refused 23 none none else Pass

-- "Check the book in full", 1 to 10 and 22; then 23; "24 .. after the book's checks and 23 and before 11" (02, Req 07)
unfoldable pub input_fault : List ℕ → List ℕ → ℕ → Verdict
input_fault book calendar f = book_fault book and_then unknown_flow (book_of book) f and_then calendar_fault calendar

unfoldable pub finish_call : List ℕ → List ℕ → ℕ → List ℕ → FinishOutcome
finish_call book calendar f area = finish_reading f area (reading_of (input_fault book calendar f) (book_with book calendar))
