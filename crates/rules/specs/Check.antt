-- The table check: refusals 14 to 21 and 25 in the order of documents 01 and 02, and a call's answer and work area for every book, calendar, table and
-- work area.
-- Assumes nothing.
use Rattle.std.specs.Prelude.{ℕ, zero, suc, ◌+◌, ◌*◌, ◌-◌, ◌/◌, ◌%◌, Bool, true, not, ◌&&◌, ◌||◌, List, length, take, get_or, ltb, leb, eqb, if◌then◌else◌}
use Rattle.rules.specs.Verdicts.{Verdict, Pass, Refused}
use Rattle.rules.specs.declared.CheckAnswer.{CheckAnswer}
use Rattle.rules.specs.Walks.{any_to, list_from}
use Rattle.rules.specs.Fields.{byte, field}
use Rattle.rules.specs.Answers.{none, ◌and_then◌, first_fault, check_accepted, check_refused}
use Rattle.rules.specs.Limits.{slots, work_bytes}
use Rattle.rules.specs.Calendar.{is_open}
use Rattle.rules.specs.Book.{Book, flow_count, job_count, flow_of, job_of, precedes}
use Rattle.rules.specs.Reading.{Reading, read, unread, read_book}
use Rattle.rules.specs.Service.{served_before}
use Rattle.rules.specs.Rows.{Row, used_in, total_of, done_before, finish_of, late_flows, work_used, work_zero}
use Rattle.rules.specs.Table.{table_head, row_length, finish_in, row_at}

-- the rows that stand behind head and finishes
unfoldable pub table_rows : Book → List ℕ → List Row
table_rows b s = list_from (λ k. row_at s (table_head b + row_length * k)) ((length s - table_head b) / row_length) 0

-- 14: "table too short for head and finishes, length field wrong, version not 1, P or flows unlike the book, rows not whole"
unfoldable pub table_head_fault : Book → List ℕ → Verdict
table_head_fault b s =
    if ltb (length s) (table_head b)
    || not (eqb (field 4 s 0) (length s))
    || not (eqb (byte s 4) 1)
    || not (eqb (field 2 s 5) b.processors)
    || not (eqb (byte s 7) (flow_count b))
    || not (eqb ((length s - table_head b) % row_length) 0)
    then Refused 14 none none else Pass

-- ---- 15 to 19 and 25, for each row
-- "Rows stand by service order of the flow, then slot, then job, all strictly rising."
unfoldable pub row_before : Book → Row → Row → Bool
row_before b q r =
    served_before b q.flow r.flow
    || eqb q.flow r.flow && (ltb q.slot r.slot || eqb q.slot r.slot && ltb q.job r.job)

-- past the last row
abbrev pub no_row : Row
no_row = record { slot = 0; flow = 0; job = 0; processors = 0 }

-- row k comes after the one before it
unfoldable pub rises : Book → List Row → ℕ → Bool
rises b rows zero = true
rises b rows (suc k) = row_before b (get_or rows k no_row) (get_or rows (suc k) no_row)

-- "a predecessor whose rows so far in earlier slots sum to less than its size"
unfoldable pub lacks_predecessor : Book → List Row → Row → Bool
lacks_predecessor b so_far r =
    any_to (λ k. precedes (flow_of b r.flow) k r.job
    && ltb (done_before so_far r.flow k r.slot) (job_of (flow_of b r.flow) k).size) r.job

-- "A valid schedule .. now has nothing before a flow's release; a row before it is a fault of 19" (02, Req 01)
unfoldable pub before_release : Book → Row → Bool
before_release b r = ltb r.slot (flow_of b r.flow).release

-- 15: "row's slot above 8,191, flow or job not in the book, or 0 processors"; "25 when a row uses a shut slot, between 15 and 16, with the row's place"
-- (02, Req 07), by a test of the slots that are open; 16: "row not after the one before it"; 17: "more than the
-- cap", lowered to P (02, Req 02); 18: "more than P used in the slot by the rows so far, this one counted"; 19. The place is that of the row.
unfoldable pub row_fault : Book → (ℕ → Bool) → List Row → ℕ → Verdict
row_fault b opened rows k =
    let r = get_or rows k no_row in
    let so_far = take k rows in
    if leb slots r.slot
    || leb (flow_count b) r.flow
    || leb (job_count (flow_of b r.flow)) r.job
    || eqb r.processors 0 then Refused 15 r.flow r.job
    else if not (opened r.slot) then Refused 25 r.flow r.job
    else if not (rises b rows k) then Refused 16 r.flow r.job
    else if ltb (job_of (flow_of b r.flow) r.job).cap r.processors then Refused 17 r.flow r.job
    else if ltb b.processors (used_in so_far r.slot + r.processors) then Refused 18 r.flow r.job
    else if before_release b r || lacks_predecessor b so_far r then Refused 19 r.flow r.job
    else Pass

-- ---- 20 and 21
-- "a job's total differs from its size (lowest flow, then job)"
unfoldable pub total_fault : Book → List Row → ℕ → ℕ → Verdict
total_fault b rows f i = if eqb (total_of rows f i) (job_of (flow_of b f) i).size then Pass else Refused 20 f i

-- "a stated finish differs (lowest flow)"
unfoldable pub finish_fault : List ℕ → List Row → ℕ → Verdict
finish_fault s rows f = if eqb (finish_in s f) (finish_of rows f) then Pass else Refused 21 f none

-- ---- the check of a table against a book: "14, then 15 to 19 in order for each row, then 20, 21; the first fault met ends the walk", 25
-- between 15 and 16
unfoldable pub table_fault : Book → List ℕ → Verdict
table_fault b s =
    table_head_fault b s
    and_then first_fault (row_fault b (is_open b.calendar) (table_rows b s)) (length (table_rows b s))
    and_then first_fault (λ f. first_fault (total_fault b (table_rows b s) f) (job_count (flow_of b f))) (flow_count b)
    and_then first_fault (finish_fault s (table_rows b s)) (flow_count b)

-- ---- a call
pub record CheckOutcome : Type 0 where
  pub answer : CheckAnswer
  pub area : List ℕ

unfoldable pub check_outcome : Book → List ℕ → List ℕ → Verdict → CheckOutcome
check_outcome b s area (Refused n f j) = record { answer = check_refused n f j; area = work_zero slots area }
check_outcome b s area Pass = record { answer = check_accepted (late_flows b (table_rows b s)); area = work_used slots (table_rows b s) area }

-- 1 to 10, 22 and 24 by the reading, then 11, then the table
unfoldable pub check_reading : List ℕ → List ℕ → Reading → CheckOutcome
check_reading s area (unread n f j) = record { answer = check_refused n f j; area = area }
check_reading s area (read b) =
    if ltb (length area) work_bytes
    then record { answer = check_refused 11 none none; area = area }
    else check_outcome b s area (table_fault b s)

unfoldable pub check_call : List ℕ → List ℕ → List ℕ → List ℕ → CheckOutcome
check_call book calendar s area = check_reading s area (read_book book calendar)
