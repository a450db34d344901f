-- The bytes of a book: its reading, the refusals 1 to 10 and 22 in the order of documents 01 and 02, its encoding in either version, and its reading
-- together with a calendar.
-- Assumes nothing.
use Rattle.std.specs.Prelude.{ℕ, zero, suc, ◌+◌, ◌*◌, ◌^◌, not, ◌||◌, List, [], ◌++◌, length, ltb, leb, eqb, if◌then◌else◌}
use Rattle.rules.specs.Verdicts.{Verdict, Pass, Refused}
use Rattle.rules.specs.Walks.{list_from, join_from}
use Rattle.rules.specs.Fields.{byte, field, bytes_of}
use Rattle.rules.specs.Answers.{none, ◌and_then◌, first_fault}
use Rattle.rules.specs.Limits.{outside, most_processors, most_flows, most_deadline, most_jobs, most_size, most_cap}
use Rattle.rules.specs.Calendar.{calendar_of, calendar_fault}
use Rattle.rules.specs.Book.{Job, Flow, Book, with_calendar, flow_count, job_count, flow_in, job_of}

-- ---- where the records stand
-- "length of the whole book in bytes (4 bytes), version = 1 (1), processors P (2), flows (1)"
abbrev pub book_head : ℕ
book_head = 8

-- the version; "number 2 now means neither 1 nor 2" (02, Req 01)
abbrev pub version_of : List ℕ → ℕ
version_of s = byte s 4

-- "Book version 2 has a release (2 bytes) after the deadline of each flow" (02, Req 01): the bytes of this field, by the version. A version 1
-- book has none of them, and a field of no bytes is 0: "a version 1 book means release 0".
unfoldable pub release_size : ℕ → ℕ
release_size version = if eqb version 2 then 2 else 0

-- "deadline in slots (2), jobs (1)", and between them the release
abbrev pub flow_head : ℕ → ℕ
flow_head version = 3 + release_size version

-- "size in processor-slots (4), cap (2), predecessors (8)"
abbrev pub job_record : ℕ
job_record = 14

-- what the head at `at` says: the release, and the number of jobs
unfoldable pub release_at : List ℕ → ℕ → ℕ
release_at s at = field (release_size (version_of s)) s (at + 2)

unfoldable pub jobs_at : List ℕ → ℕ → ℕ
jobs_at s at = byte s (at + 2 + release_size (version_of s))

-- where flow f starts: the head of the book, or the end of the flow before
unfoldable pub flow_start : List ℕ → ℕ → ℕ
flow_start s zero = book_head
flow_start s (suc f) = flow_start s f + flow_head (version_of s) + job_record * jobs_at s (flow_start s f)

-- where job i of the flow that starts at `at` starts
abbrev pub job_start : List ℕ → ℕ → ℕ → ℕ
job_start s at i = at + flow_head (version_of s) + job_record * i

-- ---- the values that stand there
unfoldable pub job_at : List ℕ → ℕ → Job
job_at s at = record { size = field 4 s at; cap = field 2 s (at + 4); predecessors = field 8 s (at + 6) }

unfoldable pub flow_at : List ℕ → ℕ → Flow
flow_at s at = record {
  deadline = field 2 s at;
  release = release_at s at;
  jobs = list_from (λ i. job_at s (job_start s at i)) (jobs_at s at) 0;
}

unfoldable pub book_of : List ℕ → Book
book_of s = record { processors = field 2 s 5; flows = list_from (λ f. flow_at s (flow_start s f)) (byte s 7) 0; calendar = [] }

-- ---- the faults
-- "5, 6, 7 for the head": the head of flow f, which starts at `at`, is cut short; deadline out of range; job count out of range. "22 when the
-- release is not below the deadline, directly after 6, with flow and 255" (02, Req 01)
unfoldable pub flow_head_fault : List ℕ → ℕ → ℕ → Verdict
flow_head_fault s f at =
    if ltb (length s) (at + flow_head (version_of s)) then Refused 5 f none
    else if outside 1 most_deadline (field 2 s at) then Refused 6 f none
    else if leb (field 2 s at) (release_at s at) then Refused 22 f none
    else if outside 1 most_jobs (jobs_at s at) then Refused 7 f none
    else Pass

-- "5, 8, 9, 10 for each job": the record of job i of flow f, at `at`, is cut short; size out of range; cap out of range, where "Only a cap of 0
-- is still 9" (02, Req 02); predecessor bit at or above the job's own number
unfoldable pub job_fault : List ℕ → ℕ → ℕ → ℕ → Verdict
job_fault s f i at =
    if ltb (length s) (at + job_record) then Refused 5 f i
    else if outside 1 most_size (field 4 s at) then Refused 8 f i
    else if outside 1 most_cap (field 2 s (at + 4)) then Refused 9 f i
    else if leb (2 ^ i) (field 8 s (at + 6)) then Refused 10 f i
    else Pass

-- a flow: its head, then its jobs
unfoldable pub flow_fault : List ℕ → ℕ → ℕ → Verdict
flow_fault s f at = flow_head_fault s f at and_then first_fault (λ i. job_fault s f i (job_start s at i)) (jobs_at s at)

-- "bytes left over (255, 255)"
unfoldable pub leftover_fault : List ℕ → Verdict
leftover_fault s = if eqb (flow_start s (byte s 7)) (length s) then Pass else Refused 5 none none

-- "book under 8 bytes, or its length field differs from the bytes given"; "number 2 now means neither 1 nor 2" (02, Req 01); "P out of range";
-- "more than 64 flows". "Numbers 1 to 4 are tested in that order. Then come the flows: ..; leftover bytes last"
unfoldable pub book_fault : List ℕ → Verdict
book_fault s =
    if ltb (length s) book_head || not (eqb (field 4 s 0) (length s)) then Refused 1 none none
    else if not (eqb (version_of s) 1 || eqb (version_of s) 2) then Refused 2 none none
    else if outside 1 most_processors (field 2 s 5) then Refused 3 none none
    else if ltb most_flows (byte s 7) then Refused 4 none none
    else first_fault (λ f. flow_fault s f (flow_start s f)) (byte s 7) and_then leftover_fault s

-- ---- the reading of a book and the calendar that goes with it: its values, or the number and place of the first fault
pub data Reading : Type 0 where
  read : Book → Reading
  unread : ℕ → ℕ → ℕ → Reading

abbrev pub reading_of : Verdict → Book → Reading
reading_of Pass b = read b
reading_of (Refused n f j) b = unread n f j

-- "A calendar goes with the book" (02, Req 07): the book in these bytes, with the calendar in those
abbrev pub book_with : List ℕ → List ℕ → Book
book_with s calendar = with_calendar (calendar_of calendar) (book_of s)

-- the verdict on a book and the calendar that goes with it: "24 when the calendar breaks its layout, after the book's checks" (02, Req 07)
abbrev pub book_verdict : List ℕ → List ℕ → Verdict
book_verdict s calendar = book_fault s and_then calendar_fault calendar

unfoldable pub read_book : List ℕ → List ℕ → Reading
read_book s calendar = reading_of (book_verdict s calendar) (book_with s calendar)

-- ---- the encoding of values in a version: "a book of its own", "under a length and flow count that fit"; caps as they stand
unfoldable pub job_bytes : Job → List ℕ
job_bytes j = bytes_of 4 j.size ++ bytes_of 2 j.cap ++ bytes_of 8 j.predecessors

unfoldable pub flow_bytes : ℕ → Flow → List ℕ
flow_bytes version w =
    bytes_of 2 w.deadline ++ bytes_of (release_size version) w.release ++ bytes_of 1 (job_count w)
    ++ join_from (λ i. job_bytes (job_of w i)) (job_count w) 0

unfoldable pub flows_bytes : ℕ → Book → List ℕ
flows_bytes version b = join_from (λ f. flow_bytes version (flow_in b f)) (flow_count b) 0

unfoldable pub book_bytes : ℕ → Book → List ℕ
book_bytes version b =
    bytes_of 4 (book_head + length (flows_bytes version b)) ++ bytes_of 1 version ++ bytes_of 2 b.processors ++ bytes_of 1 (flow_count b)
    ++ flows_bytes version b
