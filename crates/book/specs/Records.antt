-- What reading one record of a book finds, and the faults of a job's record by itself. Assumes nothing.
use Rattle.std.specs.Prelude.{ℕ, ◌+◌, ◌^◌, List, length, ltb, leb, if◌then◌else◌, Option, Some, None, Result, Ok, Err}
use Rattle.rules.specs.declared.Fault.{Fault}
use Rattle.rules.specs.Verdicts.{Verdict, Pass, Refused}
use Rattle.rules.specs.Faults.{fault_number}
use Rattle.rules.specs.Fields.{field}
use Rattle.rules.specs.Limits.{outside, most_deadline, most_jobs, most_size, most_cap}
use Rattle.rules.specs.Reading.{version_of, flow_head, job_record, release_at, jobs_at}
use Rattle.book.specs.declared.FlowHead.{FlowHead}
use Rattle.book.specs.declared.JobRecord.{JobRecord}

-- a head without a release: "a version 1 book means release 0" (02, Req 01)
abbrev pub head_released_at0 : ℕ → ℕ → FlowHead
head_released_at0 deadline jobs = record { deadline = deadline; release = 0; jobs = jobs }

-- the values of the head at `at`
abbrev pub head_at : List ℕ → ℕ → FlowHead
head_at s at = record { deadline = field 2 s at; release = release_at s at; jobs = jobs_at s at }

-- the head of a flow at `at`: none where the bytes end before it does
unfoldable pub head_read : List ℕ → ℕ → Option FlowHead
head_read s at = if ltb (length s) (at + flow_head (version_of s)) then None else Some (head_at s at)

-- the number that a test found, 0 where it passes
abbrev pub number_by : {T : Type 0} → Result T Fault → ℕ
number_by (Ok _) = 0
number_by (Err e) = fault_number e

-- "5, 6, 7 for the head", 22 "directly after 6" (02, Req 01): the number of a whole head, 0 where it passes
unfoldable pub head_number : FlowHead → ℕ
head_number h =
    if outside 1 most_deadline h.deadline then 6
    else if leb h.deadline h.release then 22
    else if outside 1 most_jobs h.jobs then 7
    else 0

-- the values of the record at `at`
abbrev pub record_at : List ℕ → ℕ → JobRecord
record_at s at = record { size = field 4 s at; cap = field 2 s (at + 4); predecessors = field 8 s (at + 6) }

-- the record of a job at `at`: none where the bytes end before it does
unfoldable pub job_read : List ℕ → ℕ → Option JobRecord
job_read s at = if ltb (length s) (at + job_record) then None else Some (record_at s at)

-- "8, 9, 10 for each job": the faults of a whole record; "Only a cap of 0 is still 9" (02, Req 02)
unfoldable pub record_fault : JobRecord → ℕ → ℕ → Verdict
record_fault r f i =
    if outside 1 most_size r.size then Refused 8 f i
    else if outside 1 most_cap r.cap then Refused 9 f i
    else if leb (2 ^ i) r.predecessors then Refused 10 f i
    else Pass
