-- The values of an order book ("book" is document 01's word). Assumes nothing.
use Rattle.std.specs.Prelude.{ℕ, ◌*◌, ◌/◌, ◌%◌, ◌^◌, ◌<◌, ◌≤◌, min, Bool, ◌&&◌, List, [], map, length, get_or, leb, eqb}
use Rattle.rules.specs.Limits.{most_processors, most_flows, most_deadline, most_jobs, most_size, most_cap}
use Rattle.rules.specs.Calendar.{Calendar, is_open, open_before, CalendarInRange}

-- "each job: size in processor-slots (4), cap (2), predecessors (8)"
pub record Job : Type 0 where
  pub size : ℕ
  pub cap : ℕ
  pub predecessors : ℕ

-- "each flow: deadline in slots (2), jobs (1), and each job"; "Book version 2 has a release (2 bytes) after the deadline of each flow" (02,
-- Req 01). "release" is document 02's word: the slot before which nothing of the flow can run.
pub record Flow : Type 0 where
  pub deadline : ℕ
  pub release : ℕ
  pub jobs : List Job

-- "processors P (2), flows (1); then each flow"; "A calendar goes with the book" (02, Req 07): its bytes are not the book's, and a book that is read
-- from its own bytes alone has no windows
pub record Book : Type 0 where
  pub processors : ℕ
  pub flows : List Flow
  pub calendar : Calendar

-- the same book with another calendar
abbrev pub with_calendar : Calendar → Book → Book
with_calendar c b = record { processors = b.processors; flows = b.flows; calendar = c }

abbrev pub flow_count : Book → ℕ
flow_count b = length b.flows

abbrev pub job_count : Flow → ℕ
job_count w = length w.jobs

-- "Jobs and flows count from 0": flow f of a book as it stands there, and job i of a flow; past the last one, a flow without jobs and a job
-- without size
abbrev pub no_flow : Flow
no_flow = record { deadline = 0; release = 0; jobs = [] }

abbrev pub no_job : Job
no_job = record { size = 0; cap = 0; predecessors = 0 }

unfoldable pub flow_in : Book → ℕ → Flow
flow_in b f = get_or b.flows f no_flow

unfoldable pub job_of : Flow → ℕ → Job
job_of w i = get_or w.jobs i no_job

-- ---- caps above P (02, Req 02)
-- "A cap above P, up to 65,535, shall count as P wherever a cap is read": a job with its cap lowered to P, a flow with each cap lowered to P
unfoldable pub lower_cap : ℕ → Job → Job
lower_cap P j = record { size = j.size; cap = min j.cap P; predecessors = j.predecessors }

unfoldable pub lower_caps : ℕ → Flow → Flow
lower_caps P w = record { deadline = w.deadline; release = w.release; jobs = map (lower_cap P) w.jobs }

-- flow f of a book as it is used: "everything said of schedules uses the lowered cap". The values of a book keep each cap as it stands, and only
-- their ranges and their encoding look at it; all other definitions speak of this flow.
unfoldable pub flow_of : Book → ℕ → Flow
flow_of b f = lower_caps b.processors (flow_in b f)

-- the same book with each cap lowered to P
unfoldable pub lowered : Book → Book
lowered b = record { processors = b.processors; flows = map (lower_caps b.processors) b.flows; calendar = b.calendar }

-- ---- precedence
-- "Bit k of the predecessor field, bit 0 the lowest, says that job k of the same flow must be complete first."
unfoldable pub has_bit : ℕ → ℕ → Bool
has_bit p k = eqb (p / 2 ^ k % 2) 1

-- job k is a predecessor of job i
abbrev pub precedes : Flow → ℕ → ℕ → Bool
precedes w k i = has_bit (job_of w i).predecessors k

-- ---- the slots that a flow may use: "Placing starts at the release" (02, Req 01), and "Shut slots are passed over" (02, Req 07)
unfoldable pub usable : Book → Flow → ℕ → Bool
usable b w t = is_open b.calendar t && leb w.release t

-- "Twice the deadline now means twice the number of open slots before the deadline" (02, Req 07)
unfoldable pub twice_deadline : Book → Flow → ℕ
twice_deadline b w = 2 * open_before b.calendar w.deadline

-- ---- the ranges: what the tests 3, 4, 6 to 10, 22 and 24 leave. A cap reaches from 1 to 65,535 as it stands, and to P as it is used.
pub record JobInRange (cap_limit i : ℕ) (j : Job) : Type 0 where
  pub size_least : 1 ≤ j.size
  pub size_most : j.size ≤ most_size
  pub cap_least : 1 ≤ j.cap
  pub cap_most : j.cap ≤ cap_limit
  -- no predecessor bit at or above the job's own number
  pub predecessors_below : j.predecessors < 2 ^ i

pub record FlowInRange (cap_limit : ℕ) (w : Flow) : Type 0 where
  pub deadline_least : 1 ≤ w.deadline
  pub deadline_most : w.deadline ≤ most_deadline
  pub release_below : w.release < w.deadline
  pub jobs_least : 1 ≤ job_count w
  pub jobs_most : job_count w ≤ most_jobs
  pub each_job : (i : ℕ) → i < job_count w → JobInRange cap_limit i (job_of w i)

pub record InRange (b : Book) : Type 0 where
  pub processors_least : 1 ≤ b.processors
  pub processors_most : b.processors ≤ most_processors
  pub flows_most : flow_count b ≤ most_flows
  pub each_flow : (f : ℕ) → f < flow_count b → FlowInRange most_cap (flow_in b f)
  pub calendar_in_range : CalendarInRange b.calendar
