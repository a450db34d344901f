-- A flow on endless processors as the code holds it: its jobs' records, each job's start, end, last take and cap with
-- the least start from it on, and the parts of a pseudo-job as one list. Assumes nothing.
use Rattle.std.specs.Prelude.{◌≡◌, List, map, ℕ, ◌≤◌, ◌<◌, length, get_or}
use Rattle.rules.specs.Book.{Job, Flow, job_count, job_of}
use Rattle.rules.specs.Ideal.{last_take, start_of, end_of, path}
use Rattle.book.specs.declared.JobRecord.{JobRecord}
use Rattle.book.specs.Promise.{job_from}
use Rattle.book.specs.Starts.{no_record}
use Rattle.chain.specs.declared.IdealJob.{IdealJob}
use Rattle.chain.specs.declared.Part.{Part}
use Rattle.chain.specs.Runs.{LeastFrom}

-- what stands past the end of a list
abbrev pub no_ideal : IdealJob
no_ideal = record { start = 0; end = 0; last = 0; cap = 0; first = 0 }

abbrev pub no_part : Part
no_part = record { job = 0; take = 0 }

-- the starts and the ends of jobs, and the numbers and the takes of parts
abbrev pub starts_in : List IdealJob → List ℕ
starts_in jobs = map (λ j. j.start) jobs

abbrev pub ends_in : List IdealJob → List ℕ
ends_in jobs = map (λ j. j.end) jobs

abbrev pub names_in : List Part → List ℕ
names_in parts = map (λ p. p.job) parts

abbrev pub takes_in : List Part → List ℕ
takes_in parts = map (λ p. p.take) parts

-- a job with another least start
abbrev pub with_first : ℕ → IdealJob → IdealJob
with_first v j = record { start = j.start; end = j.end; last = j.last; cap = j.cap; first = v }

-- a job with its size in range, and with a cap
pub record JobLasts (j : Job) : Type 0 where
  pub size_least : 1 ≤ j.size
  pub size_most : j.size ≤ 1000000
  pub cap_least : 1 ≤ j.cap

-- such jobs of one flow
pub record JobsLast (jobs : List JobRecord) : Type 0 where
  pub few : length jobs ≤ 64
  pub each : (i : ℕ) → i < length jobs → JobLasts (job_from (get_or jobs i no_record))

-- .. and a flow of such jobs
pub record FlowLasts (w : Flow) : Type 0 where
  pub few : job_count w ≤ 64
  pub each : (i : ℕ) → i < job_count w → JobLasts (job_of w i)

-- a job with its size and cap in range
pub record JobFits (j : Job) : Type 0 where
  pub size_least : 1 ≤ j.size
  pub size_most : j.size ≤ 1000000
  pub cap_least : 1 ≤ j.cap
  pub cap_most : j.cap ≤ 4096

-- jobs of one flow, each in range
pub record JobsFit (jobs : List JobRecord) : Type 0 where
  pub few : length jobs ≤ 64
  pub each : (i : ℕ) → i < length jobs → JobFits (job_from (get_or jobs i no_record))

-- .. and a flow of such jobs
pub record FlowFits (w : Flow) : Type 0 where
  pub few : job_count w ≤ 64
  pub each : (i : ℕ) → i < job_count w → JobFits (job_of w i)

-- the records are a flow's jobs
pub record JobsOf (w : Flow) (jobs : List JobRecord) : Type 0 where
  pub count : job_count w ≡ length jobs
  pub each : (i : ℕ) → i < length jobs → job_of w i ≡ job_from (get_or jobs i no_record)

-- the values are those of job i on endless processors, by rules 1 and 2
pub record Alone (w : Flow) (i : ℕ) (j : IdealJob) : Type 0 where
  pub start : j.start ≡ start_of w i
  pub end : j.end ≡ end_of w i
  pub last : j.last ≡ last_take (job_of w i)
  pub cap : j.cap ≡ (job_of w i).cap

-- .. for each job below n
abbrev pub AloneTo : Flow → ℕ → List IdealJob → Type 0
AloneTo w n jobs = (i : ℕ) → i < n → Alone w i (get_or jobs i no_ideal)

-- the list and the path are a flow's on endless processors; `first` is the least start from the job on
pub record ChainOf (w : Flow) (jobs : List IdealJob) (longest : ℕ) : Type 0 where
  pub fits : FlowFits w
  pub count : length jobs ≡ job_count w
  pub each : AloneTo w (job_count w) jobs
  pub firsts : (i : ℕ) → i < job_count w → LeastFrom (starts_in jobs) (job_count w) i (get_or jobs i no_ideal).first
  pub path : longest ≡ path w

-- a job that works, and takes no more than a cap reaches
pub record IdealInRange (j : IdealJob) : Type 0 where
  pub some : j.start < j.end
  pub last_least : 1 ≤ j.last
  pub last_most : j.last ≤ 4096
  pub cap_least : 1 ≤ j.cap
  pub cap_most : j.cap ≤ 4096

-- at most 64 such jobs
pub record ChainInRange (jobs : List IdealJob) : Type 0 where
  pub few : length jobs ≤ 64
  pub each : (i : ℕ) → i < length jobs → IdealInRange (get_or jobs i no_ideal)

-- the jobs below `from` have ended at ideal slot t
pub record EndedTo (jobs : List IdealJob) (from t : ℕ) : Type 0 where
  pub within : from ≤ length jobs
  pub ended : (i : ℕ) → i < from → (get_or jobs i no_ideal).end ≤ t
