-- Where the flows of a book start, and a flow that is read out. Assumes nothing.
use Rattle.std.specs.Prelude.{ℕ, List, map}
use Rattle.rules.specs.Walks.{list_from}
use Rattle.rules.specs.Book.{Flow}
use Rattle.rules.specs.Reading.{flow_start}
use Rattle.book.specs.declared.FlowHead.{FlowHead}
use Rattle.book.specs.declared.JobRecord.{JobRecord}
use Rattle.book.specs.Promise.{job_from}

-- where the first n flows start
unfoldable pub starts_of : List ℕ → ℕ → List ℕ
starts_of s n = list_from (flow_start s) n 0

-- past the last job
abbrev pub no_record : JobRecord
no_record = record { size = 0; cap = 0; predecessors = 0 }

-- a flow that is read out, its head and its jobs, as the specification's
abbrev pub flow_read : FlowHead → List JobRecord → Flow
flow_read h jobs = record { deadline = h.deadline; release = h.release; jobs = map job_from jobs }
