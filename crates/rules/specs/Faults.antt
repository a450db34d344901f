-- The faults as the code names them: the number of each in the list, and what a refusal says in the rules' terms. Assumes nothing.
use Rattle.std.specs.Prelude.{ℕ, Result, Ok, Err}
use Rattle.rules.specs.declared.Fault.{Fault}
use Rattle.rules.specs.declared.Fault.TheVariants as fault
use Rattle.rules.specs.declared.Refusal.{Refusal}
use Rattle.rules.specs.Verdicts.{Verdict, Pass, Refused}

-- "Where an answer is an enum, a definition gives this paper's number and values for each of its cases."
abbrev pub fault_number : Fault → ℕ
fault_number fault.BookLength = 1
fault_number fault.BookVersion = 2
fault_number fault.Processors = 3
fault_number fault.Flows = 4
fault_number fault.CutShort = 5
fault_number fault.Deadline = 6
fault_number fault.Jobs = 7
fault_number fault.Size = 8
fault_number fault.Cap = 9
fault_number fault.Predecessor = 10
fault_number fault.WorkArea = 11
fault_number fault.Infeasible = 12
fault_number fault.Output = 13
fault_number fault.TableHead = 14
fault_number fault.RowRange = 15
fault_number fault.RowOrder = 16
fault_number fault.RowCap = 17
fault_number fault.SlotFull = 18
fault_number fault.Precedence = 19
fault_number fault.Total = 20
fault_number fault.Finish = 21
fault_number fault.Release = 22
fault_number fault.NoSuchFlow = 23
fault_number fault.Calendar = 24
fault_number fault.RowShut = 25

-- a fault at a place
abbrev pub refusal_at : Fault → ℕ → ℕ → Refusal
refusal_at e f j = record { fault = e; flow = f; job = j }

-- what a test found, in the rules' terms
abbrev pub verdict_by : {T : Type 0} → Result T Refusal → Verdict
verdict_by (Ok _) = Pass
verdict_by (Err r) = Refused (fault_number r.fault) r.flow r.job
