-- Valid schedules, whoever made them, and when a flow ends. Assumes nothing.
use Rattle.std.specs.Prelude.{◌≡◌, ℕ, ◌≤◌, ◌<◌, Bool, true, false, ◌&&◌, List, eqb}
use Rattle.rules.specs.Walks.{sum_to, join_from}
use Rattle.rules.specs.Limits.{slots}
use Rattle.rules.specs.Book.{Book, flow_count, job_count, flow_of, job_of, precedes, usable}
use Rattle.rules.specs.Service.{served_at}
use Rattle.rules.specs.Rows.{Row, row_for, is_of, sum_where}
use Rattle.rules.specs.Table.{table_bytes}

-- "A whole-slot schedule of some flows is any giving of a whole number of processors to each of their jobs in each slot from 0."
-- σ f i t: the processors of job i of flow f in slot t
abbrev pub Schedule : Type 0
Schedule = ℕ → ℕ → ℕ → ℕ

-- a schedule is of some flows of a book, told by a test of the flow number; all flows pass this one
abbrev pub every_flow : ℕ → Bool
every_flow f = true

-- job i of flow f is a job of the book, and of one of those flows
pub record IsJob (b : Book) (among : ℕ → Bool) (f i : ℕ) : Type 0 where
  pub flow_among : among f ≡ true
  pub flow_in_is : f < flow_count b
  pub job_in : i < job_count (flow_of b f)

-- the processors in use in slot t
unfoldable pub in_use : Book → Schedule → ℕ → ℕ
in_use b σ t = sum_to (λ f. sum_to (λ i. σ f i t) (job_count (flow_of b f))) (flow_count b)

-- "A valid schedule gives each job a whole number of processors from 0 to its cap in each slot, at most P together, its size in total, and
-- nothing before each predecessor has its full size in earlier slots." "It keeps the rules when it is a valid schedule with their jobs and
-- no others." "A valid schedule, whoever made it, now has nothing before a flow's release" (02, Req 01); "everything said of schedules uses the
-- lowered cap" (02, Req 02), which is that of `flow_of`; "open slots only, as every valid schedule now does" (02, Req 07).
pub record Valid (b : Book) (among : ℕ → Bool) (σ : Schedule) : Type 0 where
  pub no_others : (f i t : ℕ) → (IsJob b among f i → ⊥) → σ f i t ≡ 0
  pub caps : (f i t : ℕ) → IsJob b among f i → σ f i t ≤ (job_of (flow_of b f) i).cap
  pub together : (t : ℕ) → in_use b σ t ≤ b.processors
  -- "its size in total": from the slot `horizon` on nothing is given, and before it each job's size
  pub horizon : ℕ
  pub nothing_after : (f i t : ℕ) → horizon ≤ t → σ f i t ≡ 0
  pub sizes : (f i : ℕ) → IsJob b among f i → sum_to (σ f i) horizon ≡ (job_of (flow_of b f) i).size
  pub precedence : (f i k t : ℕ) → IsJob b among f i → precedes (flow_of b f) k i ≡ true → 0 < σ f i t →
      sum_to (σ f k) t ≡ (job_of (flow_of b f) k).size
  -- nothing before a flow's release, and nothing in a shut slot
  pub in_usable : (f i t : ℕ) → IsJob b among f i → usable b (flow_of b f) t ≡ false → σ f i t ≡ 0

-- "A flow's finish is its last used slot plus 1 in any schedule. A flow ends by its deadline, or within twice its deadline, when its finish
-- is at most that." The finish is at most d when nothing is given from slot d on. (Twice the deadline is counted in open slots since 02, Req 07: `WithinTwice`.)
unfoldable pub EndsBy : Schedule → ℕ → ℕ → Type 0
EndsBy σ f d = (i t : ℕ) → d ≤ t → σ f i t ≡ 0

-- "Its slots run from 0 to 8,191 where it is a table."
unfoldable pub InSlots : Schedule → Type 0
InSlots σ = (f i t : ℕ) → slots ≤ t → σ f i t ≡ 0

-- the schedule that rows state
unfoldable pub schedule_of : List Row → Schedule
schedule_of rows f i t = sum_where (λ r. is_of f i r && eqb r.slot t) rows

-- the rows of a schedule: "one for each slot and job where the job has at least 1 processor", "by service order of the flow, then slot, then
-- job"
unfoldable pub schedule_rows : Book → Schedule → List Row
schedule_rows b σ =
    join_from (λ n. let f = served_at b n in
    join_from (λ t. join_from (λ i. row_for t f i (σ f i t)) (job_count (flow_of b f)) 0) slots 0) (flow_count b) 0

-- its table: these rows "under the right head and finishes"
unfoldable pub schedule_table : Book → Schedule → List ℕ
schedule_table b σ = table_bytes b (schedule_rows b σ)
