-- What may be quoted of a finish, and that appended flows change nothing before them (02, Req 08). Assumes nothing.
use Rattle.std.specs.Prelude.{◌≡◌, ℕ, ◌≤◌, ◌<◌, true, List, length, take, if◌then◌else◌}
use Rattle.rules.specs.Walks.{sum_to}
use Rattle.rules.specs.Limits.{work_bytes}
use Rattle.rules.specs.Calendar.{open_before}
use Rattle.rules.specs.Book.{Flow, Book, flow_count, job_count, flow_of, job_of, twice_deadline}
use Rattle.rules.specs.Reading.{read, read_book}
use Rattle.rules.specs.Service.{served_before, up_to}
use Rattle.rules.specs.Rows.{finish_of}
use Rattle.rules.specs.Placing.{rows_of, plan}
use Rattle.rules.specs.Table.{finish_in}
use Rattle.rules.specs.Planner.{PlanOutcome, plan_call}
use Rattle.rules.specs.Check.{table_rows}
use Rattle.rules.specs.Finish.{finish_call}
use Rattle.rules.specs.Schedule.{Schedule, Valid, EndsBy}
use Rattle.rules.specs.Quote.{work_of, quote, appended, work_up_to}

-- ---- a closer finish to quote (02, Req 08): "Twice the deadline is a poor figure for the pulpit."

-- "the open slots before its finish are at most three numbers added", of flow f with this finish
abbrev pub WithinQuote : Book → ℕ → ℕ → Type 0
WithinQuote b f finish = open_before b.calendar finish ≤ quote b f

-- "For each accepted flow .. Show this of every plan."
pub record Quotes : Type 0 where
  -- of the finish that stands in the written table
  pub in_table : (book calendar out area : List ℕ) (b : Book) → read_book book calendar ≡ read b → (plan_call book calendar out area).answer.number ≡ 0 →
      (f : ℕ) → f < flow_count b → WithinQuote b f (finish_in (plan_call book calendar out area).output f)
  -- where the answer is 13, and nothing is written, of the rows that the rules give
  pub in_rows : (book calendar out area : List ℕ) (b : Book) → read_book book calendar ≡ read b → (plan_call book calendar out area).answer.number ≡ 13 →
      (f : ℕ) → f < flow_count b → WithinQuote b f (finish_of (rows_of (plan b)) f)
  -- of the finish that is answered for one flow
  pub answered : (book calendar area : List ℕ) (f : ℕ) (b : Book) → read_book book calendar ≡ read b → (finish_call book calendar f area).answer.number ≡ 0 →
      WithinQuote b f (finish_call book calendar f area).answer.finish
  -- the work of a flow is the sizes of its jobs, added
  pub work_is_sizes : (book calendar : List ℕ) (b : Book) → read_book book calendar ≡ read b → (f : ℕ) → f < flow_count b →
      work_of (flow_of b f) ≡ sum_to (λ i. (job_of (flow_of b f) i).size) (job_count (flow_of b f))
  -- "the work of all flows up to and including it in service order"
  pub work_up_to_is : (b : Book) (f : ℕ) → f < flow_count b → work_up_to b f ≡ sum_to (λ g. if up_to b f g then work_of (flow_of b g) else 0) (flow_count b)
  -- where some schedule of the flow and those before it is on time, the quote is at least as close as twice the deadline
  pub quote_within_twice : (book calendar : List ℕ) (b : Book) → read_book book calendar ≡ read b → (f : ℕ) → f < flow_count b → (σ : Schedule) → Valid b (up_to b f) σ →
      ((g : ℕ) → g < flow_count b → up_to b f g ≡ true → EndsBy σ g (flow_of b g).deadline) → quote b f ≤ twice_deadline b (flow_of b f)

-- two books beside one calendar: the second has "flows appended at the end of the book, all later in service order than those before them"
pub record Appended (book longer calendar : List ℕ) (b : Book) (more : List Flow) : Type 0 where
  pub reads : read_book book calendar ≡ read b
  pub longer_reads : read_book longer calendar ≡ read (appended b more)
  pub all_later : (f g : ℕ) → f < flow_count b → flow_count b ≤ g → g < flow_count (appended b more) → served_before (appended b more) f g ≡ true

-- the table in a call's output: "the planner also [answers] with the table's length"
abbrev pub table_of : PlanOutcome → List ℕ
table_of o = take o.answer.length o.output

-- "alter no earlier row and no earlier finish": what is written for both
pub record KeepsTable (b : Book) (more : List Flow) (o longer : PlanOutcome) : Type 0 where
  -- the rows of the longer table begin with those of the shorter one
  pub rows_first : take (length (table_rows b (table_of o))) (table_rows (appended b more) (table_of longer)) ≡ table_rows b (table_of o)
  -- and so do its finishes
  pub finishes_first : (f : ℕ) → f < flow_count b → finish_in longer.output f ≡ finish_in o.output f
  -- and no fewer flows are late
  pub late_still : o.answer.late ≤ longer.answer.late

pub record KeepsEarlier (book longer calendar : List ℕ) (b : Book) (more : List Flow) : Type 0 where
  -- "while the longer book is still accepted"
  pub keeps_table : (out area out' area' : List ℕ) →
      (plan_call book calendar out area).answer.number ≡ 0 → (plan_call longer calendar out' area').answer.number ≡ 0 →
      KeepsTable b more (plan_call book calendar out area) (plan_call longer calendar out' area')
  -- then the shorter one is accepted too, where it is lent as much output
  pub accepted_before : (out area out' area' : List ℕ) →
      (plan_call longer calendar out' area').answer.number ≡ 0 → length out' ≤ length out → work_bytes ≤ length area →
      (plan_call book calendar out area).answer.number ≡ 0
  -- and where the shorter one is infeasible, so is the longer one, by the same flow
  pub infeasible_still : (out area out' area' : List ℕ) →
      (plan_call book calendar out area).answer.number ≡ 12 → work_bytes ≤ length area' →
      (plan_call longer calendar out' area').answer ≡ (plan_call book calendar out area).answer
  -- the finish of one flow and its quote are the same, whatever becomes of the flows appended
  pub same_finish : (f : ℕ) → f < flow_count b → (area : List ℕ) → finish_call longer calendar f area ≡ finish_call book calendar f area
  pub same_quote : (f : ℕ) → f < flow_count b → quote (appended b more) f ≡ quote b f

unfoldable pub Appends : Type 0
Appends = (book longer calendar : List ℕ) (b : Book) (more : List Flow) → Appended book longer calendar b more → KeepsEarlier book longer calendar b more
