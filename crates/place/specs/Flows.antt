-- One flow on its way through the slots, as the code places it: what it is placed beside, where it stands after some
-- slots, and what the routines leave behind. Assumes nothing.
use Rattle.std.specs.Prelude.{◌≡◌, ℕ, suc, ◌+◌, ◌*◌, ◌-◌, ◌^◌, ◌<◌, ◌≤◌, Bool, true, false, List, [], ◌∷◌, ◌++◌, length, Option, Some, None}
use Rattle.rules.specs.Limits.{slots}
use Rattle.rules.specs.Verdicts.{Pass}
use Rattle.rules.specs.Book.{Book, flow_count, flow_of}
use Rattle.rules.specs.Reading.{book_of, book_fault}
use Rattle.rules.specs.PseudoJobs.{PseudoJob, work}
use Rattle.rules.specs.Rows.{Row, used_in, finish_of, work_used}
use Rattle.rules.specs.Placing.{Progress, given, after_slot, progress, flow_rows, free_processors}
use Rattle.chain.specs.declared.IdealJob.{IdealJob}
use Rattle.chain.specs.Alone.{ChainOf}
use Rattle.place.specs.declared.Current.{Current}
use Rattle.place.specs.declared.Served.{Served}
use Rattle.place.specs.declared.Placed.{Placed}
use Rattle.place.specs.Output.{slot_bytes, flow_bytes, Put}
use Rattle.place.specs.Service.{current_flow, pseudo_job}

-- where a flow stands: the pseudo-jobs left, and the units done of the first of them
abbrev pub standing : List PseudoJob → ℕ → Progress
standing left done = record { left = left; done = done }

-- what a flow is placed beside: the rows of the flows before it, the bytes of the area past the slots, and the output
-- and the offset in it at which its own rows begin
pub record Beside : Type 0 where
  pub rows : List Row
  pub area : List ℕ
  pub output : List ℕ
  pub offset : ℕ

-- its rows in the first t slots
abbrev pub rows_up_to : Book → ℕ → Beside → ℕ → List Row
rows_up_to b f x t = flow_rows (flow_of b f) f (free_processors b f x.rows) t

-- after the first t slots, which reach its release, the flow stands at g, the area holds the use of all rows so far,
-- and its own rows are put
pub record Underway (b : Book) (f : ℕ) (x : Beside) (t : ℕ) (g : Progress) (out area : List ℕ) (next : ℕ) : Type 0 where
  pub within : (u : ℕ) → used_in x.rows u ≤ b.processors
  pub released : (flow_of b f).release ≤ t
  pub stands : progress (flow_of b f) (free_processors b f x.rows) t ≡ g
  pub area_used : area ≡ work_used slots (x.rows ++ rows_up_to b f x t) x.area
  pub put : Put x.output x.offset (rows_up_to b f x t) out next

-- ---- one slot
-- the flow of the pseudo-job in service, on its way
abbrev pub UnderwayBy : List ℕ → Current → Beside → ℕ → Progress → List ℕ → List ℕ → ℕ → Type 0
UnderwayBy s c x t g out area next = Underway (book_of s) c.flow x t g out area next

pub record SlotServed (s : List ℕ) (c : Current) (at done slot : ℕ) (out area out' area' : List ℕ) (r : Served) : Type 0 where
  pub give_within : done + r.give ≤ work (current_flow s c) (pseudo_job c)
  pub next_within : r.next ≤ at + slot_bytes
  pub gives : (x : Beside) (ps : List PseudoJob) → UnderwayBy s c x slot (standing (pseudo_job c ∷ ps) done) out area at →
      r.give ≡ given (current_flow s c) (pseudo_job c) done (free_processors (book_of s) c.flow x.rows slot)
  pub serves : (x : Beside) (ps : List PseudoJob) → UnderwayBy s c x slot (standing (pseudo_job c ∷ ps) done) out area at →
      UnderwayBy s c x (suc slot) (after_slot (current_flow s c) (pseudo_job c ∷ ps) done (free_processors (book_of s) c.flow x.rows slot)) out' area' r.next

-- ---- one pseudo-job
-- it is finished, and its last slot is the flow's last used slot so far
pub record RunDone (s : List ℕ) (c : Current) (x : Beside) (ps : List PseudoJob) (slot : ℕ) (out area : List ℕ) (next : ℕ) : Type 0 where
  pub under : UnderwayBy s c x slot (standing ps 0) out area next
  pub finish : finish_of (rows_up_to (book_of s) c.flow x slot) c.flow ≡ slot

-- work is left after t slots
pub record WorkLeft (b : Book) (f : ℕ) (x : Beside) (t : ℕ) (out area : List ℕ) : Type 0 where
  pub current : PseudoJob
  pub later : List PseudoJob
  pub done : ℕ
  pub next : ℕ
  pub under : Underway b f x t (standing (current ∷ later) done) out area next

pub record RunPlaced (s : List ℕ) (c : Current) (from at limit : ℕ) (out area out' area' : List ℕ) (slot next : ℕ) : Type 0 where
  pub slot_after_is : from < slot
  pub slot_within : slot ≤ limit
  pub next_within : next ≤ at + slot_bytes * (slot - from)
  pub finished : (x : Beside) (ps : List PseudoJob) → UnderwayBy s c x from (standing (pseudo_job c ∷ ps) 0) out area at →
      RunDone s c x ps slot out' area' next

-- what the placing of a pseudo-job from slot `from` on answers
abbrev pub RunAnswer : List ℕ → Current → ℕ → ℕ → ℕ → List ℕ → List ℕ → List ℕ → List ℕ → Option Placed → Type 0
RunAnswer s c from at limit out area out' area' (Some p) = RunPlaced s c from at limit out area out' area' p.finish p.next
RunAnswer s c from at limit out area out' area' None =
    (x : Beside) (ps : List PseudoJob) → UnderwayBy s c x from (standing (pseudo_job c ∷ ps) 0) out area at →
    WorkLeft (book_of s) c.flow x limit out' area'

-- ---- without rows
-- Rows that are not put have an offset all the same: any offset at which those before them end. In no bytes at all,
-- nothing is put.

-- the slot of a pseudo-job that makes no rows
abbrev pub SlotUsed : List ℕ → Current → ℕ → ℕ → List ℕ → List ℕ → ℕ → Type 0
SlotUsed s c done slot area area' give = (at : ℕ) → (next : ℕ) × SlotServed s c at done slot [] area [] area' (record { next = next; give = give })

-- what the placing of a pseudo-job that makes no rows answers
abbrev pub RunUsed : List ℕ → Current → ℕ → ℕ → List ℕ → List ℕ → Option Placed → Type 0
RunUsed s c from limit area area' (Some p) = (at : ℕ) → (next : ℕ) × RunPlaced s c from at limit [] area [] area' p.finish next
RunUsed s c from limit area area' None = (at : ℕ) → RunAnswer s c from at limit [] area [] area' None

-- the offset in the table that the code holds is the rows' offset where they are put
abbrev pub OffsetIf : Bool → ℕ → ℕ → Type 0
OffsetIf listed offset held = listed ≡ true → offset ≡ held

-- the offsets of rows that are put fit a number; where none are put, no output is lent
pub record OutputRoom (listed : Bool) (lent last : ℕ) : Type 0 where
  pub offsets : listed ≡ true → last < 2 ^ 32
  pub nothing_lent : listed ≡ false → lent ≡ 0

-- what the placing of a pseudo-job answers, whether its rows are put or not
abbrev pub RunGoes : Bool → List ℕ → Current → ℕ → ℕ → ℕ → List ℕ → List ℕ → List ℕ → List ℕ → Option Placed → Type 0
RunGoes listed s c from held limit out area out' area' (Some p) =
    (at : ℕ) → OffsetIf listed at held → (offset : ℕ) × OffsetIf listed offset p.next × RunPlaced s c from at limit out area out' area' p.finish offset
RunGoes listed s c from held limit out area out' area' None =
    (at : ℕ) → OffsetIf listed at held → RunAnswer s c from at limit out area out' area' None

-- ---- one flow
-- the jobs and the path are those of flow f, on endless processors, of the book in these bytes, which passes
pub record FlowHeld (s : List ℕ) (f : ℕ) (jobs : List IdealJob) (longest : ℕ) : Type 0 where
  pub passes : book_fault s ≡ Pass
  pub flow_in_is : f < flow_count (book_of s)
  pub held : ChainOf (flow_of (book_of s) f) jobs longest

-- where flow f stands beside rows when the slots below a limit have passed
abbrev pub stands_at : Book → ℕ → ℕ → List Row → Progress
stands_at b f limit rows = progress (flow_of b f) (free_processors b f rows) limit

-- its rows in these slots
abbrev pub new_rows : Book → ℕ → ℕ → List Row → List Row
new_rows b f limit rows = flow_rows (flow_of b f) f (free_processors b f rows) limit

-- it is finished, and its rows are put and counted in
pub record FlowDone (b : Book) (f limit : ℕ) (rows : List Row) (area out : List ℕ) (at : ℕ) (out' area' : List ℕ) (finish next : ℕ) : Type 0 where
  pub finished : (stands_at b f limit rows).left ≡ []
  pub put : Put out at (new_rows b f limit rows) out' next
  pub area_used : area' ≡ work_used slots (rows ++ new_rows b f limit rows) area
  pub ends : finish ≡ finish_of (new_rows b f limit rows) f
  pub within : (t : ℕ) → used_in (rows ++ new_rows b f limit rows) t ≤ b.processors
  pub next_within : next ≤ at + flow_bytes
  pub finish_within : finish ≤ limit

-- it makes the book infeasible
pub record FlowInfeasible (b : Book) (f limit : ℕ) (rows : List Row) (area out out' area' : List ℕ) : Type 0 where
  pub unfinished : (stands_at b f limit rows).left ≡ [] → ⊥
  pub others : List Row
  pub area_used : area' ≡ work_used slots others area
  pub length_kept : length out' ≡ length out

-- what the placing of flow f in the slots below a limit answers
abbrev pub FlowPlaced : Bool → Book → ℕ → ℕ → List Row → List ℕ → List ℕ → ℕ → List ℕ → List ℕ → Option Placed → Type 0
FlowPlaced listed b f limit rows area out at out' area' (Some p) =
    (offset : ℕ) × OffsetIf listed offset p.next × FlowDone b f limit rows area out at out' area' p.finish offset
FlowPlaced listed b f limit rows area out at out' area' None = FlowInfeasible b f limit rows area out out' area'

-- .. beside whatever rows the area holds the use of, where they use no more than there is
abbrev pub PlacedBeside : Bool → Book → ℕ → ℕ → List ℕ → List ℕ → ℕ → List ℕ → List ℕ → Option Placed → Type 0
PlacedBeside listed b f limit out area at out' area' r =
    (rows : List Row) (bytes : List ℕ) → area ≡ work_used slots rows bytes → ((t : ℕ) → used_in rows t ≤ b.processors) →
    FlowPlaced listed b f limit rows bytes out at out' area' r
