-- Flows placed one after the other without rows, beside the cluster's maintenance. Assumes nothing.
use Rattle.std.specs.Prelude.{◌≡◌, ℕ, suc, ◌<◌, ◌≤◌, List, length, Result, Ok, Err}
use Rattle.rules.specs.declared.Fault.{Fault}
use Rattle.rules.specs.declared.Fault.TheVariants.{Infeasible}
use Rattle.rules.specs.declared.Refusal.{Refusal}
use Rattle.rules.specs.Answers.{none}
use Rattle.rules.specs.Faults.{refusal_at}
use Rattle.rules.specs.Limits.{slots, work_bytes}
use Rattle.rules.specs.Verdicts.{Pass}
use Rattle.rules.specs.Calendar.{Calendar, CalendarInRange}
use Rattle.rules.specs.Book.{Book, with_calendar, flow_count, flow_of}
use Rattle.rules.specs.Reading.{book_of, book_fault}
use Rattle.rules.specs.Service.{served_at}
use Rattle.rules.specs.Rows.{Row, used_in, finish_of, work_used}
use Rattle.rules.specs.Placing.{slots_for, infeasible, place_first}
use Rattle.place.specs.Order.{Stands}
use Rattle.finish.specs.declared.Placement.{Placement}

-- the flows before the state's position are placed, and the state has the finish of the last
pub record PlacedTo (b : Book) (bytes area : List ℕ) (p : Placement) : Type 0 where
  pub rows : List Row
  pub stands : Stands b p.position rows bytes area
  pub finish : (k : ℕ) → p.position ≡ suc k → p.finish ≡ finish_of rows (served_at b k)

-- the flow at the state's position is infeasible beside those before it
pub record StopsAt (b : Book) (bytes area : List ℕ) (p : Placement) : Type 0 where
  pub refused : place_first b (suc p.position) ≡ infeasible (served_at b p.position)
  pub others : List Row
  pub area_used : area ≡ work_used slots others bytes

-- what the placing of the next flow asks: there is one, and the area is long enough and holds the use of rows that
-- leave room for it
pub record NextAsked (b : Book) (area : List ℕ) (p : Placement) : Type 0 where
  pub below : p.position < flow_count b
  pub long_enough : work_bytes ≤ length area
  pub bytes : List ℕ
  pub rows : List Row
  pub area_used : area ≡ work_used slots rows bytes
  pub within : (t : ℕ) → used_in rows t ≤ b.processors

-- the next flow is placed, or it is infeasible
pub record Moved (b : Book) (bytes area : List ℕ) (p r : Placement) : Type 0 where
  pub moves : r.position ≡ suc p.position
  pub so_far_lem : PlacedTo b bytes area r

pub record Stayed (b : Book) (bytes area : List ℕ) (p : Placement) (e : Fault) : Type 0 where
  pub infeasible_is : e ≡ Infeasible
  pub stopped : StopsAt b bytes area p

abbrev pub NextState : Book → List ℕ → List ℕ → Placement → Result Placement Fault → Type 0
NextState b bytes area p (Ok r) = Moved b bytes area p r
NextState b bytes area p (Err e) = Stayed b bytes area p e

-- .. where those before it are placed
unfoldable pub NextPlaced : Book → Placement → List ℕ → List ℕ → Result Placement Fault → Type 0
NextPlaced b p area area' r = (bytes : List ℕ) → PlacedTo b bytes area p → NextState b bytes area' p r

-- what the placing of flow f below a limit asks, whatever the calendar: the book in these bytes passes, the flow is the
-- one at the state's position, and the area holds the use of rows that leave room for it
pub record FlowAsked (s area : List ℕ) (p : Placement) (f limit : ℕ) : Type 0 where
  pub passes : book_fault s ≡ Pass
  pub limit_most : limit ≤ slots
  pub long_enough : work_bytes ≤ length area
  pub below : p.position < flow_count (book_of s)
  pub served : (c : Calendar) → f ≡ served_at (with_calendar c (book_of s)) p.position
  pub bytes : List ℕ
  pub rows : List Row
  pub area_used : area ≡ work_used slots rows bytes
  pub within : (t : ℕ) → used_in rows t ≤ (book_of s).processors

-- the limit is that of flow f of the book
abbrev pub LimitOf : Book → ℕ → ℕ → Type 0
LimitOf b f limit = limit ≡ slots_for b (flow_of b f)

-- .. it is placed or infeasible by each calendar that the limit comes of
unfoldable pub FlowGoesOn : List ℕ → ℕ → ℕ → Placement → List ℕ → List ℕ → Result Placement Fault → Type 0
FlowGoesOn s f limit p area area' r =
    (c : Calendar) → CalendarInRange c → LimitOf (with_calendar c (book_of s)) f limit → (bytes : List ℕ) →
    PlacedTo (with_calendar c (book_of s)) bytes area p → NextState (with_calendar c (book_of s)) bytes area' p r

-- what a step comes to that leaves a state behind: that state, or why it stays
abbrev pub stepped : {T : Type 0} → Result T Fault → Placement → Result Placement Fault
stepped (Ok _) p = Ok p
stepped (Err e) p = Err e

-- the first k flows are placed, and this is the finish of the last, or one of them is infeasible and the state is at it
pub record PlacedAll (b : Book) (k : ℕ) (area area' : List ℕ) (finish : ℕ) : Type 0 where
  pub state : Placement
  pub all : state.position ≡ k
  pub so_far_lem : PlacedTo b area area' state
  pub last : finish ≡ state.finish

pub record PlacedSome (b : Book) (k : ℕ) (area area' : List ℕ) (e : Refusal) : Type 0 where
  pub state : Placement
  pub some : state.position < k
  pub refusal : e ≡ refusal_at Infeasible (served_at b state.position) none
  pub stopped : StopsAt b area area' state

abbrev pub PlacedUpTo : Book → ℕ → List ℕ → List ℕ → Result ℕ Refusal → Type 0
PlacedUpTo b k area area' (Ok finish) = PlacedAll b k area area' finish
PlacedUpTo b k area area' (Err e) = PlacedSome b k area area' e
