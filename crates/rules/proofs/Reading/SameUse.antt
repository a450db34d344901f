-- Books that are used alike have equal outcomes. Order, tables and the tests of a row read of a book P, the number of flows and each flow as it is used, and
-- no more; plan and faults read its calendar too. Where these are equal, whatever is made of them is. Assumes nothing.
use mathlib.Core.Path.{◌≡◌, refl, ap}
use Prim.Native.Nat.{ℕ, zero, suc}
use mathlib.Core.Bool.{Bool}
use mathlib.Core.List.{List, [], ◌∷◌}
use lib.ListN.{length, get_or}
use Rattle.rules.specs.Verdicts.{Verdict, Pass, Refused}
use Rattle.rules.specs.Walks.{count_to}
use Rattle.rules.specs.Answers.{◌and_then◌, first_fault}
use Rattle.rules.specs.Calendar.{Calendar, is_open}
use Rattle.rules.specs.Book.{Book, with_calendar, flow_count, job_count, flow_in, flow_of, usable}
use Rattle.rules.specs.Reading.{read}
use Rattle.rules.specs.Service.{served_before, insert_flow, order_of, service_order, position}
use Rattle.rules.specs.Rows.{Row, finish_of, is_late, late_flows}
use Rattle.rules.specs.Placing.{free_processors, Plan, planned, infeasible, place_flow, then_place, place_first, plan}
use Rattle.rules.specs.Table.{table_length, table_bytes}
use Rattle.rules.specs.Planner.{plan_outcome, plan_reading}
use Rattle.rules.specs.Check.{table_rows, table_head_fault, row_before, rises, no_row, lacks_predecessor, before_release, row_fault, total_fault, finish_fault, table_fault, CheckOutcome, check_outcome, check_reading}
use Rattle.rules.specs.Dispatch.{list_bytes, list_outcome, dispatch_checked}
use Rattle.rules.specs.Finish.{up_to_named, finish_reading}
use Rattle.rules.proofs.Placing.OpenSlots.{limit-same}

-- all that order, tables and the tests of a row read of a book
pub record SameFlows (b c : Book) : Type 0 where
  pub processors : b.processors ≡ c.processors
  pub count : flow_count b ≡ flow_count c
  pub flow : (f : ℕ) → flow_of b f ≡ flow_of c f

-- .. and all that plan and faults read
pub record SameUse (b c : Book) : Type 0 where
  pub flows : SameFlows b c
  pub calendar : b.calendar ≡ c.calendar

-- a book with another calendar has the same flows
pub with-same : (c : Calendar) (b : Book) → SameFlows (with_calendar c b) b
with-same c b = record { processors = refl; count = refl; flow = λ f. unfold flow_of flow_in in refl }

module _ (b c : Book) (same : SameFlows b c) where
  -- ---- the order
  served-same : (g f : ℕ) → served_before b g f ≡ served_before c g f
  unfolding served_before
  served-same g f = rw (same.flow g, same.flow f) refl

  insert-same : (f : ℕ) (gs : List ℕ) → insert_flow b f gs ≡ insert_flow c f gs
  unfolding insert_flow
  insert-same f [] = refl
  insert-same f (g ∷ gs) = rw (served-same g f, insert-same f gs) refl

  order_same : (n : ℕ) → order_of b n ≡ order_of c n
  unfolding order_of
  order_same zero = refl
  order_same (suc n) = λ x. insert-same n (order_same n x) x

  pub service-same : service_order b ≡ service_order c
  unfolding service_order
  service-same = λ x. order_same (same.count x) x

  pub position-same : (f : ℕ) → position b f ≡ position c f
  unfolding position
  position-same f = λ x. count_to (λ g. served-same g f x) (same.count x)

  -- ---- the table
  pub late-same : (rows : List Row) → late_flows b rows ≡ late_flows c rows
  unfolding late_flows
  late-same rows = λ x. count_to (λ f. is_late (same.flow f x) (finish_of rows f)) (same.count x)

  pub length-same : (rows : List Row) → table_length b rows ≡ table_length c rows
  unfolding table_length
  length-same rows = rw same.count refl

  pub table_same : (rows : List Row) → table_bytes b rows ≡ table_bytes c rows
  unfolding table_bytes
  table_same rows = rw (length-same rows, same.processors, same.count) refl

  pub outcome-same : (out area : List ℕ) (p : Plan) → plan_outcome b out area p ≡ plan_outcome c out area p
  unfolding plan_outcome
  outcome-same out area (infeasible f) = refl
  outcome-same out area (planned rows) = rw (length-same rows, late-same rows, table_same rows) refl

  pub rows_same : (s : List ℕ) → table_rows b s ≡ table_rows c s
  unfolding table_rows
  rows_same s = rw same.count refl

  pub head-same : (s : List ℕ) → table_head_fault b s ≡ table_head_fault c s
  unfolding table_head_fault
  head-same s = rw (same.processors, same.count) refl

  -- ---- the tests of a row, and the rest of the check
  rises-same : (rows : List Row) (k : ℕ) → rises b rows k ≡ rises c rows k
  unfolding rises row_before
  rises-same rows zero = refl
  rises-same rows (suc k) = rw (served-same (get_or rows k no_row).flow (get_or rows (suc k) no_row).flow) refl

  pub row_same : (opened : ℕ → Bool) (rows : List Row) (k : ℕ) → row_fault b opened rows k ≡ row_fault c opened rows k
  unfolding row_fault before_release lacks_predecessor
  row_same opened rows k = rw (same.flow (get_or rows k no_row).flow, same.count, rises-same rows k, same.processors) refl

  pub total-same : (rows : List Row) (f i : ℕ) → total_fault b rows f i ≡ total_fault c rows f i
  unfolding total_fault
  total-same rows f i = rw (same.flow f) refl

  -- the faults of a table, with the same slots open
  pub faults-same : (opened other : ℕ → Bool) → opened ≡ other → (s : List ℕ) →
      (table_head_fault b s
      and_then first_fault (row_fault b opened (table_rows b s)) (length (table_rows b s))
      and_then first_fault (λ f. first_fault (total_fault b (table_rows b s) f) (job_count (flow_of b f))) (flow_count b)
      and_then first_fault (finish_fault s (table_rows b s)) (flow_count b))
      ≡
      (table_head_fault c s
      and_then first_fault (row_fault c other (table_rows c s)) (length (table_rows c s))
      and_then first_fault (λ f. first_fault (total_fault c (table_rows c s) f) (job_count (flow_of c f))) (flow_count c)
      and_then first_fault (finish_fault s (table_rows c s)) (flow_count c))
  faults-same opened other e s = λ x.
      let rows = rows_same s x in
      head-same s x
      and_then first_fault (λ k. row_same (e x) rows k x) (length rows)
      and_then first_fault (λ f. first_fault (λ i. total-same rows f i x) (job_count (same.flow f x))) (same.count x)
      and_then first_fault (finish_fault s rows) (same.count x)

  pub judged-same : (s area : List ℕ) (v : Verdict) → check_outcome b s area v ≡ check_outcome c s area v
  unfolding check_outcome
  judged-same s area (Refused n f j) = refl
  judged-same s area Pass = rw (rows_same s, late-same (table_rows c s)) refl

  -- ---- the outcome of the dispatch list
  pub dispatch-same : (table out area : List ℕ) (o : CheckOutcome) →
      dispatch_checked b (table_rows b table) out area o ≡ dispatch_checked c (table_rows c table) out area o
  unfolding dispatch_checked list_outcome list_bytes
  dispatch-same table out area o = rw (rows_same table, same.processors) refl

-- one flow that both books use alike is placed alike, beside the same rows
module _ (b c : Book) (processors : b.processors ≡ c.processors) (calendar : b.calendar ≡ c.calendar) (f : ℕ) (flow : flow_of b f ≡ flow_of c f)
    (rows : List Row) where
  free-same : (t : ℕ) → free_processors b f rows t ≡ free_processors c f rows t
  unfolding free_processors usable
  free-same t = rw (flow, processors, calendar) refl

  pub place_same : place_flow b f rows ≡ place_flow c f rows
  unfolding place_flow
  place_same =
      let free : free_processors b f rows ≡ free_processors c f rows = λ x t. free-same t x in
      rw (flow, limit-same b c calendar (flow_of c f), free) refl

module _ (b c : Book) (same : SameUse b c) where
  -- ---- the plan
  pub first-same : (k : ℕ) → place_first b k ≡ place_first c k
  unfolding place_first
  first-same zero = refl
  first-same (suc k) = λ x. then_place (first-same k x) (λ rows. placed (get_or (service-same b c same.flows x) k 0) rows x)
    where
      placed : (f : ℕ) (rows : List Row) → place_flow b f rows ≡ place_flow c f rows
      placed f rows = place_same b c same.flows.processors same.calendar f (same.flows.flow f) rows

  plan-same : plan b ≡ plan c
  unfolding plan
  plan-same = λ x. first-same (same.flows.count x) x

  -- ---- the outcomes
  pub plan_reading-same : (out area : List ℕ) → plan_reading out area (read b) ≡ plan_reading out area (read c)
  unfolding plan_reading
  plan_reading-same out area = rw (plan-same, outcome-same b c same.flows out area (plan c)) refl

  fault-same : (s : List ℕ) → table_fault b s ≡ table_fault c s
  unfolding table_fault
  fault-same s = faults-same b c same.flows (is_open b.calendar) (is_open c.calendar) (ap is_open same.calendar) s

  pub check_reading-same : (s area : List ℕ) → check_reading s area (read b) ≡ check_reading s area (read c)
  unfolding check_reading
  check_reading-same s area = rw (fault-same s, judged-same b c same.flows s area (table_fault c s)) refl

  pub finish_reading-same : (f : ℕ) (area : List ℕ) → finish_reading f area (read b) ≡ finish_reading f area (read c)
  unfolding finish_reading
  finish_reading-same f area = rw (position-same b c same.flows f, first-same (up_to_named c f)) refl
