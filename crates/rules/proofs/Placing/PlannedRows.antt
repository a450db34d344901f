-- What the placing of flows one after the other writes down: the rows of the first k flows are, flow by flow in service order, rows by slot and
-- job of what the flow's jobs get there; and where the placing stops, the flow that stops it still has work left. Assumes nothing.
use mathlib.Core.Path.{◌≡◌, refl, sym, ap, ◌∙◌}
use mathlib.Core.Logic.{⊎_elim}
use Prim.Native.Nat.{ℕ, zero, suc, ◌+◌, ◌-◌, ◌≤◌, ◌<◌, min}
use mathlib.Core.List.{List, [], ◌∷◌, ◌++◌}
use native.Mathlib.Nat.{add-zero, add-suc, lt-suc_self, eq-or-lt_of_le}
use native.Mathlib.Omega.{arith}
use Rattle.rules.specs.Walks.{sum_to, join_from}
use Rattle.rules.specs.Book.{Flow, Book, flow_count, job_count, flow_of}
use Rattle.rules.specs.PseudoJobs.{PseudoJob, rate, work}
use Rattle.rules.specs.Service.{served_at}
use Rattle.rules.specs.Rows.{Row, row_for, finish_of}
use Rattle.rules.specs.Schedule.{schedule_of}
use Rattle.rules.specs.Placing.{units_of, share, given, slot_rows, progress, flow_rows, free_processors, slots_for, Plan, planned, infeasible, settled, place_flow, then_place, place_first, rows_of}
use Rattle.rules.proofs.Laws.Sums.{sum-nothing, sum_one}
use Rattle.rules.proofs.Laws.Walks.{last_or, join-ext, join-snoc, join_last}
use Rattle.rules.proofs.Reading.ServiceOrder.{service-once}
use Rattle.rules.proofs.Rows.Rising.{◌∈◌, join_in, in_join}
use Rattle.rules.proofs.Rows.RowSums.{is_at, finish-same}
use Rattle.rules.proofs.Rows.FlowRows.{sum_where_join, flow_grid, grid_states, grid_states-nothing, grid_in}
use Rattle.rules.proofs.Placing.PlacedFlow.{share_to, share_in}

-- ---- the rows of one flow
-- a walk that brings nothing
pub join-nothing : (g : ℕ → List Row) (n s : ℕ) → ((k : ℕ) → k < n → g (s + k) ≡ []) → join_from g n s ≡ []
join-nothing g zero s h = unfold join_from in refl
join-nothing g (suc n) s h = rw (join-snoc g n s, join-nothing g n s (λ k l. h k (omega arith)), h n (lt-suc_self n)) refl

slot-rows : (w : Flow) (f t : ℕ) (ps : List PseudoJob) (done free : ℕ) →
    slot_rows w f t ps done free ≡ join_from (λ i. row_for t f i (share_to w i ps done free)) (job_count w) 0
slot-rows w f t [] done free =
    unfold slot_rows share_to in sym (join-nothing (λ i. row_for t f i 0) (job_count w) 0 (λ i l. unfold row_for in refl))
slot-rows w f t (p ∷ ps) done free = unfold slot_rows share_to in refl

pub flow-rows_grid : (w : Flow) (f : ℕ) (free : ℕ → ℕ) (n : ℕ) → flow_rows w f free n ≡ flow_grid f (job_count w) n (share_in w free)
unfolding flow_rows flow_grid
flow-rows_grid w f free n =
    join-ext (λ t. slot_rows w f t (progress w free t).left (progress w free t).done (free t))
    (λ t. join_from (λ i. row_for t f i (share_in w free i t)) (job_count w) 0) n 0
    (λ t l. slot-rows w f (0 + t) (progress w free (0 + t)).left (progress w free (0 + t)).done (free (0 + t)))

-- a slot with nothing free has no rows, nor have n such slots
no-slot_rows : (w : Flow) (f t : ℕ) (ps : List PseudoJob) (done : ℕ) → slot_rows w f t ps done 0 ≡ []
unfolding slot_rows given share units_of
no-slot_rows w f t [] done = refl
no-slot_rows w f t (p ∷ ps) done =
    let nothing : min (rate w p) (min (work w p - done) 0) ≡ 0 = omega arith in
    rw nothing (join-nothing (λ i. row_for t f i 0) (job_count w) 0 (λ i l. unfold row_for in refl))

pub no-rows_yet : (w : Flow) (f : ℕ) (free : ℕ → ℕ) (n : ℕ) → ((t : ℕ) → t < n → free t ≡ 0) → flow_rows w f free n ≡ []
unfolding flow_rows
no-rows_yet w f free n none =
    join-nothing (λ t. slot_rows w f t (progress w free t).left (progress w free t).done (free t)) n 0
    (λ t l. rw (none (0 + t) (omega arith)) (no-slot_rows w f (0 + t) (progress w free (0 + t)).left (progress w free (0 + t)).done))

-- ---- flows one after the other
-- the flow at position n of the service order, as it is used
abbrev pub served_flow : Book → ℕ → Flow
served_flow b n = flow_of b (served_at b n)

-- the processors free for it: in the slots that it can use, what the flows before it leave
abbrev pub free_for : Book → ℕ → ℕ → ℕ
free_for b n = free_processors b (served_at b n) (rows_of (place_first b n))

-- what job i of the flow at position n gets in slot t, and its rows
abbrev pub planned_share : Book → ℕ → ℕ → ℕ → ℕ
planned_share b n = share_in (served_flow b n) (free_for b n)

unfoldable pub planned_grid : Book → ℕ → List Row
planned_grid b n = flow_grid (served_at b n) (job_count (served_flow b n)) (slots_for b (served_flow b n)) (planned_share b n)

-- the flow at position n has no pseudo-job left after its slots
abbrev pub Finished : Book → ℕ → Type 0
Finished b n = (progress (served_flow b n) (free_for b n) (slots_for b (served_flow b n))).left ≡ []

planned_differs : {X : Type 0} (f : ℕ) (rows : List Row) → infeasible f ≡ planned rows → X
planned_differs f rows e = absurd (let z : ◌≡◌ {A = ℕ} 0 1 = cc in omega arith)

same_rows : (xs ys : List Row) → planned xs ≡ planned ys → xs ≡ ys
same_rows xs ys e = ap rows_of e

settled-planned : (f : ℕ) (left : List PseudoJob) (all rows : List Row) → settled f left all ≡ planned rows → (left ≡ []) × (rows ≡ all)
settled-planned f [] all rows e = (refl, sym (same_rows all rows e))
settled-planned f (p ∷ ps) all rows e = planned_differs f rows e

settled-infeasible : (f g : ℕ) (left : List PseudoJob) (all : List Row) → settled f left all ≡ infeasible g → (left ≡ [] → ⊥) × (f ≡ g)
settled-infeasible f g [] all e = planned_differs g all (sym e)
settled-infeasible f g (p ∷ ps) all e = (λ z. let d : ◌≡◌ {A = ℕ} 0 1 = cc in omega arith, cc)

-- one flow more: it is finished, and its rows stand behind those of the flows before
pub record PlacedNext (b : Book) (k : ℕ) (rows : List Row) : Type 0 where
  pub earlier : List Row
  pub placed_before : place_first b k ≡ planned earlier
  pub finished : Finished b k
  pub appended : rows ≡ earlier ++ planned_grid b k

pub placed-next : (b : Book) (k : ℕ) (rows : List Row) → place_first b (suc k) ≡ planned rows → PlacedNext b k rows
unfolding place_first
placed-next b k rows e = go (place_first b k) refl e
  where
    go : (q : Plan) → place_first b k ≡ q → then_place q (place_flow b (served_at b k)) ≡ planned rows → PlacedNext b k rows
    go (infeasible f) z d = planned_differs f rows d
    go (planned earlier) z d =
        let s = settled-planned (served_at b k) (progress (served_flow b k) (free_processors b (served_at b k) earlier) (slots_for b (served_flow b k))).left
        (earlier ++ flow_rows (served_flow b k) (served_at b k) (free_processors b (served_at b k) earlier) (slots_for b (served_flow b k))) rows (unfold place_flow in d) in
        record {
          earlier = earlier;
          placed_before = z;
          finished = rw z s.0;
          appended = s.1 ∙ ap (earlier ++◌) (unfold planned_grid in rw z (flow-rows_grid (served_flow b k) (served_at b k) (free_processors b (served_at b k) earlier) (slots_for b (served_flow b k))));
        }

-- the flow at which the placing stops
pub record Stopped (b : Book) (m f : ℕ) : Type 0 where
  pub position_at : ℕ
  pub position_below : position_at < m
  pub served : served_at b position_at ≡ f
  pub earlier : List Row
  pub placed_before : place_first b position_at ≡ planned earlier
  pub not_finished : Finished b position_at → ⊥

pub placing_stops : (b : Book) (m f : ℕ) → place_first b m ≡ infeasible f → Stopped b m f
unfolding place_first
placing_stops b zero f e = planned_differs f [] (sym e)
placing_stops b (suc k) f e = go (place_first b k) refl e (placing_stops b k f)
  where
    go : (q : Plan) → place_first b k ≡ q → then_place q (place_flow b (served_at b k)) ≡ infeasible f → (place_first b k ≡ infeasible f → Stopped b k f) → Stopped b (suc k) f
    go (infeasible g) z d ih =
        let s = ih (z ∙ d) in
        record { position_at = s.position_at; position_below = omega (arith, s.position_below); served = s.served; earlier = s.earlier; placed_before = s.placed_before; not_finished = s.not_finished }
    go (planned earlier) z d ih =
        let s = settled-infeasible (served_at b k) f (progress (served_flow b k) (free_processors b (served_at b k) earlier) (slots_for b (served_flow b k))).left
        (earlier ++ flow_rows (served_flow b k) (served_at b k) (free_processors b (served_at b k) earlier) (slots_for b (served_flow b k))) (unfold place_flow in d) in
        record { position_at = k; position_below = lt-suc_self k; served = s.1; earlier = earlier; placed_before = z; not_finished = rw z s.0 }

-- ---- the rows of the first k flows
pub placed-rows : (b : Book) (k : ℕ) (rows : List Row) → place_first b k ≡ planned rows → rows ≡ join_from (planned_grid b) k 0
placed-rows b zero rows e = unfold place_first join_from in sym (same_rows [] rows e)
placed-rows b (suc k) rows e =
    let s = placed-next b k rows e in
    s.appended ∙ ap (◌++ planned_grid b k) (placed-rows b k s.earlier s.placed_before) ∙
    sym (join_last (planned_grid b) k)

pub placed-finished : (b : Book) (k : ℕ) (rows : List Row) → place_first b k ≡ planned rows → (n : ℕ) → n < k → Finished b n
placed-finished b zero rows e n l = absurd (omega arith)
placed-finished b (suc k) rows e n l =
    let s = placed-next b k rows e in
    last_or n k l (λ q. rw q s.finished) (λ m. placed-finished b k s.earlier s.placed_before n m)

-- where flows are placed, so are those before them
pub placed-earlier : (b : Book) (k : ℕ) (rows : List Row) → place_first b k ≡ planned rows → (n : ℕ) → n < k → (earlier : List Row) × (place_first b n ≡ planned earlier)
placed-earlier b zero rows e n l = absurd (omega arith)
placed-earlier b (suc k) rows e n l =
    let s = placed-next b k rows e in
    last_or n k l (λ q. (s.earlier, rw q s.placed_before)) (λ m. placed-earlier b k s.earlier s.placed_before n m)

pub placed-up_to : (b : Book) (k : ℕ) (rows : List Row) → place_first b k ≡ planned rows → (n : ℕ) → n ≤ k → (earlier : List Row) × (place_first b n ≡ planned earlier)
placed-up_to b k rows e n l = ⊎_elim (λ q. (rows, ap (place_first b) q ∙ e)) (placed-earlier b k rows e n) (eq-or-lt_of_le l)

-- and a flow that stops the placing stops it for good
pub stopped-on : (b : Book) (m f : ℕ) → place_first b m ≡ infeasible f → (k : ℕ) → place_first b (m + k) ≡ infeasible f
stopped-on b m f e zero = ap (place_first b) (add-zero m) ∙ e
stopped-on b m f e (suc k) = ap (place_first b) (add-suc m k) ∙ on (stopped-on b m f e k)
  where
    on : place_first b (m + k) ≡ infeasible f → place_first b (suc (m + k)) ≡ infeasible f
    on h = unfold place_first in ap (λ p. then_place p (place_flow b (served_at b (m + k)))) h

-- the rows of a flow are its own, so that the flows after it do not change its finish
grid-flow : (b : Book) (n : ℕ) (r : Row) → r ∈ planned_grid b n → r.flow ≡ served_at b n
unfolding planned_grid
grid-flow b n r m =
    ap (λ (x : Row). x.flow) (grid_in (served_at b n) (job_count (served_flow b n)) (slots_for b (served_flow b n)) (planned_share b n) r m).4

pub finish-settled : (b : Book) (m k : ℕ) (first rows : List Row) → m ≤ k → k ≤ flow_count b → place_first b m ≡ planned first → place_first b k ≡ planned rows →
    (n : ℕ) → n < m → finish_of first (served_at b n) ≡ finish_of rows (served_at b n)
finish-settled b m k first rows l h e d n c =
    rw (placed-rows b m first e, placed-rows b k rows d)
    (finish-same (join_from (planned_grid b) m 0) (join_from (planned_grid b) k 0) (served_at b n)
    (λ r i q. let w = join_in (planned_grid b) m i in in_join (planned_grid b) k w.0 (omega (arith, w.1)) w.2)
    (λ r i q. let w = join_in (planned_grid b) k i in
    let same : w.0 ≡ n = service-once b w.0 n (omega (arith, w.1)) (omega arith) (sym (grid-flow b w.0 r w.2) ∙ q) in
    in_join (planned_grid b) m w.0 (omega arith) w.2))

-- they state for a flow what its own rows state, and nothing for the others
module _ (b : Book) (k : ℕ) (rows : List Row) (e : place_first b k ≡ planned rows) where
  schedule-sum : (g i t : ℕ) → schedule_of rows g i t ≡ sum_to (λ n. schedule_of (planned_grid b n) g i t) k
  unfolding schedule_of
  schedule-sum g i t = rw (placed-rows b k rows e) (sum_where_join (is_at g i t) (planned_grid b) k)

  other_grid : (n g i t : ℕ) → (served_at b n ≡ g → ⊥) → schedule_of (planned_grid b n) g i t ≡ 0
  unfolding planned_grid
  other_grid n g i t ne =
      grid_states-nothing (served_at b n) (job_count (served_flow b n)) (slots_for b (served_flow b n)) (planned_share b n) g i t (λ q a c. ne (sym q))

  pub states-nothing : (g i t : ℕ) → ((n : ℕ) → n < k → served_at b n ≡ g → ⊥) → schedule_of rows g i t ≡ 0
  states-nothing g i t ne = schedule-sum g i t ∙ sum-nothing _ k (λ n l. other_grid n g i t (ne n l))

  pub states-own : k ≤ flow_count b → (n i t : ℕ) → n < k → schedule_of rows (served_at b n) i t ≡ schedule_of (planned_grid b n) (served_at b n) i t
  states-own h n i t l =
      schedule-sum (served_at b n) i t ∙
      sum_one (λ m. schedule_of (planned_grid b m) (served_at b n) i t) k n l
      (λ m c ne. other_grid m (served_at b n) i t (λ q. ne (service-once b m n (omega arith) (omega arith) q)))

  -- the plan: what a job gets, within the slots of its flow
  pub states-share : k ≤ flow_count b → (n i t : ℕ) → n < k → i < job_count (served_flow b n) → t < slots_for b (served_flow b n) →
      schedule_of rows (served_at b n) i t ≡ planned_share b n i t
  states-share h n i t l a c =
      states-own h n i t l ∙
      (unfold planned_grid in grid_states (served_at b n) (job_count (served_flow b n)) (slots_for b (served_flow b n)) (planned_share b n) i t a c)

  pub states-none_of-flow : k ≤ flow_count b → (n i t : ℕ) → n < k → (i < job_count (served_flow b n) → t < slots_for b (served_flow b n) → ⊥) →
      schedule_of rows (served_at b n) i t ≡ 0
  states-none_of-flow h n i t l ne =
      states-own h n i t l ∙
      (unfold planned_grid in grid_states-nothing (served_at b n) (job_count (served_flow b n)) (slots_for b (served_flow b n)) (planned_share b n) (served_at b n) i t (λ q a c. ne a c))
