-- A book that rule 6 calls infeasible: no schedule of the flow named and those before it is on time, whoever made it.
-- The refusal over sequences of flows is read with the flows in service order; flows that differ share the processors of a slot, so a schedule
-- of the book is one of the sequence. On time, a flow has its path in the open slots between release and deadline, and the work up to it fits P
-- processors over the open slots before the deadline; by twice the deadline as many open slots have passed since the release as both take
-- together. Assumes nothing.
use mathlib.Core.Path.{◌≡◌, refl, ap, ◌∙◌}
use Prim.Native.Nat.{ℕ, suc, ◌+◌, ◌≤◌, ◌<◌}
use mathlib.Core.Bool.{Bool, true, false, ◌||◌}
use mathlib.Core.List.{List}
use native.Mathlib.Nat.{le_trans, le_of_lt}
use native.Mathlib.Omega.{arith}
use lib.Dec.{eqb}
use borrow.Author.Tests.{eq-eqb}
use Rattle.rules.specs.Walks.{sum_to}
use Rattle.rules.specs.Calendar.{is_open, open_before}
use Rattle.rules.specs.Book.{Book, flow_count, job_count, flow_of, usable, twice_deadline, InRange}
use Rattle.rules.specs.Service.{served_before, served_at, up_to}
use Rattle.rules.specs.Rows.{Row, used_in}
use Rattle.rules.specs.Placing.{slots_for, planned, place_first}
use Rattle.rules.specs.Schedule.{Schedule, IsJob, in_use, Valid, EndsBy}
use Rattle.rules.specs.Demands.Planner.{NoneOnTime}
use Rattle.rules.proofs.Laws.Sums.{sum_quiet, sum_distinct}
use Rattle.rules.proofs.Laws.Walks.{last_or}
use Rattle.rules.proofs.Chains.PseudoJobs.{chain_live}
use Rattle.rules.proofs.Reading.ServiceOrder.{service-below, service_sorted, service-once, service-deadlines}
use Rattle.rules.proofs.Placing.OpenSlots.{open_mono, limit-count}
use Rattle.rules.proofs.Placing.Usable.{usable_open, count-usable, given-usable, free-usable}
use Rattle.rules.proofs.Placing.Greedy.{units_left_at, something-left}
use Rattle.rules.proofs.Placing.Necessity.{Keeps, CompleteBy, OnTime}
use Rattle.rules.proofs.Placing.Refusal.{refusal}
use Rattle.rules.proofs.Placing.PlannedRows.{served_flow, free_for, Stopped}
use Rattle.rules.proofs.Placing.PlannedValid.{range_at, sized-at, used-within-work}

module _ (b : Book) (range : InRange b) where
  -- in a slot that the flow at a position can use, the processors free for it and those that the flows before it use are P
  pub free-or-used : (n : ℕ) (earlier : List Row) → place_first b n ≡ planned earlier → (t : ℕ) → usable b (served_flow b n) t ≡ true →
      b.processors ≤ used_in earlier t + free_for b n t
  free-or-used n earlier e t u = rw e (omega (arith, free-usable b (served_at b n) earlier t u))

  -- the flows up to place n are those up to the flow at n
  pub up_to-at : (n f : ℕ) → n < flow_count b → served_at b n ≡ f → (m : ℕ) → m < suc n → up_to b f (served_at b m) ≡ true
  up_to-at n f below at m l =
      last_or m n l (λ q. here (served_at b m) (ap (served_at b) q ∙ at)) (λ k. earlier (served_at b m) (rw at at (service_sorted b m n k below)))
    where
      here : (g : ℕ) → g ≡ f → (eqb g f || served_before b g f) ≡ true
      here g q = rw (eq-eqb g f q) refl

      earlier : (g : ℕ) → served_before b g f ≡ true → (eqb g f || served_before b g f) ≡ true
      earlier g q = go (eqb g f)
        where
          go : (c : Bool) → (c || served_before b g f) ≡ true
          go true = refl
          go false = q

  -- ---- a schedule of the flows up to f, at position n, that ends each by its deadline
  module _ (n f : ℕ) (below : n < flow_count b) (at : served_at b n ≡ f) (σ : Schedule) (valid : Valid b (up_to b f) σ)
      (on-time : (g : ℕ) → g < flow_count b → up_to b f g ≡ true → EndsBy σ g (flow_of b g).deadline) where
    is-job : (m i : ℕ) → m < suc n → i < job_count (served_flow b m) → IsJob b (up_to b f) (served_at b m) i
    is-job m i l a = record { flow_among = up_to-at n f below at m l; flow_in_is = service-below b m (omega arith); job_in = a }

    keeps_rules : (m : ℕ) → m < suc n → Keeps (served_flow b m) (usable b (served_flow b m)) (σ (served_at b m))
    keeps_rules m l = record {
      capped = λ i t a. valid.caps (served_at b m) i t (is-job m i l a);
      in_usable = λ i t a. given-usable b (up_to b f) σ valid (served_at b m) i t (is-job m i l a);
      in_order = λ i k t a c q g. omega (arith, valid.precedence (served_at b m) i k t (is-job m i l a) q g);
    }

    -- the flows of the sequence differ, so they share what is in use
    shares-load : (t : ℕ) → sum_to (λ m. sum_to (λ i. σ (served_at b m) i t) (job_count (served_flow b m))) (suc n) ≤ b.processors
    shares-load t =
        le_trans
        (sum_distinct (λ g. sum_to (λ i. σ g i t) (job_count (flow_of b g))) (served_at b) (suc n) (flow_count b)
        (λ k l. service-below b k (omega arith)) (λ j k a c q. service-once b j k (omega arith) (omega arith) q))
        (unfold in_use in valid.together t)

    ends-complete : (m : ℕ) → m < suc n → CompleteBy (served_flow b m) (σ (served_at b m)) (served_flow b m).deadline
    ends-complete m l i a =
        let quiet : (t : ℕ) → (served_flow b m).deadline ≤ t → σ (served_at b m) i t ≡ 0 =
        λ t. (unfold EndsBy in on-time (served_at b m) (service-below b m (omega arith)) (up_to-at n f below at m l) i t) in
        omega (arith, valid.sizes (served_at b m) i (is-job m i l a), sum_quiet (σ (served_at b m) i) (served_flow b m).deadline valid.horizon quiet)

    pub sequence-on_time : OnTime b.processors (suc n) (served_flow b) (λ m. usable b (served_flow b m)) (λ m. (served_flow b m).deadline) (λ m. σ (served_at b m))
    sequence-on_time = record { keeps = keeps_rules; load = shares-load; complete = ends-complete }

  -- the flow at position n, with work left after twice the open slots before its deadline
  none_on_time : (n : ℕ) (earlier : List Row) → n < flow_count b → place_first b n ≡ planned earlier →
      0 < units_left_at (served_flow b n) (free_for b n) (slots_for b (served_flow b n)) → NoneOnTime b (served_at b n)
  unfolding NoneOnTime
  none_on_time n earlier below e left σ valid on-time =
      refusal b.processors n (served_flow b) (λ m. usable b (served_flow b m)) (free_for b n) (used_in earlier) (sized-at b range n below)
      (free-or-used n earlier e) (used-within-work b range n earlier (omega arith) e)
      (slots_for b (served_flow b n)) (is_open b.calendar) (λ m. (served_flow b m).deadline) (λ m t l. usable_open b (served_flow b m) t)
      (λ m l. service-deadlines b m n (omega arith) below)
      (unfold open_before twice_deadline in omega (
        arith,
        count-usable b (served_flow b n) (served_flow b n).deadline,
        count-usable b (served_flow b n) (slots_for b (served_flow b n)),
        limit-count b (served_flow b n) range.calendar_in_range (range_at b range n below).deadline_most,
        open_mono b.calendar (le_of_lt (range_at b range n below).release_below),
      ))
      left
      (λ m. σ (served_at b m)) (sequence-on_time n (served_at b n) below refl σ valid on-time)

  -- a flow that stops the placing
  pub stopped_proves : (m f : ℕ) → m ≤ flow_count b → Stopped b m f → (f < flow_count b) × NoneOnTime b f
  stopped_proves m f h s =
      let n = s.position_at in
      let below : n < flow_count b = omega (arith, s.position_below) in
      let left : 0 < units_left_at (served_flow b n) (free_for b n) (slots_for b (served_flow b n)) =
      something-left (served_flow b n) (free_for b n) (chain_live (served_flow b n) (sized-at b range n below)) (slots_for b (served_flow b n)) s.not_finished in
      (rw s.served at (service-below b n below), rw s.served at (none_on_time n s.earlier below s.placed_before left))
