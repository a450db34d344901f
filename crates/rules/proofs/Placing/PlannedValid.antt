-- The rows of a plan are a valid schedule: caps, at most P processors in every slot, exact sizes, precedence, nothing before a release or in a
-- shut slot, and nothing else; and each flow ends within twice its deadline, in open slots. Flow by flow this is what one placed flow keeps; the
-- flows share a slot because each gets at most what those before it leave free. Everything is shown of the first k flows placed, and read off
-- for the whole plan. Assumes nothing.
use mathlib.Core.Path.{◌≡◌, refl, sym, ap, subst, ◌∙◌}
use Prim.Native.Nat.{ℕ, zero, suc, ◌+◌, ◌-◌, ◌≤◌, ◌<◌}
use mathlib.Core.Bool.{Bool, true, false, false≢true}
use mathlib.Core.List.{List}
use mathlib.Core.Logic.{◌⊎◌, inl, inr}
use native.Mathlib.Nat.{le_trans}
use native.Mathlib.Omega.{arith}
use Rattle.rules.specs.Walks.{sum_to, join_from}
use Rattle.rules.specs.Limits.{slots}
use Rattle.rules.specs.Book.{Book, flow_count, job_count, flow_of, job_of, precedes, usable, FlowInRange, InRange}
use Rattle.rules.specs.Service.{served_at}
use Rattle.rules.specs.Rows.{Row, sum_where, used_in, finish_of}
use Rattle.rules.specs.Schedule.{Schedule, every_flow, IsJob, Valid, EndsBy, InSlots, schedule_of}
use Rattle.rules.specs.Placing.{slots_for, planned, place_first, rows_of, plan}
use Rattle.rules.specs.Cut.{among_first}
use Rattle.rules.specs.Demands.Planner.{WithinTwice}
use Rattle.rules.proofs.Reading.Caps.{used_in-range}
use Rattle.rules.proofs.Laws.Division.{lt-or_ge}
use Rattle.rules.proofs.Laws.Bits.{bit_below}
use Rattle.rules.proofs.Laws.Sums.{sum_ext, sum_mono, sum-add, sum-zero, sum_up, sum_quiet}
use Rattle.rules.proofs.Chains.Ideal.{Sized, in-range-sized}
use Rattle.rules.proofs.Chains.PseudoJobs.{chain_live, chain-works}
use Rattle.rules.proofs.Reading.ServiceOrder.{service-below}
use Rattle.rules.proofs.Reading.CutBook.{among-position, position-among, among-all}
use Rattle.rules.proofs.Placing.OpenSlots.{open_none, open_mono, limit_most, limit-count}
use Rattle.rules.proofs.Placing.Usable.{none_free, free-within}
use Rattle.rules.proofs.Placing.Greedy.{given_in, given_in-le-free, given-and-left}
use Rattle.rules.proofs.Placing.Necessity.{flow_work, works_up_to}
use Rattle.rules.proofs.Rows.Rising.{◌∈◌, join_in}
use Rattle.rules.proofs.Rows.RowSums.{used-in_use}
use Rattle.rules.proofs.Rows.FlowRows.{used-append, grid-used, grid-not-used, grid_in}
use Rattle.rules.proofs.Rows.RowSums.{ends-finish}
use Rattle.rules.proofs.Placing.PlacedFlow.{placed-together, placed-within-cap, placed-within-free, placed_exactly, placed-in_order}
use Rattle.rules.proofs.Placing.PlannedRows.{
  served_flow,
  free_for,
  planned_share,
  planned_grid,
  placed-next,
  placed-rows,
  placed-finished,
  states-nothing,
  states-share,
  states-none_of-flow,
}

-- a row of a plan: a job of the book, at least one processor and at most the cap, within the limit of its flow
pub record RowFits (b : Book) (r : Row) : Type 0 where
  pub flow_in_is : r.flow < flow_count b
  pub job_in : r.job < job_count (flow_of b r.flow)
  pub processors_least : 1 ≤ r.processors
  pub processors_most : r.processors ≤ (job_of (flow_of b r.flow) r.job).cap
  pub slot_in : r.slot < slots_for b (flow_of b r.flow)

-- the same schedule, for a test that picks the same flows of the book
pub valid-among : (b : Book) (p q : ℕ → Bool) (σ : Schedule) → ((f : ℕ) → f < flow_count b → p f ≡ q f) → Valid b p σ → Valid b q σ
valid-among b p q σ same v = record {
  no_others = λ f i t ne. v.no_others f i t (λ j. ne (over p q same f i j));
  caps = λ f i t j. v.caps f i t (back f i j);
  together = v.together;
  horizon = v.horizon;
  nothing_after = v.nothing_after;
  sizes = λ f i j. v.sizes f i (back f i j);
  precedence = λ f i k t j. v.precedence f i k t (back f i j);
  in_usable = λ f i t j. v.in_usable f i t (back f i j);
}
  where
    over : (p q : ℕ → Bool) → ((f : ℕ) → f < flow_count b → p f ≡ q f) → (f i : ℕ) → IsJob b p f i → IsJob b q f i
    over p q same f i j = record { flow_among = sym (same f j.flow_in_is) ∙ j.flow_among; flow_in_is = j.flow_in_is; job_in = j.job_in }

    back : (f i : ℕ) → IsJob b q f i → IsJob b p f i
    back f i j = over q p (λ g l. sym (same g l)) f i j

module _ (b : Book) (range : InRange b) where
  pub range_at : (n : ℕ) → n < flow_count b → FlowInRange b.processors (served_flow b n)
  range_at n l = used_in-range range (served_at b n) (service-below b n l)

  pub sized-at : (n : ℕ) → n < flow_count b → Sized (served_flow b n)
  sized-at n l = in-range-sized (range_at n l)

  -- ---- the use of slots
  -- a flow's rows use at most what the flow is given
  grid-within-given : (n t : ℕ) → n < flow_count b → used_in (planned_grid b n) t ≤ given_in (served_flow b n) (free_for b n) t
  unfolding planned_grid
  grid-within-given n t l = go (lt-or_ge t (slots_for b (served_flow b n)))
    where
      go : (t < slots_for b (served_flow b n)) ⊎ (slots_for b (served_flow b n) ≤ t) → used_in (planned_grid b n) t ≤ given_in (served_flow b n) (free_for b n) t
      go (inl c) =
          omega (
            arith,
            grid-used (served_at b n) (job_count (served_flow b n)) (slots_for b (served_flow b n)) (planned_share b n) t c,
            placed-together (served_flow b n) (free_for b n) (sized-at n l) t,
          )
      go (inr c) = omega (arith, grid-not-used (served_at b n) (job_count (served_flow b n)) (slots_for b (served_flow b n)) (planned_share b n) t c)

  grid-within-free : (n t : ℕ) → n < flow_count b → used_in (planned_grid b n) t ≤ free_for b n t
  grid-within-free n t l = le_trans (grid-within-given n t l) (given_in-le-free (served_flow b n) (free_for b n) t)

  grid-within-work : (n T : ℕ) → n < flow_count b → sum_to (used_in (planned_grid b n)) T ≤ flow_work (served_flow b n)
  unfolding flow_work
  grid-within-work n T l =
      omega (
        arith,
        sum_mono (used_in (planned_grid b n)) (given_in (served_flow b n) (free_for b n)) T (λ t c. grid-within-given n t l),
        given-and-left (served_flow b n) (free_for b n) (chain_live (served_flow b n) (sized-at n l)) T,
        chain-works (served_flow b n) (sized-at n l),
      )

  -- never more than P processors
  pub used-within-processors : (k : ℕ) (rows : List Row) → k ≤ flow_count b → place_first b k ≡ planned rows → (t : ℕ) → used_in rows t ≤ b.processors
  used-within-processors zero rows h e t = rw (placed-rows b zero rows e) (unfold used_in sum_where join_from in omega arith)
  used-within-processors (suc k) rows h e t =
      let s = placed-next b k rows e in
      let free : free_for b k t ≤ b.processors - used_in s.earlier t = rw s.placed_before (free-within b (served_at b k) s.earlier t) in
      rw s.appended
      (omega (
        arith,
        used-append s.earlier (planned_grid b k) t,
        grid-within-free k t h,
        used-within-processors k s.earlier (omega arith) s.placed_before t,
      ))

  -- and in all never more than the work of the flows
  pub used-within-work : (k : ℕ) (rows : List Row) → k ≤ flow_count b → place_first b k ≡ planned rows → (T : ℕ) → sum_to (used_in rows) T ≤ works_up_to (served_flow b) k
  unfolding sum_to
  used-within-work zero rows h e T =
      omega (arith, sum_mono (used_in rows) (λ t. 0) T (λ t l. rw (placed-rows b zero rows e) (unfold used_in sum_where join_from in omega arith)), sum-zero T)
  used-within-work (suc k) rows h e T =
      let s = placed-next b k rows e in
      omega (
        arith,
        sum_ext (used_in rows) (λ t. used_in s.earlier t + used_in (planned_grid b k) t) T
            (λ t l. ap (λ q. used_in q t) s.appended ∙ used-append s.earlier (planned_grid b k) t),
        sum-add (used_in s.earlier) (used_in (planned_grid b k)) T,
        grid-within-work k T h,
        used-within-work k s.earlier (omega arith) s.placed_before T,
      )

  -- ---- the first k flows placed
  module _ (k : ℕ) (rows : List Row) (h : k ≤ flow_count b) (e : place_first b k ≡ planned rows) where
    module _ (n : ℕ) (l : n < k) where
      within_count : n < flow_count b
      within_count = omega arith

      flow-caps : (i t : ℕ) → i < job_count (served_flow b n) → schedule_of rows (served_at b n) i t ≤ (job_of (served_flow b n) i).cap
      flow-caps i t a = go (lt-or_ge t (slots_for b (served_flow b n)))
        where
          go : (t < slots_for b (served_flow b n)) ⊎ (slots_for b (served_flow b n) ≤ t) → schedule_of rows (served_at b n) i t ≤ (job_of (served_flow b n) i).cap
          go (inl c) =
              omega (arith, states-share b k rows e h n i t l a c, placed-within-cap (served_flow b n) (free_for b n) (sized-at n within_count) i t a)
          go (inr c) = omega (arith, states-none_of-flow b k rows e h n i t l (λ x y. omega arith))

      -- nothing from its limit on
      flow-ends : (i t : ℕ) → slots_for b (served_flow b n) ≤ t → schedule_of rows (served_at b n) i t ≡ 0
      flow-ends i t c = states-none_of-flow b k rows e h n i t l (λ x y. omega arith)

      flow-sum : (i t : ℕ) → i < job_count (served_flow b n) → t ≤ slots_for b (served_flow b n) → sum_to (schedule_of rows (served_at b n) i) t ≡ sum_to (planned_share b n i) t
      flow-sum i t a c = sum_ext _ _ t (λ u d. states-share b k rows e h n i u l a (omega arith))

      slots-enough : slots_for b (served_flow b n) ≤ slots
      slots-enough = limit_most b (served_flow b n)

      flow-sizes : (i : ℕ) → i < job_count (served_flow b n) → sum_to (schedule_of rows (served_at b n) i) slots ≡ (job_of (served_flow b n) i).size
      flow-sizes i a =
          omega (
            arith,
            flow-sum i (slots_for b (served_flow b n)) a (omega arith),
            placed_exactly (served_flow b n) (free_for b n) (sized-at n within_count) i (slots_for b (served_flow b n)) a (placed-finished b k rows e n l),
            sum_quiet (schedule_of rows (served_at b n) i) (slots_for b (served_flow b n)) slots (flow-ends i),
            sum_up (schedule_of rows (served_at b n) i) slots-enough,
          )

      flow-precedence : (i j t : ℕ) → i < job_count (served_flow b n) → precedes (served_flow b n) j i ≡ true → 0 < schedule_of rows (served_at b n) i t →
          sum_to (schedule_of rows (served_at b n) j) t ≡ (job_of (served_flow b n) j).size
      flow-precedence i j t a p g = go (lt-or_ge t (slots_for b (served_flow b n)))
        where
          below : j < i
          below = bit_below (job_of (served_flow b n) i).predecessors i j ((range_at n within_count).each_job i a).predecessors_below p

          go : (t < slots_for b (served_flow b n)) ⊎ (slots_for b (served_flow b n) ≤ t) → sum_to (schedule_of rows (served_at b n) j) t ≡ (job_of (served_flow b n) j).size
          go (inl c) =
              flow-sum j t (omega (arith, below)) (omega arith) ∙
              placed-in_order (served_flow b n) (free_for b n) (sized-at n within_count) i j t a below p (rw (states-share b k rows e h n i t l a c) at g)
          go (inr c) = absurd (omega (arith, flow-ends i t c))

      flow_in-usable : (i t : ℕ) → i < job_count (served_flow b n) → usable b (served_flow b n) t ≡ false → schedule_of rows (served_at b n) i t ≡ 0
      flow_in-usable i t a c = go (lt-or_ge t (slots_for b (served_flow b n)))
        where
          go : (t < slots_for b (served_flow b n)) ⊎ (slots_for b (served_flow b n) ≤ t) → schedule_of rows (served_at b n) i t ≡ 0
          go (inl d) =
              omega (
                arith,
                states-share b k rows e h n i t l a d,
                placed-within-free (served_flow b n) (free_for b n) (sized-at n within_count) i t a,
                none_free b (served_at b n) (rows_of (place_first b n)) t c,
              )
          go (inr d) = flow-ends i t d

    at_no-position : (f : ℕ) → among_first b k f ≡ false → (n : ℕ) → n < k → served_at b n ≡ f → ⊥
    at_no-position f c n l q = false≢true (sym c ∙ (rw q at (position-among b k n l)))

    -- what holds of each flow placed, and trivially of the others, holds of all
    by-flow : (X : ℕ → Type 0) → ((n : ℕ) → n < k → X (served_at b n)) → ((f : ℕ) → ((i t : ℕ) → schedule_of rows f i t ≡ 0) → among_first b k f ≡ false → X f) →
        (f : ℕ) → X f
    by-flow X own other f = go (among_first b k f) refl
      where
        go : (c : Bool) → among_first b k f ≡ c → X f
        go true q = let m = among-position b k f q in subst X m.2 (own m.0 m.1)
        go false q = other f (λ i t. states-nothing b k rows e f i t (at_no-position f q)) q

    -- each row is one of a flow placed
    pub first-rows-fit : (r : Row) → r ∈ rows → RowFits b r
    first-rows-fit r m =
        let n = join_in (planned_grid b) k (subst (λ (xs : List Row). r ∈ xs) (placed-rows b k rows e) m) in
        fit n.0 n.1 n.2
      where
        fit : (n : ℕ) → n < k → r ∈ planned_grid b n → RowFits b r
        fit n l g =
            let s = grid_in (served_at b n) (job_count (served_flow b n)) (slots_for b (served_flow b n)) (planned_share b n) r (unfold planned_grid in g) in
            subst (RowFits b) (sym s.4)
            (record {
              flow_in_is = service-below b n (omega arith);
              job_in = s.3;
              processors_least = s.5;
              processors_most = placed-within-cap (served_flow b n) (free_for b n) (sized-at n (omega arith)) s.2 s.0 s.3;
              slot_in = s.1;
            })

    -- its slots are those of a table
    pub first_in-slots : InSlots (schedule_of rows)
    unfolding InSlots
    first_in-slots = by-flow (λ f. (i t : ℕ) → slots ≤ t → schedule_of rows f i t ≡ 0)
        (λ n l i t g. flow-ends n l i t (le_trans (slots-enough n l) g)) (λ f z q i t g. z i t)

    -- the rows of the first k flows are a valid schedule of these
    pub first-planned-valid : Valid b (among_first b k) (schedule_of rows)
    first-planned-valid = record {
      no_others = by-flow (λ f. (i t : ℕ) → (IsJob b (among_first b k) f i → ⊥) → schedule_of rows f i t ≡ 0)
          (λ n l i t ne. states-none_of-flow b k rows e h n i t l
          (λ a c. ne (record { flow_among = position-among b k n l; flow_in_is = service-below b n (omega arith); job_in = a })))
          (λ f z q i t ne. z i t);
      caps = by-flow (λ f. (i t : ℕ) → IsJob b (among_first b k) f i → schedule_of rows f i t ≤ (job_of (flow_of b f) i).cap)
          (λ n l i t j. flow-caps n l i t j.job_in) (λ f z q i t j. omega (arith, z i t));
      together = λ t. omega (
        arith,
        used-in_use b rows t (λ r m. record { flow_in_is = (first-rows-fit r m).flow_in_is; job_in = (first-rows-fit r m).job_in }),
        used-within-processors k rows h e t,
      );
      horizon = slots;
      nothing_after = unfold InSlots in first_in-slots;
      sizes = by-flow (λ f. (i : ℕ) → IsJob b (among_first b k) f i → sum_to (schedule_of rows f i) slots ≡ (job_of (flow_of b f) i).size)
          (λ n l i j. flow-sizes n l i j.job_in) (λ f z q i j. absurd (false≢true (sym q ∙ j.flow_among)));
      precedence = by-flow
          (λ f. (i m t : ℕ) → IsJob b (among_first b k) f i → precedes (flow_of b f) m i ≡ true → 0 < schedule_of rows f i t →
          sum_to (schedule_of rows f m) t ≡ (job_of (flow_of b f) m).size)
          (λ n l i m t j. flow-precedence n l i m t j.job_in) (λ f z q i m t j. absurd (false≢true (sym q ∙ j.flow_among)));
      in_usable = by-flow (λ f. (i t : ℕ) → IsJob b (among_first b k) f i → usable b (flow_of b f) t ≡ false → schedule_of rows f i t ≡ 0)
          (λ n l i t j. flow_in-usable n l i t j.job_in) (λ f z q i t j c. z i t);
    }

    -- a finish is no later than a slot from which on the flow has nothing
    pub first-finish-least : (f d : ℕ) → EndsBy (schedule_of rows) f d → finish_of rows f ≤ d
    first-finish-least f d = ends-finish rows f d (λ r m. (first-rows-fit r m).processors_least)

    -- each of them ends within twice its deadline, in open slots
    pub first-finish-within-twice : (f : ℕ) → WithinTwice b f (finish_of rows f)
    first-finish-within-twice = by-flow (λ f. WithinTwice b f (finish_of rows f))
        (λ n l. omega (
          arith,
          open_mono b.calendar (first-finish-least (served_at b n) (slots_for b (served_flow b n)) (unfold EndsBy in flow-ends n l)),
          limit-count b (served_flow b n) range.calendar_in_range (range_at n (within_count n l)).deadline_most,
        ))
        (λ f z q. omega (
          arith,
          open_mono b.calendar (first-finish-least f 0 (unfold EndsBy in λ i t g. z i t)),
          open_none b.calendar,
        ))

    -- and within the slots of a table
    pub first-finish_in-slots : (f : ℕ) → finish_of rows f ≤ slots
    unfolding InSlots EndsBy
    first-finish_in-slots f = first-finish-least f slots (first_in-slots f)

  -- ---- the whole plan
  module _ (rows : List Row) (e : plan b ≡ planned rows) where
    pub all_placed : place_first b (flow_count b) ≡ planned rows
    all_placed = unfold plan in e

    pub planned-valid : Valid b every_flow (schedule_of rows)
    planned-valid =
        valid-among b (among_first b (flow_count b)) every_flow (schedule_of rows) (among-all b)
        (first-planned-valid (flow_count b) rows (omega arith) all_placed)

    pub planned_in-slots : InSlots (schedule_of rows)
    planned_in-slots = first_in-slots (flow_count b) rows (omega arith) all_placed

    pub planned-rows-fit : (r : Row) → r ∈ rows → RowFits b r
    planned-rows-fit = first-rows-fit (flow_count b) rows (omega arith) all_placed
