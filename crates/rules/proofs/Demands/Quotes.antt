-- The finish to quote (02, Req 08): each placed flow ends within its quote, in open slots, and where a schedule is on time the quote is within twice the
-- deadline. The bound on greedy placing, divided by P, says that while work of a flow is left fewer open slots have passed than the quote has; so in the slot
-- before its finish the quote was not yet reached. On time, release and path together are within the open slots before the deadline, and so is the work
-- divided by P. Assumes nothing.
use mathlib.Core.Path.{◌≡◌, refl, sym, ap, subst, ◌∙◌}
use mathlib.Core.Logic.{◌⊎◌, inl, inr}
use Prim.Native.Nat.{ℕ, zero, suc, ◌+◌, ◌*◌, ◌/◌, ◌≤◌, ◌<◌}
use mathlib.Core.Bool.{true}
use mathlib.Core.List.{List, []}
use native.Mathlib.Nat.{le_trans, le_of_lt, lt-suc_self, div-le_of_le-mul}
use native.Mathlib.Omega.{arith}
use Rattle.rules.specs.Walks.{sum_to, count_to}
use Rattle.rules.specs.Calendar.{is_open, open_before}
use Rattle.rules.specs.Book.{Flow, Book, flow_count, job_count, flow_of, usable, twice_deadline, InRange}
use Rattle.rules.specs.Ideal.{path}
use Rattle.rules.specs.Service.{served_at, position, up_to}
use Rattle.rules.specs.Rows.{Row, used_in, finish_of}
use Rattle.rules.specs.Placing.{progress, slots_for, planned, place_first, rows_of, plan}
use Rattle.rules.specs.Schedule.{Schedule, Valid, EndsBy, schedule_of}
use Rattle.rules.specs.Quote.{work_of, work_up_to, quote}
use Rattle.rules.specs.Demands.Planner.{PlansByTheRules}
use Rattle.rules.specs.Demands.Quote.{WithinQuote, Quotes}
use Rattle.rules.proofs.Laws.Division.{lt-or_ge}
use Rattle.rules.proofs.Laws.Sums.{sum_ext}
use Rattle.rules.proofs.Reading.Passing.{read_in-range}
use Rattle.rules.proofs.Reading.Caps.{used_in-range}
use Rattle.rules.proofs.Chains.Ideal.{Sized, in-range-sized}
use Rattle.rules.proofs.Chains.PseudoJobs.{chain_live, chain-works}
use Rattle.rules.proofs.Reading.ServiceOrder.{service-deadlines}
use Rattle.rules.proofs.Reading.Position.{position-served, position_below, served-position, sum-up_to}
use Rattle.rules.proofs.Placing.OpenSlots.{open_none, open_step, open_mono}
use Rattle.rules.proofs.Placing.Usable.{usable_open, count-usable}
use Rattle.rules.proofs.Placing.Greedy.{units_left_at, nothing_left}
use Rattle.rules.proofs.Placing.Necessity.{flow_work, works_up_to}
use Rattle.rules.proofs.Placing.Refusal.{quote_bound, path-fits, area-fits}
use Rattle.rules.proofs.Placing.PlacedFlow.{share_to}
use Rattle.rules.proofs.Placing.PlannedRows.{served_flow, free_for, planned_share, placed-earlier, states-share, states-none_of-flow}
use Rattle.rules.proofs.Placing.PlannedValid.{range_at, sized-at, used-within-work, first-finish-least, all_placed}
use Rattle.rules.proofs.Placing.Infeasible.{free-or-used, sequence-on_time}
use Rattle.rules.proofs.Demands.PlansByTheRules.{plans_by_the_rules}
use Rattle.rules.proofs.Calls.WrittenPlans.{written-finish}
use Rattle.rules.proofs.Calls.CallCases.{call_case, plan-number_13}
use Rattle.rules.proofs.Demands.Finishes.{answered-holds}

-- the work up to the flow at position n is that of the flows at the positions up to it
pub work-served : (b : Book) (n : ℕ) → n < flow_count b → work_up_to b (served_at b n) ≡ sum_to (λ k. work_of (served_flow b k)) (suc n)
unfolding work_up_to
work-served b n l = ap (λ m. sum_to (λ k. work_of (served_flow b k)) (suc m)) (position-served b n l)

-- the work of a flow is the sizes of its jobs
work_of-sizes : (w : Flow) → Sized w → work_of w ≡ flow_work w
unfolding work_of flow_work
work_of-sizes w sized = chain-works w sized

module _ (b : Book) (range : InRange b) where
  -- so the quote of that flow is
  quote-served : (n : ℕ) → n < flow_count b →
      quote b (served_at b n) ≡ open_before b.calendar (served_flow b n).release + path (served_flow b n) + works_up_to (served_flow b) (suc n) / b.processors
  unfolding quote
  quote-served n l =
      ap (λ m. open_before b.calendar (served_flow b n).release + path (served_flow b n) + m / b.processors)
      (work-served b n l
      ∙ sum_ext (λ k. work_of (served_flow b k)) (λ k. flow_work (served_flow b k)) (suc n) (λ k h. work_of-sizes (served_flow b k) (sized-at b range k (omega arith))))

  -- ---- a flow that is placed
  -- while work is left, fewer open slots have passed
  before-quote : (n : ℕ) (earlier : List Row) → n < flow_count b → place_first b n ≡ planned earlier → (t : ℕ) →
      0 < units_left_at (served_flow b n) (free_for b n) t → open_before b.calendar t < quote b (served_at b n)
  before-quote n earlier below e t left =
      omega (
        arith,
        quote-served n below,
        count-usable b (served_flow b n) t,
        quote_bound b.processors n (served_flow b) (λ m. usable b (served_flow b m)) (free_for b n) (used_in earlier) (sized-at b range n below)
            (free-or-used b range n earlier e) (used-within-work b range n earlier (omega arith) e) range.processors_least t left,
      )

  module _ (k : ℕ) (rows : List Row) (h : k ≤ flow_count b) (e : place_first b k ≡ planned rows) (n : ℕ) (l : n < k) where
    after-quote : (t : ℕ) → quote b (served_at b n) ≤ open_before b.calendar t → (progress (served_flow b n) (free_for b n) t).left ≡ []
    after-quote t c = go (lt-or_ge 0 (units_left_at (served_flow b n) (free_for b n) t))
      where
        go : (0 < units_left_at (served_flow b n) (free_for b n) t) ⊎ (units_left_at (served_flow b n) (free_for b n) t ≤ 0) → (progress (served_flow b n) (free_for b n) t).left ≡ []
        go (inl left) = let p = placed-earlier b k rows e n l in absurd (omega (arith, before-quote n p.0 (omega arith) p.1 t left))
        go (inr none) = nothing_left (served_flow b n) (free_for b n) (chain_live (served_flow b n) (sized-at b range n (omega arith))) t (omega arith)

    ends_by-quote : (d : ℕ) → quote b (served_at b n) ≤ open_before b.calendar d → EndsBy (schedule_of rows) (served_at b n) d
    unfolding EndsBy
    ends_by-quote d q i t c = go (lt-or_ge t (slots_for b (served_flow b n))) (lt-or_ge i (job_count (served_flow b n)))
      where
        none : planned_share b n i t ≡ 0
        none = rw (after-quote t (le_trans q (open_mono b.calendar c))) (unfold share_to in refl)

        go : (t < slots_for b (served_flow b n)) ⊎ (slots_for b (served_flow b n) ≤ t) → (i < job_count (served_flow b n)) ⊎ (job_count (served_flow b n) ≤ i) → schedule_of rows (served_at b n) i t ≡ 0
        go (inl d) (inl a) = states-share b k rows e h n i t l a d ∙ none
        go (inl d) (inr a) = states-none_of-flow b k rows e h n i t l (λ x y. omega arith)
        go (inr d) o = states-none_of-flow b k rows e h n i t l (λ x y. omega arith)

    -- a finish within the quote: in the slot before it the quote was not yet reached
    served-within-quote : WithinQuote b (served_at b n) (finish_of rows (served_at b n))
    served-within-quote =
        first-within (finish_of rows (served_at b n))
        (λ d q. first-finish-least b range k rows h e (served_at b n) d (ends_by-quote d q))
      where
        first-within : (t : ℕ) → ((d : ℕ) → quote b (served_at b n) ≤ open_before b.calendar d → t ≤ d) → open_before b.calendar t ≤ quote b (served_at b n)
        first-within zero ends = omega (arith, open_none b.calendar)
        first-within (suc t) ends = go (lt-or_ge (open_before b.calendar t) (quote b (served_at b n)))
          where
            go : (open_before b.calendar t < quote b (served_at b n)) ⊎ (quote b (served_at b n) ≤ open_before b.calendar t) → open_before b.calendar (suc t) ≤ quote b (served_at b n)
            go (inl c) = omega (arith, open_step b.calendar t)
            go (inr c) = absurd (omega (arith, ends t c))

  -- so is every flow among the first k that are placed
  pub finish-within-quote : (k : ℕ) (rows : List Row) → k ≤ flow_count b → place_first b k ≡ planned rows → (f : ℕ) → f < flow_count b → position b f < k →
      WithinQuote b f (finish_of rows f)
  finish-within-quote k rows h e f l c = subst (λ g. WithinQuote b g (finish_of rows g)) (served-position b f l) (served-within-quote k rows h e (position b f) c)

  planned-within-quote : (rows : List Row) → plan b ≡ planned rows → (f : ℕ) → f < flow_count b → WithinQuote b f (finish_of rows f)
  planned-within-quote rows e f l = finish-within-quote (flow_count b) rows (omega arith) (all_placed b range rows e) f l (position_below b f l)

  -- ---- a schedule that is on time
  served-within-twice : (n : ℕ) → n < flow_count b → (σ : Schedule) → Valid b (up_to b (served_at b n)) σ →
      ((g : ℕ) → g < flow_count b → up_to b (served_at b n) g ≡ true → EndsBy σ g (flow_of b g).deadline) → quote b (served_at b n) ≤ twice_deadline b (served_flow b n)
  unfolding twice_deadline open_before
  served-within-twice n l σ valid on-time =
      let on = sequence-on_time b range n (served_at b n) l refl σ valid on-time in
      let inside : (m t : ℕ) → m < suc n → usable b (served_flow b m) t ≡ true → is_open b.calendar t ≡ true = λ m t h. usable_open b (served_flow b m) t in
      let order : (m : ℕ) → m < n → (served_flow b m).deadline ≤ (served_flow b n).deadline = λ m h. service-deadlines b m n (omega arith) l in
      let path-on-time : path (served_flow b n) ≤ count_to (usable b (served_flow b n)) (served_flow b n).deadline =
      path-fits b.processors n (served_flow b) (λ m. usable b (served_flow b m)) (is_open b.calendar) (λ m. (served_flow b m).deadline) inside order
      (λ m. σ (served_at b m)) on (sized-at b range n l) in
      let area-on-time : works_up_to (served_flow b) (suc n) ≤ b.processors * count_to (is_open b.calendar) (served_flow b n).deadline =
      area-fits b.processors n (served_flow b) (λ m. usable b (served_flow b m)) (is_open b.calendar) (λ m. (served_flow b m).deadline) inside order
      (λ m. σ (served_at b m)) on in
      omega (
        arith,
        quote-served n l,
        path-on-time,
        div-le_of_le-mul b.processors area-on-time,
        count-usable b (served_flow b n) (served_flow b n).deadline,
        open_mono b.calendar (le_of_lt (range_at b range n l).release_below),
      )

  quote_within_twice : (f : ℕ) → f < flow_count b → (σ : Schedule) → Valid b (up_to b f) σ →
      ((g : ℕ) → g < flow_count b → up_to b f g ≡ true → EndsBy σ g (flow_of b g).deadline) → quote b f ≤ twice_deadline b (flow_of b f)
  quote_within_twice f l =
      subst (λ f. (σ : Schedule) → Valid b (up_to b f) σ → ((g : ℕ) → g < flow_count b → up_to b f g ≡ true → EndsBy σ g (flow_of b g).deadline) → quote b f ≤ twice_deadline b (flow_of b f))
      (served-position b f l) (served-within-twice (position b f) (position_below b f l))

pub quotes : Quotes
unfolding PlansByTheRules work_up_to
quotes = record {
  in_table = λ book calendar out area b reads z f l.
      subst (WithinQuote b f) (sym (written-finish book calendar out area b reads z f l))
      (planned-within-quote b (read_in-range book calendar b reads) (rows_of (plan b)) (plans_by_the_rules book calendar out area b reads z).all_placed f l);
  in_rows = λ book calendar out area b reads z.
      planned-within-quote b (read_in-range book calendar b reads) (rows_of (plan b)) (plan-number_13 (call_case book calendar out area b reads) z).0;
  answered = λ book calendar area f b reads.
      answered-holds book calendar b reads f (WithinQuote b f)
      (λ l rows e. finish-within-quote b (read_in-range book calendar b reads) (suc (position b f)) rows (position_below b f l) e f l (lt-suc_self (position b f))) area;
  work_up_to_is = λ b. sum-up_to b (λ g. work_of (flow_of b g));
  work_is_sizes = λ book calendar b reads f l.
      (unfold flow_work in work_of-sizes (flow_of b f) (in-range-sized (used_in-range (read_in-range book calendar b reads) f l)));
  quote_within_twice = λ book calendar b reads. quote_within_twice b (read_in-range book calendar b reads);
}
