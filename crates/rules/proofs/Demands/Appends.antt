-- Flows appended at the end of a book, all later in service order than those before them (02, Req 08).
-- No flow appended is served before a former one, so each of those keeps its position; the first positions have the same flows, which find the same
-- processors free, and the rows of the others stand behind theirs. Assumes nothing.
use mathlib.Core.Path.{◌≡◌, refl, sym, ap, subst, ◌∙◌}
use Prim.Native.Nat.{ℕ, zero, suc, ◌+◌, ◌≤◌, ◌<◌}
use mathlib.Core.Bool.{true, false, not-eq-not}
use mathlib.Core.List.{List, ◌++◌}
use native.Mathlib.Omega.{arith}
use lib.ListN.{length, length-append, get_or-append}
use lib.Seq.{take-append_seam}
use Rattle.rules.specs.Walks.{bit, count_to, join_from}
use Rattle.rules.specs.Limits.{work_bytes}
use Rattle.rules.specs.Book.{Flow, Book, flow_count, no_flow, flow_in, lower_caps, flow_of}
use Rattle.rules.specs.Reading.{read}
use Rattle.rules.specs.Service.{served_before, served_at, position}
use Rattle.rules.specs.Rows.{Row, finish_of, is_late, late_flows}
use Rattle.rules.specs.Placing.{Plan, planned, infeasible, place_flow, then_place, place_first, rows_of, plan}
use Rattle.rules.specs.Table.{table_length}
use Rattle.rules.specs.Planner.{plan_call}
use Rattle.rules.specs.Check.{table_rows}
use Rattle.rules.specs.Finish.{finish_reading}
use Rattle.rules.specs.Quote.{work_of, work_up_to, quote, appended}
use Rattle.rules.specs.Demands.Planner.{PlansByTheRules}
use Rattle.rules.specs.Demands.Quote.{Appended, table_of, KeepsTable, Appends}
use Rattle.rules.proofs.Laws.Sums.{sum_ext, sum-split, sum_up, count_none}
use Rattle.rules.proofs.Laws.Walks.{join-split}
use Rattle.rules.proofs.Reading.ServiceOrder.{service-below, served_asymmetric}
use Rattle.rules.proofs.Reading.Position.{position-served, position_below, served-position}
use Rattle.rules.proofs.Reading.SameUse.{place_same}
use Rattle.rules.proofs.Placing.PlannedRows.{served_flow, planned_grid, placed-rows, placed-up_to, stopped-on, finish-settled}
use Rattle.rules.proofs.Demands.PlansByTheRules.{plans_by_the_rules}
use Rattle.rules.proofs.Calls.WrittenPlans.{written-rows, written-finish}
use Rattle.rules.proofs.Demands.Quotes.{work-served}
use Rattle.rules.proofs.Calls.CallCases.{outcome-infeasible, outcome-written, call_case, call_plans, plan-number_0, plan-number_12}
use Rattle.rules.proofs.Demands.Finishes.{finish-read}

module _ (b : Book) (more : List Flow)
    (later : (f g : ℕ) → f < flow_count b → flow_count b ≤ g → g < flow_count (appended b more) → served_before (appended b more) f g ≡ true) where
  abbrev longer : Book
  longer = appended b more

  same_flow : (f : ℕ) → f < flow_count b → flow_of longer f ≡ flow_of b f
  unfolding flow_of flow_in
  same_flow f l = ap (lower_caps b.processors) (get_or-append b.flows more no_flow f l)

  longer-count : flow_count longer ≡ flow_count b + length more
  longer-count = length-append b.flows more

  -- ---- the order
  same-served : (g f : ℕ) → g < flow_count b → f < flow_count b → served_before longer g f ≡ served_before b g f
  unfolding served_before
  same-served g f h l = rw (same_flow g h, same_flow f l) refl

  not-before : (f g : ℕ) → f < flow_count b → flow_count b ≤ g → g < flow_count longer → served_before longer g f ≡ false
  not-before f g l h c = (not-eq-not {b = false}).0 (served_asymmetric longer f g (later f g l h c))

  same-position : (f : ℕ) → f < flow_count b → position longer f ≡ position b f
  unfolding position
  same-position f l =
      ap (count_to (λ g. served_before longer g f)) longer-count
      ∙ omega (
        arith,
        sum-split (λ g. bit (served_before longer g f)) (flow_count b) (length more),
        sum_ext (λ g. bit (served_before longer g f)) (λ g. bit (served_before b g f)) (flow_count b) (λ g h. ap bit (same-served g f h l)),
        count_none (λ k. served_before longer (flow_count b + k) f) (length more)
            (λ k h. not-before f (flow_count b + k) l (omega arith) (omega (arith, h, longer-count))),
      )

  same_at : (n : ℕ) → n < flow_count b → served_at longer n ≡ served_at b n
  same_at n l =
      let below = service-below b n l in
      ap (served_at longer) (sym (same-position (served_at b n) below ∙ position-served b n l))
      ∙ served-position longer (served_at b n) (omega (arith, below, longer-count))

  -- ---- placing, the finish of one flow and the quote
  same_places : (n : ℕ) → n ≤ flow_count b → place_first longer n ≡ place_first b n
  unfolding place_first
  same_places zero l = refl
  same_places (suc n) l = ap (λ p. then_place p (place_flow longer (served_at longer n))) (same_places n (omega arith)) ∙ go (place_first b n)
    where
      go : (p : Plan) → then_place p (place_flow longer (served_at longer n)) ≡ then_place p (place_flow b (served_at b n))
      go (infeasible f) = refl
      go (planned rows) =
          ap (λ f. place_flow longer f rows) (same_at n l) ∙ place_same longer b refl refl (served_at b n) (same_flow (served_at b n) (service-below b n l)) rows

  same_finish : (f : ℕ) → f < flow_count b → (area : List ℕ) → finish_reading f area (read longer) ≡ finish_reading f area (read b)
  unfolding finish_reading
  same_finish f l area = rw (same-position f l, same_places (suc (position b f)) (position_below b f l)) refl

  same-flow_at : (n : ℕ) → n < flow_count b → served_flow longer n ≡ served_flow b n
  same-flow_at n l = ap (flow_of longer) (same_at n l) ∙ same_flow (served_at b n) (service-below b n l)

  same-work : (n : ℕ) → n < flow_count b → work_up_to longer (served_at b n) ≡ work_up_to b (served_at b n)
  same-work n l =
      ap (work_up_to longer) (sym (same_at n l)) ∙ work-served longer n (omega (arith, l, longer-count))
      ∙ sum_ext (λ k. work_of (served_flow longer k)) (λ k. work_of (served_flow b k)) (suc n) (λ k h. ap work_of (same-flow_at k (omega arith)))
      ∙ sym (work-served b n l)

  same_quote : (f : ℕ) → f < flow_count b → quote longer f ≡ quote b f
  unfolding quote
  same_quote f l =
      let work : work_up_to longer f ≡ work_up_to b f =
      subst (λ g. work_up_to longer g ≡ work_up_to b g) (served-position b f l) (same-work (position b f) (position_below b f l)) in
      rw (same_flow f l, work) refl

  -- ---- the plan
  still-infeasible : (f : ℕ) → plan b ≡ infeasible f → plan longer ≡ infeasible f
  unfolding plan
  still-infeasible f e = ap (place_first longer) longer-count ∙ stopped-on longer (flow_count b) f (same_places (flow_count b) (omega arith) ∙ e) (length more)

  -- the flows of the shorter book, planned within a plan of the longer one
  record PlannedBefore (rows : List Row) : Type 0 where
    earlier : List Row
    rest : List Row
    placed : plan b ≡ planned earlier
    stand-first : rows ≡ earlier ++ rest
    finishes : (f : ℕ) → f < flow_count b → finish_of rows f ≡ finish_of earlier f

  planned-before : (rows : List Row) → plan longer ≡ planned rows → PlannedBefore rows
  unfolding plan
  planned-before rows e =
      let n = flow_count b in
      let w = placed-up_to longer (flow_count longer) rows e n (omega (arith, longer-count)) in
      record {
        earlier = w.0;
        rest = join_from (planned_grid longer) (length more) (0 + n);
        placed = sym (same_places n (omega arith)) ∙ w.1;
        stand-first =
            placed-rows longer (flow_count longer) rows e ∙ ap (λ k. join_from (planned_grid longer) k 0) longer-count
            ∙ join-split (planned_grid longer) n (length more) 0
            ∙ ap (◌++ join_from (planned_grid longer) (length more) (0 + n)) (sym (placed-rows longer n w.0 w.1));
        finishes = λ f l. sym (subst (λ g. finish_of w.0 g ≡ finish_of rows g) (served-position longer f (omega (arith, l, longer-count)))
            (finish-settled longer n (flow_count longer) w.0 rows (omega (arith, longer-count)) (omega arith) w.1 e (position longer f)
            (omega (arith, same-position f l, position_below b f l))));
      }

  module _ (rows : List Row) (p : PlannedBefore rows) where
    late_no-fewer : late_flows b p.earlier ≤ late_flows longer rows
    unfolding late_flows
    late_no-fewer =
        omega (
          arith,
          sum_ext (λ f. bit (is_late (flow_of b f) (finish_of p.earlier f))) (λ f. bit (is_late (flow_of longer f) (finish_of rows f))) (flow_count b)
              (λ f l. ap (λ w. bit (is_late w (finish_of p.earlier f))) (sym (same_flow f l)) ∙ ap (λ t. bit (is_late (flow_of longer f) t)) (sym (p.finishes f l))),
          sum_up (λ f. bit (is_late (flow_of longer f) (finish_of rows f))) {m = flow_count b} {n = flow_count longer} (omega (arith, longer-count)),
        )

    table_no-longer : table_length b p.earlier ≤ table_length longer rows
    unfolding table_length
    table_no-longer = omega (arith, ap (λ rs. length rs) p.stand-first, length-append p.earlier p.rest, longer-count)

-- ---- the calls
module _ (book longer-book calendar : List ℕ) (b : Book) (more : List Flow) (a : Appended book longer-book calendar b more) where
  accepted-plan : (out area : List ℕ) → (plan_call longer-book calendar out area).answer.number ≡ 0 → PlannedBefore b more a.all_later (rows_of (plan (appended b more)))
  unfolding PlansByTheRules
  accepted-plan out area z =
      planned-before b more a.all_later (rows_of (plan (appended b more)))
      (plans_by_the_rules longer-book calendar out area (appended b more) a.longer_reads z).all_placed

  keeps_table : (out area out' area' : List ℕ) → (plan_call book calendar out area).answer.number ≡ 0 → (plan_call longer-book calendar out' area').answer.number ≡ 0 →
      KeepsTable b more (plan_call book calendar out area) (plan_call longer-book calendar out' area')
  unfolding PlansByTheRules
  keeps_table out area out' area' z z' =
      let long = appended b more in
      let p = accepted-plan out' area' z' in
      let same : rows_of (plan b) ≡ p.earlier = ap rows_of p.placed in
      let rows : table_rows b (table_of (plan_call book calendar out area)) ≡ p.earlier = written-rows book calendar out area b a.reads z ∙ same in
      let rows' : table_rows long (table_of (plan_call longer-book calendar out' area')) ≡ p.earlier ++ p.rest =
      written-rows longer-book calendar out' area' long a.longer_reads z' ∙ p.stand-first in
      record {
        rows_first = rw (rows, rows') (take-append_seam p.earlier p.rest);
        finishes_first = λ f l.
            written-finish longer-book calendar out' area' long a.longer_reads z' f (omega (arith, l, longer-count b more a.all_later)) ∙ p.finishes f l
            ∙ sym (written-finish book calendar out area b a.reads z f l ∙ ap (λ rs. finish_of rs f) same);
        late_still =
            omega (
              arith,
              (plans_by_the_rules book calendar out area b a.reads z).late_flows_is,
              ap (late_flows b) same,
              (plans_by_the_rules longer-book calendar out' area' long a.longer_reads z').late_flows_is,
              late_no-fewer b more a.all_later (rows_of (plan long)) p,
            );
      }

  accepted_before : (out area out' area' : List ℕ) → (plan_call longer-book calendar out' area').answer.number ≡ 0 → length out' ≤ length out → work_bytes ≤ length area →
      (plan_call book calendar out area).answer.number ≡ 0
  accepted_before out area out' area' z l h =
      let long = appended b more in
      let p = accepted-plan out' area' z in
      let enough = plan-number_0 (call_case longer-book calendar out' area' long a.longer_reads) z in
      ap (λ o. o.answer.number)
      (call_plans book calendar out area b a.reads h
      ∙ outcome-written b out area p.earlier p.placed (omega (arith, l, enough, table_no-longer b more a.all_later (rows_of (plan long)) p)))

  infeasible_still : (out area out' area' : List ℕ) → (plan_call book calendar out area).answer.number ≡ 12 → work_bytes ≤ length area' →
      (plan_call longer-book calendar out' area').answer ≡ (plan_call book calendar out area).answer
  infeasible_still out area out' area' z h =
      let long = appended b more in
      let w = plan-number_12 (call_case book calendar out area b a.reads) z in
      ap (λ o. o.answer)
      (call_plans longer-book calendar out' area' long a.longer_reads h
      ∙ outcome-infeasible long out' area' w.0 (still-infeasible b more a.all_later w.0 w.1))
      ∙ ap (λ o. o.answer) (sym w.2)

pub appends : Appends
unfolding Appends
appends book longer-book calendar b more a = record {
  keeps_table = keeps_table book longer-book calendar b more a;
  accepted_before = accepted_before book longer-book calendar b more a;
  infeasible_still = infeasible_still book longer-book calendar b more a;
  same_finish = λ f l area.
      finish-read longer-book calendar (appended b more) a.longer_reads f (omega (arith, l, longer-count b more a.all_later)) area
      ∙ same_finish b more a.all_later f l area
      ∙ sym (finish-read book calendar b a.reads f l area);
  same_quote = same_quote b more a.all_later;
}
