-- The finish of one flow (02, Req 05): what a call answers and leaves.
-- A call goes by the tests of the book, the flow number, the calendar, the length of the work area, and then by how the placing of the flows up to the one
-- named ends. Flows after them do not change their finishes, so it is the finish in the planner's table; and their placing is the plan of the book cut after
-- them. Assumes nothing.
use mathlib.Core.Path.{◌≡◌, refl, sym, ap, subst, ◌∙◌}
use mathlib.Core.Logic.{◌⊎◌, inl, inr, ⊎_elim}
use Prim.Native.Nat.{ℕ, ◌≤◌, ◌<◌}
use mathlib.Core.Bool.{true, true≢false, ◌||◌}
use mathlib.Core.List.{List, ◌++◌, map}
use native.Mathlib.Nat.{lt-suc_self}
use native.Mathlib.Omega.{arith}
use lib.ListN.{length, drop}
use lib.Dec.{eqb}
use borrow.Author.Tests.{lt-ltb, le-ltb, lt-leb, le-leb}
use Rattle.rules.specs.Verdicts.{Verdict, Pass, Refused}
use Rattle.rules.specs.Answers.{none, finish_accepted, finish_refused}
use Rattle.rules.specs.Limits.{slots, work_bytes}
use Rattle.rules.specs.Calendar.{calendar_fault}
use Rattle.rules.specs.Book.{Book, flow_count, InRange}
use Rattle.rules.specs.Reading.{version_of, book_of, book_fault, book_with, read, read_book, book_bytes}
use Rattle.rules.specs.Service.{served_at, position}
use Rattle.rules.specs.Rows.{Row, finish_of}
use Rattle.rules.specs.Placing.{Plan, planned, infeasible, place_first, rows_of, plan}
use Rattle.rules.specs.Table.{table_length, table_bytes, finish_in}
use Rattle.rules.specs.Planner.{PlanOutcome, plan_call}
use Rattle.rules.specs.Finish.{up_to_named, FinishOutcome, finish_outcome, finish_reading, unknown_flow, input_fault, finish_call}
use Rattle.rules.specs.Cut.{cut, number_in_cut}
use Rattle.rules.specs.Demands.Refusals.{by_eleven}
use Rattle.rules.specs.Demands.Planner.{PlansByTheRules, WithinTwice}
use Rattle.rules.specs.Demands.Finish.{finish_by_eleven, FinishRefusal, plan_of_cut, AsForCut, RefusedFlow, Finishes}
use Rattle.rules.proofs.Laws.Division.{lt-or_ge}
use Rattle.rules.proofs.Reading.Passing.{ReadWith, read-passes, read_in-range}
use Rattle.rules.proofs.Reading.CutBook.{kept, kept-among, among-kept, number-kept, position-among, cut_in-range}
use Rattle.rules.proofs.Reading.Position.{position_below, served-position}
use Rattle.rules.proofs.Reading.SameUse.{SameUse, finish_reading-same}
use Rattle.rules.proofs.Placing.PlannedRows.{placing_stops, placed-up_to, finish-settled}
use Rattle.rules.proofs.Placing.PlannedValid.{first-finish-within-twice}
use Rattle.rules.proofs.Placing.Infeasible.{up_to-at, stopped_proves}
use Rattle.rules.proofs.Demands.Demand3Values.{planned-finish-fits, infeasible_proves}
use Rattle.rules.proofs.Demands.Demand3.{read-cut}
use Rattle.rules.proofs.Placing.CutPlan.{renumber, renumber_plan, work_renumbered, cut-plan, cut-finish}
use Rattle.rules.proofs.Tables.TableBytes.{finish_in-front, finish-written}
use Rattle.rules.proofs.Demands.PlansByTheRules.{plans_by_the_rules}
use Rattle.rules.proofs.Calls.WrittenPlans.{written-finish}
use Rattle.rules.proofs.Calls.CallCases.{by_length, PlanCase, short_11, stopped_12, long_13, written_0, outcome-infeasible, call_case, call_plans, plan-number_12, plan-number_13}
use Rattle.rules.proofs.Demands.Refusals.{early-number, book_numbered, calendar_numbered}

-- ---- what a call answers and leaves
-- refused over an area as it was
abbrev refused_early : ℕ → ℕ → ℕ → List ℕ → FinishOutcome
refused_early n g j area = record { answer = finish_refused n g j; area = area }

-- a number of the call, and what a refusal leaves
record FinishAnswers (area : List ℕ) (o : FinishOutcome) : Type 0 where
  number_is : (o.answer.number ≤ 12) ⊎ ((22 ≤ o.answer.number) × (o.answer.number ≤ 24))
  refusal : 0 < o.answer.number → FinishRefusal area o

refused-answers : (n g j : ℕ) (area : List ℕ) → (n ≤ 12) ⊎ ((22 ≤ n) × (n ≤ 24)) → finish_by_eleven n ≡ true → FinishAnswers area (refused_early n g j area)
refused-answers n g j area number h = record {
  number_is = number;
  refusal = λ l. record { finish_zero = refl; kept = λ k. refl; zeroed = λ k. absurd (true≢false (sym h ∙ k)) };
}

-- by a number of the book or the calendar, or 11
early-answers : (n g j : ℕ) (area : List ℕ) → by_eleven n ≡ true → FinishAnswers area (refused_early n g j area)
early-answers n g j area h =
    refused-answers n g j area (early-number n h (λ l. inl (omega arith)) (λ q. inr (omega arith, omega arith)) (λ q. inr (omega arith, omega arith)))
    (ap (◌|| eqb n 23) h)

-- an ending is 0 or 12, and 12 leaves the area zeroed
ended_most : (f : ℕ) (area : List ℕ) (p : Plan) → (finish_outcome f area p).answer.number ≤ 12
unfolding finish_outcome
ended_most f area (planned rows) = omega arith
ended_most f area (infeasible g) = omega arith

ended-refusal : (f : ℕ) (area : List ℕ) (p : Plan) → 0 < (finish_outcome f area p).answer.number → FinishRefusal area (finish_outcome f area p)
unfolding finish_outcome
ended-refusal f area (planned rows) l = absurd (omega arith)
ended-refusal f area (infeasible g) l = record { finish_zero = refl; kept = λ k. absurd (true≢false (sym k)); zeroed = λ k. refl }

-- ---- a book that is read
module _ (b : Book) (f : ℕ) (area : List ℕ) where
  abbrev outcome : FinishOutcome
  outcome = finish_reading f area (read b)

  -- how the placing of the flows up to the one named ends
  abbrev ending : Plan
  ending = place_first b (up_to_named b f)

  -- 11, or by that ending
  outcome-short : length area < work_bytes → outcome ≡ refused_early 11 none none area
  unfolding finish_reading
  outcome-short h = rw (lt-ltb (length area) work_bytes h) refl

  outcome-ended : work_bytes ≤ length area → outcome ≡ finish_outcome f area ending
  unfolding finish_reading
  outcome-ended h = rw (le-ltb (length area) work_bytes h) refl

  -- these are all
  outcome_cases : (X : FinishOutcome → Type 0) → (length area < work_bytes → X (refused_early 11 none none area)) →
      (work_bytes ≤ length area → X (finish_outcome f area ending)) → X outcome
  unfolding finish_reading
  outcome_cases X = by_length X (length area) work_bytes _ _

  outcome_most : outcome.answer.number ≤ 12
  outcome_most = outcome_cases (λ o. o.answer.number ≤ 12) (λ h. omega arith) (λ h. ended_most f area ending)

  outcome-answers : FinishAnswers area outcome
  outcome-answers =
      outcome_cases (FinishAnswers area) (λ h. early-answers 11 none none area refl)
      (λ h. record { number_is = inl (ended_most f area ending); refusal = ended-refusal f area ending })

  -- 0 and 12 say how the placing ended
  ended_0 : (p : Plan) → (finish_outcome f area p).answer.number ≡ 0 →
      (p ≡ planned (rows_of p)) × ((finish_outcome f area p).answer.finish ≡ finish_of (rows_of p) f)
  unfolding finish_outcome
  ended_0 (planned rows) e = (refl, refl)
  ended_0 (infeasible g) e = absurd (omega arith)

  ended_12 : (p : Plan) → (finish_outcome f area p).answer.number ≡ 12 → p ≡ infeasible (finish_outcome f area p).answer.flow
  unfolding finish_outcome
  ended_12 (planned rows) e = absurd (omega arith)
  ended_12 (infeasible g) e = refl

  number_0 : outcome.answer.number ≡ 0 → (ending ≡ planned (rows_of ending)) × (outcome.answer.finish ≡ finish_of (rows_of ending) f)
  number_0 =
      outcome_cases (λ o. o.answer.number ≡ 0 → (ending ≡ planned (rows_of ending)) × (o.answer.finish ≡ finish_of (rows_of ending) f))
      (λ h z. absurd (omega arith)) (λ h. ended_0 ending)

  number_12 : outcome.answer.number ≡ 12 → ending ≡ infeasible outcome.answer.flow
  number_12 =
      outcome_cases (λ o. o.answer.number ≡ 12 → ending ≡ infeasible o.answer.flow) (λ h z. absurd (omega arith)) (λ h. ended_12 ending)

-- ---- the tests of a call, in their order
module _ (book calendar : List ℕ) (f : ℕ) (area : List ℕ) where
  call_book-refused : (n g j : ℕ) → book_fault book ≡ Refused n g j → finish_call book calendar f area ≡ refused_early n g j area
  unfolding finish_call input_fault finish_reading
  call_book-refused n g j e = rw e refl

  call_unknown : book_fault book ≡ Pass → flow_count (book_of book) ≤ f → finish_call book calendar f area ≡ refused_early 23 none none area
  unfolding finish_call input_fault finish_reading unknown_flow
  call_unknown e l = rw (e, le-leb (flow_count (book_of book)) f l) refl

  call-calendar-refused : (n g j : ℕ) → book_fault book ≡ Pass → f < flow_count (book_of book) → calendar_fault calendar ≡ Refused n g j →
      finish_call book calendar f area ≡ refused_early n g j area
  unfolding finish_call input_fault finish_reading unknown_flow
  call-calendar-refused n g j e l d = rw (e, lt-leb (flow_count (book_of book)) f l, d) refl

  call-passed : book_fault book ≡ Pass → f < flow_count (book_of book) → calendar_fault calendar ≡ Pass →
      finish_call book calendar f area ≡ finish_reading f area (read (book_with book calendar))
  unfolding finish_call input_fault unknown_flow
  call-passed e l d = rw (e, lt-leb (flow_count (book_of book)) f l, d) refl

  -- what holds of these outcomes holds of every call
  call_cases : (X : FinishOutcome → Type 0) → ((n g j : ℕ) → by_eleven n ≡ true → X (refused_early n g j area)) →
      (book_fault book ≡ Pass → flow_count (book_of book) ≤ f → X (refused_early 23 none none area)) → X (finish_reading f area (read (book_with book calendar))) →
      X (finish_call book calendar f area)
  call_cases X early unknown known = go (book_fault book) refl (lt-or_ge f (flow_count (book_of book))) (calendar_fault calendar) refl
    where
      go : (v : Verdict) → book_fault book ≡ v → (f < flow_count (book_of book)) ⊎ (flow_count (book_of book) ≤ f) → (u : Verdict) → calendar_fault calendar ≡ u →
          X (finish_call book calendar f area)
      go (Refused n g j) e l u d = subst X (sym (call_book-refused n g j e)) (early n g j ((book_numbered book).among n g j e).1)
      go Pass e (inr l) u d = subst X (sym (call_unknown e l)) (unknown e l)
      go Pass e (inl l) (Refused n g j) d = subst X (sym (call-calendar-refused n g j e l d)) (early n g j ((calendar_numbered calendar).among n g j d).1)
      go Pass e (inl l) Pass d = subst X (sym (call-passed e l d)) known

-- ---- a flow of a book that is read
module _ (book calendar : List ℕ) (b : Book) (reads : read_book book calendar ≡ read b) (f : ℕ) where
  range : InRange b
  range = read_in-range book calendar b reads

  passes : ReadWith book calendar b
  passes = read-passes book calendar b reads

  same_count : flow_count b ≡ flow_count (book_of book)
  same_count = ap flow_count passes.is_book

  -- a call goes by the values of the book
  pub finish-read : f < flow_count b → (area : List ℕ) → finish_call book calendar f area ≡ finish_reading f area (read b)
  finish-read l area =
      call-passed book calendar f area passes.book_passes (omega (arith, l, same_count)) passes.calendar_passes
      ∙ ap (λ (c : Book). finish_reading f area (read c)) (sym passes.is_book)

  finish_unknown : flow_count b ≤ f → (area : List ℕ) → finish_call book calendar f area ≡ refused_early 23 none none area
  finish_unknown l area = call_unknown book calendar f area passes.book_passes (omega (arith, l, same_count))

  -- a number other than 23 is that of a flow in the book
  flow-known : (n : ℕ) → (n ≡ 23 → ⊥) → (area : List ℕ) → (finish_call book calendar f area).answer.number ≡ n → f < flow_count b
  flow-known n ne area z = ⊎_elim (λ l. l) (λ l. absurd (ne (sym z ∙ ap (λ o. o.answer.number) (finish_unknown l area)))) (lt-or_ge f (flow_count b))

  -- the number of flows up to it
  abbrev many : ℕ
  many = up_to_named b f

  module _ (l : f < flow_count b) where
    fits : many ≤ flow_count b
    fits = position_below b f l

    named : served_at b (position b f) ≡ f
    named = served-position b f l

    -- ---- in the table of the whole book
    -- where all flows are planned, so are those up to it, and the others do not change its finish
    finish_of-plan : (rows : List Row) → plan b ≡ planned rows → (area : List ℕ) → work_bytes ≤ length area →
        (finish_call book calendar f area).answer ≡ finish_accepted (finish_of rows f)
    unfolding finish_outcome plan
    finish_of-plan rows e area h =
        let w = placed-up_to b (flow_count b) rows e many fits in
        ap (λ o. o.answer) (finish-read l area ∙ outcome-ended b f area h)
        ∙ ap (λ p. (finish_outcome f area p).answer) w.1
        ∙ ap finish_accepted
        (rw named at (finish-settled b many (flow_count b) w.0 rows fits (omega arith) w.1 e (position b f) (lt-suc_self (position b f))))

    in_table : (area out other : List ℕ) → work_bytes ≤ length area → (plan_call book calendar out other).answer.number ≡ 0 →
        (finish_call book calendar f area).answer ≡ finish_accepted (finish_in (plan_call book calendar out other).output f)
    unfolding PlansByTheRules
    in_table area out other h z =
        finish_of-plan (rows_of (plan b)) (plans_by_the_rules book calendar out other b reads z).all_placed area h
        ∙ ap finish_accepted (sym (written-finish book calendar out other b reads z f l))

    in_long_table : (area out other : List ℕ) → work_bytes ≤ length area → (plan_call book calendar out other).answer.number ≡ 13 →
        (finish_call book calendar f area).answer ≡ finish_accepted (finish_in (table_bytes b (rows_of (plan b))) f)
    in_long_table area out other h z =
        let rows = rows_of (plan b) in
        let e = (plan-number_13 (call_case book calendar out other b reads) z).0 in
        finish_of-plan rows e area h ∙ ap finish_accepted (sym (finish-written b rows f l (planned-finish-fits b range rows e f l)))

    -- ---- in the book cut after it
    abbrev cut_book : Book
    cut_book = cut b many

    cut_range : InRange cut_book
    cut_range = cut_in-range b many range

    cut_book-reads : read_book (book_bytes (version_of book) cut_book) calendar ≡ read cut_book
    cut_book-reads = read-cut book calendar b reads many

    cut_case : (out area : List ℕ) → PlanCase cut_book out area (plan_of_cut book calendar b f out area)
    cut_case out area = call_case (book_bytes (version_of book) cut_book) calendar out area cut_book cut_book-reads

    ending-cut : place_first b many ≡ renumber_plan (kept b many) (plan cut_book)
    ending-cut = cut-plan b many fits

    -- the flow is one of it, by the number counted off
    in_cut : (m : ℕ) × (m < flow_count cut_book) × (kept b many m ≡ f)
    in_cut = among-kept b many f l (rw named at (position-among b many (position b f) (lt-suc_self (position b f))))

    number-in_cut : number_in_cut b many f ≡ in_cut.0
    number-in_cut = ap (number_in_cut b many) (sym in_cut.2) ∙ number-kept b many in_cut.0 in_cut.1

    -- the finish stands in the cut book's table
    finish-in_cut : (out : List ℕ) (rows : List Row) → plan cut_book ≡ planned rows →
        finish_of (map (renumber (kept b many)) rows) f ≡ finish_in (table_bytes cut_book rows ++ drop (table_length cut_book rows) out) (number_in_cut b many f)
    finish-in_cut out rows e =
        let m = in_cut.0 in
        let rest = drop (table_length cut_book rows) out in
        ap (finish_of (map (renumber (kept b many)) rows)) (sym in_cut.2)
        ∙ cut-finish b many fits range rows e m in_cut.1
        ∙ sym (finish_in-front cut_book rows rest m in_cut.1 (planned-finish-fits cut_book cut_range rows e m in_cut.1))
        ∙ ap (finish_in (table_bytes cut_book rows ++ rest)) (sym number-in_cut)

    -- 11 is answered of both; 12 names a flow that was kept; with 0 the slots are used alike
    as-cut : (out area : List ℕ) {o : PlanOutcome} → PlanCase cut_book out area o → (o.answer.number ≡ 13 → ⊥) →
        AsForCut b f o (finish_reading f area (read b))
    unfolding finish_outcome
    as-cut out area (short_11 h) fit =
        rw (outcome-short b f area h)
        (record { same_number = refl; same_finish = λ z. absurd (omega arith); same_flow = λ z. absurd (omega arith); no_flow = λ z. refl; no_job_is = refl; same_area = refl })
    as-cut out area (stopped_12 h g e) fit =
        let below = (infeasible_proves cut_book cut_range g e).0 in
        rw (outcome-ended b f area h, ending-cut, e)
        (record {
          same_number = refl;
          same_finish = λ z. absurd (omega arith);
          same_flow = λ z. (kept-among b many g below, sym (number-kept b many g below));
          no_flow = λ z. absurd (omega arith);
          no_job_is = refl;
          same_area = refl;
        })
    as-cut out area (long_13 h rows e q) fit = absurd (fit refl)
    as-cut out area (written_0 h rows e q) fit =
        rw (outcome-ended b f area h, ending-cut, e)
        (record {
          same_number = refl;
          same_finish = λ z. finish-in_cut out rows e;
          same_flow = λ z. absurd (omega arith);
          no_flow = λ z. refl;
          no_job_is = refl;
          same_area = work_renumbered (kept b many) slots rows area;
        })

    as_for_cut : (area out : List ℕ) → ((plan_of_cut book calendar b f out area).answer.number ≡ 13 → ⊥) →
        AsForCut b f (plan_of_cut book calendar b f out area) (finish_call book calendar f area)
    as_for_cut area out fit = rw (finish-read l area) (as-cut out area (cut_case out area) fit)

    -- it is infeasible where the placing ends so
    cut-ends : (g : ℕ) → place_first b many ≡ infeasible g → (h : ℕ) × (plan cut_book ≡ infeasible h)
    cut-ends g e = go (plan cut_book) refl (sym ending-cut ∙ e)
      where
        go : (p : Plan) → plan cut_book ≡ p → renumber_plan (kept b many) p ≡ infeasible g → (h : ℕ) × (plan cut_book ≡ infeasible h)
        go (infeasible h) q d = (h, q)
        go (planned rows) q d = absurd (let z : ◌≡◌ {A = ℕ} 0 1 = cc in omega arith)

    infeasible_cut : (area out other : List ℕ) → work_bytes ≤ length other → (finish_call book calendar f area).answer.number ≡ 12 →
        (plan_of_cut book calendar b f out other).answer.number ≡ 12
    infeasible_cut area out other h z =
        let e = number_12 b f area (ap (λ o. o.answer.number) (sym (finish-read l area)) ∙ z) in
        let w = cut-ends (finish_reading f area (read b)).answer.flow e in
        ap (λ o. o.answer.number)
        (call_plans (book_bytes (version_of book) cut_book) calendar out other cut_book cut_book-reads h ∙ outcome-infeasible cut_book out other w.0 w.1)

    cut_infeasible : (area out other : List ℕ) → work_bytes ≤ length area → (plan_of_cut book calendar b f out other).answer.number ≡ 12 →
        (finish_call book calendar f area).answer.number ≡ 12
    unfolding finish_outcome
    cut_infeasible area out other h z =
        let w = plan-number_12 (cut_case out other) z in
        ap (λ o. o.answer.number) (finish-read l area ∙ outcome-ended b f area h)
        ∙ ap (λ p. (finish_outcome f area p).answer.number) (ending-cut ∙ ap (renumber_plan (kept b many)) w.1)

    -- what an ending by 12 proves
    ending_proves : (g : ℕ) → place_first b many ≡ infeasible g → RefusedFlow b f g
    ending_proves g e =
        let s = placing_stops b many g e in
        let w = stopped_proves b range many g fits s in
        record {
          in_book = w.0;
          up_to_named_is = rw s.served at (up_to-at b range (position b f) f fits named s.position_at s.position_below);
          none_on_time = w.1;
        }

  refused_flow : (area : List ℕ) → (finish_call book calendar f area).answer.number ≡ 12 → RefusedFlow b f (finish_call book calendar f area).answer.flow
  refused_flow area z =
      let l = flow-known 12 (λ e. omega arith) area z in
      let same = finish-read l area in
      subst (λ o. RefusedFlow b f o.answer.flow) (sym same)
      (ending_proves l (finish_reading f area (read b)).answer.flow (number_12 b f area (ap (λ o. o.answer.number) (sym same) ∙ z)))

  -- what holds of its finish among the flows placed up to it holds of the finish that is answered
  pub answered-holds : (X : ℕ → Type 0) → (f < flow_count b → (rows : List Row) → place_first b many ≡ planned rows → X (finish_of rows f)) →
      (area : List ℕ) → (finish_call book calendar f area).answer.number ≡ 0 → X (finish_call book calendar f area).answer.finish
  answered-holds X holds area z =
      let l = flow-known 0 (λ e. omega arith) area z in
      let same = finish-read l area in
      let w = number_0 b f area (ap (λ o. o.answer.number) (sym same) ∙ z) in
      subst X (sym (ap (λ o. o.answer.finish) same ∙ w.1)) (holds l (rows_of (place_first b many)) w.0)

  within_twice : (area : List ℕ) → (finish_call book calendar f area).answer.number ≡ 0 → WithinTwice b f (finish_call book calendar f area).answer.finish
  within_twice = answered-holds (WithinTwice b f) (λ l rows e. first-finish-within-twice b range many rows (fits l) e f)

-- ---- every call
call-answers : (book calendar area : List ℕ) (f : ℕ) → FinishAnswers area (finish_call book calendar f area)
call-answers book calendar area f =
    call_cases book calendar f area (FinishAnswers area) (λ n g j h. early-answers n g j area h)
    (λ e l. refused-answers 23 none none area (inr (omega arith, omega arith)) refl) (outcome-answers (book_with book calendar) f area)

only_23 : (book calendar area : List ℕ) (f : ℕ) → (finish_call book calendar f area).answer.number ≡ 23 →
    (book_fault book ≡ Pass) × (flow_count (book_of book) ≤ f)
only_23 book calendar area f =
    call_cases book calendar f area (λ o. o.answer.number ≡ 23 → (book_fault book ≡ Pass) × (flow_count (book_of book) ≤ f))
    (λ n g j h z. absurd (true≢false (sym h ∙ ap by_eleven z))) (λ e l z. (e, l))
    (λ z. absurd (omega (arith, z, outcome_most (book_with book calendar) f area)))

answers : (book calendar area : List ℕ) (f : ℕ) (b : Book) → read_book book calendar ≡ read b → f < flow_count b → work_bytes ≤ length area →
    ((finish_call book calendar f area).answer.number ≡ 0) ⊎ ((finish_call book calendar f area).answer.number ≡ 12)
unfolding finish_outcome
answers book calendar area f b reads l h = rw (finish-read book calendar b reads f l area, outcome-ended b f area h) (go (place_first b (up_to_named b f)))
  where
    go : (p : Plan) → ((finish_outcome f area p).answer.number ≡ 0) ⊎ ((finish_outcome f area p).answer.number ≡ 12)
    go (planned rows) = inl refl
    go (infeasible g) = inr refl

-- ---- books that are used alike
pub finish-same : (book other calendar : List ℕ) (b c : Book) → read_book book calendar ≡ read b → read_book other calendar ≡ read c → SameUse b c →
    (f : ℕ) (area : List ℕ) → finish_call book calendar f area ≡ finish_call other calendar f area
finish-same book other calendar b c reads reads' same f area =
    ⊎_elim
    (λ l. finish-read book calendar b reads f l area ∙ finish_reading-same b c same f area
    ∙ sym (finish-read other calendar c reads' f (omega (arith, l, same.flows.count)) area))
    (λ l. finish_unknown book calendar b reads f l area
    ∙ sym (finish_unknown other calendar c reads' f (omega (arith, l, same.flows.count)) area)) (lt-or_ge f (flow_count b))

pub finishes : Finishes
finishes = record {
  numbers = λ book calendar area f. (call-answers book calendar area f).number_is;
  refusal = λ book calendar area f. (call-answers book calendar area f).refusal;
  book_first = λ book calendar area f. call_book-refused book calendar f area;
  not_in_book = λ book calendar area f. call_unknown book calendar f area;
  only_23 = only_23;
  calendar_next = λ book calendar area f. call-calendar-refused book calendar f area;
  area_short = λ book calendar area f b reads l h. finish-read book calendar b reads f l area ∙ outcome-short b f area h;
  answers = answers;
  in_table = λ book calendar area out other f b reads l. in_table book calendar b reads f l area out other;
  in_long_table = λ book calendar area out other f b reads l. in_long_table book calendar b reads f l area out other;
  as_for_cut = λ book calendar area out f b reads l. as_for_cut book calendar b reads f l area out;
  infeasible_cut = λ book calendar area out other f b reads l. infeasible_cut book calendar b reads f l area out other;
  cut_infeasible = λ book calendar area out other f b reads l. cut_infeasible book calendar b reads f l area out other;
  refused_flow = λ book calendar area f b reads. refused_flow book calendar b reads f area;
  within_twice = λ book calendar area f b reads. within_twice book calendar b reads f area;
}
