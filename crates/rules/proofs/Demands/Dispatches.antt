-- The dispatch list (02, Req 03): what a call answers, writes and leaves, and that nothing is lost by it.
-- A call goes by the number that the check answers, then by the length of the output. The list that it writes reads back as the table's rows in the
-- list's order, over the area that the check leaves. Equal lists have the rows of one table, and a table without a fault is the one that its rows give.
-- Assumes nothing.
use mathlib.Core.Path.{◌≡◌, refl, sym, ap, subst, ◌∙◌}
use mathlib.Core.Logic.{◌⊎◌, inl, inr}
use Prim.Native.Nat.{ℕ, suc, ◌≤◌, ◌<◌}
use mathlib.Core.Bool.{true, true≢false}
use mathlib.Core.List.{List, ◌++◌}
use native.Mathlib.Omega.{arith}
use lib.ListN.{length, take, drop, get_or}
use lib.Dec.{eqb}
use borrow.Author.Tests.{eq-eqb, ne_eqb, lt-ltb, le-ltb}
use Rattle.rules.specs.Verdicts.{Pass}
use Rattle.rules.specs.Fields.{AllBytes}
use Rattle.rules.specs.Answers.{none, list_accepted, list_refused}
use Rattle.rules.specs.Limits.{slots, work_bytes}
use Rattle.rules.specs.Calendar.{calendar_of}
use Rattle.rules.specs.Book.{Book, InRange}
use Rattle.rules.specs.Reading.{read, book_of, book_with, read_book}
use Rattle.rules.specs.Rows.{Row, used_in, work_used, work_zero}
use Rattle.rules.specs.Placing.{rows_of, plan}
use Rattle.rules.specs.Table.{table_bytes}
use Rattle.rules.specs.Planner.{plan_call}
use Rattle.rules.specs.Check.{no_row, table_rows, table_fault, CheckOutcome, check_outcome, check_reading, check_call}
use Rattle.rules.specs.Dispatch.{listed_before, in_list_order, list_length, list_bytes, rows_in_list, DispatchOutcome, list_outcome, dispatch_checked, dispatch_call}
use Rattle.rules.specs.Schedule.{schedule_of}
use Rattle.rules.specs.Demands.Refusals.{CheckRefusal}
use Rattle.rules.specs.Demands.Planner.{PlansByTheRules}
use Rattle.rules.specs.Demands.Check.{AcceptsPlans}
use Rattle.rules.specs.Demands.DispatchList.{DispatchRefusal, times_in, list_of, WritesList, Dispatches}
use Rattle.rules.proofs.Laws.Division.{lt-or_ge}
use Rattle.rules.proofs.Reading.Passing.{read-passes, read_in-range}
use Rattle.rules.proofs.Rows.Rising.{◌∈◌, Rising}
use Rattle.rules.proofs.Rows.RowOrder.{Before}
use Rattle.rules.proofs.Rows.ListOrder.{Listed, list-rising, list_as_often, list-sum, list_injective, listed_next, listed-once}
use Rattle.rules.proofs.Rows.WorkArea.{used_pair}
use Rattle.rules.proofs.Tables.TableBytes.{RowFits, table-rows-fit, table-read}
use Rattle.rules.proofs.Tables.ListBytes.{list-rows_written, list-taken, list-past, list-head}
use Rattle.rules.proofs.Tables.TablePasses.{TablePasses, table_passes}
use Rattle.rules.proofs.Tables.AcceptedRows.{passing-rising, passing_use}
use Rattle.rules.proofs.Placing.PlannedValid.{planned-valid, planned_in-slots}
use Rattle.rules.proofs.Placing.PlannedTable.{planned-rows_are-schedule_rows}
use Rattle.rules.proofs.Demands.Refusals.{zero-reads, demand_1}
use Rattle.rules.proofs.Demands.AcceptsExactly.{row_fits, call-accepts}
use Rattle.rules.proofs.Demands.AcceptsPlans.{accepts_plans}
use Rattle.rules.proofs.Demands.PlansByTheRules.{plans_by_the_rules}
use Rattle.rules.proofs.Calls.WrittenPlans.{written-rows}
use Rattle.rules.proofs.Reading.SameUse.{with-same, dispatch-same}

-- ---- the three outcomes of a call
-- the list, over an area left by the check
abbrev pub listing : Book → List Row → List ℕ → List ℕ → DispatchOutcome
listing b rows out left = record { answer = list_accepted (list_length rows); output = list_bytes b rows ++ drop (list_length rows) out; area = left }

-- 13, over an area as it was
abbrev pub list_too_long : List ℕ → List ℕ → DispatchOutcome
list_too_long out area = record { answer = list_refused 13 none none; output = out; area = work_zero slots area }

-- a table that the check accepts is listed, or its list is too long
module _ (b : Book) (rows : List Row) (out area left : List ℕ) where
  pub rows-listed : list_length rows ≤ length out → list_outcome b rows out area left ≡ listing b rows out left
  unfolding list_outcome
  rows-listed l = rw (le-ltb (length out) (list_length rows) l) refl

  pub rows-too_long : length out < list_length rows → list_outcome b rows out area left ≡ list_too_long out area
  unfolding list_outcome
  rows-too_long l = rw (lt-ltb (length out) (list_length rows) l) refl

module _ (b : Book) (rows : List Row) (out area : List ℕ) (o : CheckOutcome) where
  abbrev outcome : DispatchOutcome
  outcome = dispatch_checked b rows out area o

  -- the check's refusal
  abbrev refused_by_check : DispatchOutcome
  refused_by_check = record { answer = list_refused o.answer.number o.answer.flow o.answer.job; output = out; area = o.area }

  outcome-refused : 0 < o.answer.number → outcome ≡ refused_by_check
  unfolding dispatch_checked
  outcome-refused h = rw (ne_eqb o.answer.number 0 (λ e. omega arith)) refl

  outcome-listed : o.answer.number ≡ 0 → list_length rows ≤ length out → outcome ≡ listing b rows out o.area
  unfolding dispatch_checked
  outcome-listed z l = rw (eq-eqb o.answer.number 0 z) (rows-listed b rows out area o.area l)

  outcome-too_long : o.answer.number ≡ 0 → length out < list_length rows → outcome ≡ list_too_long out area
  unfolding dispatch_checked
  outcome-too_long z l = rw (eq-eqb o.answer.number 0 z) (rows-too_long b rows out area o.area l)

  -- these are all
  outcome_cases : {X : Type 0} → (0 < o.answer.number → X) → (o.answer.number ≡ 0 → list_length rows ≤ length out → X) →
      (o.answer.number ≡ 0 → length out < list_length rows → X) → X
  outcome_cases {X} refused long short = go (lt-or_ge 0 o.answer.number) (lt-or_ge (length out) (list_length rows))
    where
      go : (0 < o.answer.number) ⊎ (o.answer.number ≤ 0) → (length out < list_length rows) ⊎ (list_length rows ≤ length out) → X
      go (inl h) l = refused h
      go (inr h) (inl l) = short (omega arith) l
      go (inr h) (inr l) = long (omega arith) l

  -- number 0 is that of the list
  outcome-zero : outcome.answer.number ≡ 0 → (o.answer.number ≡ 0) × (list_length rows ≤ length out)
  outcome-zero z =
      outcome_cases (λ h. absurd (omega (arith, ap (λ x. x.answer.number) (outcome-refused h)))) (λ e l. (e, l))
      (λ e l. absurd (omega (arith, ap (λ x. x.answer.number) (outcome-too_long e l))))

  outcome-refusal : (0 < o.answer.number → CheckRefusal area o) → 0 < outcome.answer.number → DispatchRefusal out area outcome
  outcome-refusal refused p =
      outcome_cases
      (λ h. subst (DispatchRefusal out area) (sym (outcome-refused h))
      (record { length_zero = refl; output_kept = refl; area_left = (refused h).area_left }))
      (λ e l. absurd (omega (arith, ap (λ x. x.answer.number) (outcome-listed e l))))
      (λ e l. subst (DispatchRefusal out area) (sym (outcome-too_long e l))
      (record { length_zero = refl; output_kept = refl; area_left = record { kept = λ k. absurd (true≢false (sym k)); zeroed = λ k. refl } }))

-- ---- what the list holds
module _ (b : Book) (rows : List Row) (out area : List ℕ) (fits : (r : Row) → r ∈ rows → RowFits r) (rising : Rising (Before b) rows) where
  list-holds : ((t : ℕ) → used_in rows t < 65536) → WritesList b rows out (listing b rows out (work_used slots rows area))
  unfolding used_in
  list-holds fit = record {
    length_is = refl;
    head = list-head b rows out;
    as_often = λ r. ap (times_in r) back ∙ list_as_often r rows;
    once = λ r. subst (λ l. times_in r l ≤ 1) (sym back) (listed-once r (in_list_order rows) rises);
    rising =
        subst (λ l. (k : ℕ) → suc k < length l → listed_before (get_or l k no_row) (get_or l (suc k) no_row) ≡ true) (sym back)
        (listed_next (in_list_order rows) rises);
    past = list-past b rows out;
    sums = λ t l. used_pair slots rows area t l (fit t) ∙ sym (ap (λ rs. used_in rs t) back ∙ list-sum (λ r. eqb r.slot t) rows);
  }
    where
      back : rows_in_list (take (list_length rows) (list_bytes b rows ++ drop (list_length rows) out)) ≡ in_list_order rows
      back = ap rows_in_list (list-taken b rows out) ∙ list-rows_written b rows fits

      rises : Rising Listed (in_list_order rows)
      rises = list-rising b rows rising

-- ---- a book that is read
-- number 0 is answered of a book that is read
pub check-reads : (book calendar table area : List ℕ) → (check_call book calendar table area).answer.number ≡ 0 →
    read_book book calendar ≡ read (book_with book calendar)
unfolding check_call check_reading
check-reads book calendar table area = zero-reads book calendar (λ r. (check_reading table area r).answer.number) (λ n f j. refl)

module _ (book calendar : List ℕ) (b : Book) (reads : read_book book calendar ≡ read b) (table out area : List ℕ) where
  abbrev call : DispatchOutcome
  call = dispatch_call book calendar table out area

  abbrev checked : CheckOutcome
  checked = check_call book calendar table area

  abbrev rows : List Row
  rows = table_rows b table

  range : InRange b
  range = read_in-range book calendar b reads

  pub dispatch-read : call ≡ dispatch_checked b rows out area checked
  unfolding dispatch_call
  dispatch-read =
      sym (dispatch-same (book_with book calendar) (book_of book) (with-same (calendar_of calendar) (book_of book)) table out area checked)
      ∙ ap (λ c. dispatch_checked c (table_rows c table) out area checked) (sym (read-passes book calendar b reads).is_book)

  -- number 0 is that of a table without a fault, and of its list over the area that its rows use
  call-lists : call.answer.number ≡ 0 → (table_fault b table ≡ Pass) × (call ≡ listing b rows out (work_used slots rows area))
  unfolding check_outcome
  call-lists z =
      let w = outcome-zero b rows out area checked (ap (λ o. o.answer.number) (sym dispatch-read) ∙ z) in
      let c = call-accepts book calendar table area b reads w.0 in
      (c.0, dispatch-read ∙ outcome-listed b rows out area checked w.0 w.1 ∙ ap (λ o. listing b rows out o.area) c.1)

  call_passes : call.answer.number ≡ 0 → TablePasses b table
  call_passes z = table_passes b table (call-lists z).0

  call-rising : call.answer.number ≡ 0 → Rising (Before b) rows
  call-rising z = passing-rising b range rows (call_passes z).rows_pass

  call-holds : ((r : Row) → r ∈ rows → RowFits r) → call.answer.number ≡ 0 → WritesList b rows out call
  call-holds fits z =
      subst (WritesList b rows out) (sym (call-lists z).1)
      (list-holds b rows out area fits (call-rising z)
      (λ t. omega (arith, passing_use b range rows (call_passes z).rows_pass t, range.processors_most)))

  call-too_long : checked.answer.number ≡ 0 → length out < list_length rows → call.answer ≡ list_refused 13 none none
  call-too_long z l = ap (λ o. o.answer) (dispatch-read ∙ outcome-too_long b rows out area checked z l)

  call-long-enough : checked.answer.number ≡ 0 → list_length rows ≤ length out → call.answer ≡ list_accepted (list_length rows)
  call-long-enough z l = ap (λ o. o.answer) (dispatch-read ∙ outcome-listed b rows out area checked z l)

  -- the list, as bytes
  call_list : call.answer.number ≡ 0 → list_of call ≡ list_bytes b rows
  call_list z = ap list_of (call-lists z).1 ∙ list-taken b rows out

  -- the table is the one that its rows give
  call-table : AllBytes table → call.answer.number ≡ 0 → table ≡ table_bytes b rows
  call-table bytes z = let p = call_passes z in table-read b table bytes p.head_passes p.finishes

-- the area is the one that the check leaves
area_as_check : (book calendar table out area : List ℕ) → (dispatch_call book calendar table out area).answer.number ≡ 0 →
    (dispatch_call book calendar table out area).area ≡ (check_call book calendar table area).area
unfolding dispatch_call
area_as_check book calendar table out area z =
    let b = book_of book in
    let o = check_call book calendar table area in
    let w = outcome-zero b (table_rows b table) out area o z in
    ap (λ x. x.area) (outcome-listed b (table_rows b table) out area o w.0 w.1)

-- ---- nothing is lost
nothing_lost : (book calendar table other out out' area area' : List ℕ) → AllBytes table → AllBytes other →
    (dispatch_call book calendar table out area).answer.number ≡ 0 → (dispatch_call book calendar other out' area').answer.number ≡ 0 →
    list_of (dispatch_call book calendar table out area) ≡ list_of (dispatch_call book calendar other out' area') → table ≡ other
unfolding dispatch_call
nothing_lost book calendar table other out out' area area' bytes bytes' z z' same =
    let b = book_with book calendar in
    let rows = table_rows b table in
    let rows' = table_rows b other in
    let reads = check-reads book calendar table area
    (outcome-zero (book_of book) (table_rows (book_of book) table) out area (check_call book calendar table area) z).0 in
    let equal : list_bytes b rows ≡ list_bytes b rows' =
    sym (call_list book calendar b reads table out area z) ∙ same ∙ call_list book calendar b reads other out' area' z' in
    let listed : in_list_order rows ≡ in_list_order rows' =
    sym (list-rows_written b rows (table-rows-fit b table bytes)) ∙ ap rows_in_list equal ∙ list-rows_written b rows' (table-rows-fit b other bytes') in
    let one : rows ≡ rows' =
    list_injective b rows rows' (call-rising book calendar b reads table out area z) (call-rising book calendar b reads other out' area' z') listed in
    call-table book calendar b reads table out area bytes z ∙ ap (table_bytes b) one ∙ sym (call-table book calendar b reads other out' area' bytes' z')

-- ---- the list of a plan
lists_plan : (book calendar out area list other : List ℕ) (b : Book) → read_book book calendar ≡ read b → (plan_call book calendar out area).answer.number ≡ 0 →
    list_length (rows_of (plan b)) ≤ length list → work_bytes ≤ length other →
    WritesList b (rows_of (plan b)) list
    (dispatch_call book calendar (take (plan_call book calendar out area).answer.length (plan_call book calendar out area).output) list other)
unfolding PlansByTheRules AcceptsPlans
lists_plan book calendar out area list other b reads z fit long =
    let range = read_in-range book calendar b reads in
    let rows = rows_of (plan b) in
    let o = plan_call book calendar out area in
    let p = plans_by_the_rules book calendar out area b reads z in
    let table = take o.answer.length o.output in
    let same = planned-rows_are-schedule_rows b range rows p.all_placed in
    let valid = planned-valid b range rows p.all_placed in
    let within = planned_in-slots b range rows p.all_placed in
    let back : table_rows b table ≡ rows = written-rows book calendar out area b reads z in
    let fits : (r : Row) → r ∈ rows → RowFits r =
    subst (λ rs. (r : Row) → r ∈ rs → RowFits r) (sym same) (row_fits b range (schedule_of rows) valid within) in
    let zero = ap (λ a. a.number) (accepts_plans book calendar out area other z long) in
    let enough = call-long-enough book calendar b reads table list other zero (subst (λ rs. list_length rs ≤ length list) (sym back) fit) in
    subst (λ rs. WritesList b rs list (dispatch_call book calendar table list other)) back
    (call-holds book calendar b reads table list other (subst (λ rs. (r : Row) → r ∈ rs → RowFits r) (sym back) fits) (ap (λ a. a.number) enough))

pub dispatches : Dispatches
unfolding dispatch_call
dispatches = record {
  check_first = λ book calendar table out area. outcome-refused (book_of book) (table_rows (book_of book) table) out area (check_call book calendar table area);
  too_long = λ book calendar table out area b reads. call-too_long book calendar b reads table out area;
  long_enough = λ book calendar table out area b reads. call-long-enough book calendar b reads table out area;
  refusal = λ book calendar table out area.
      outcome-refusal (book_of book) (table_rows (book_of book) table) out area (check_call book calendar table area) (demand_1.check_refusal book calendar table area);
  lists_table = λ book calendar table out area b reads bytes. call-holds book calendar b reads table out area (table-rows-fit b table bytes);
  area_as_check = area_as_check;
  nothing_lost = nothing_lost;
  lists_plan = lists_plan;
}
