-- The call, case by case. Assumes nothing.
use mathlib.Core.Path.{◌≡◌, refl, sym, ap, subst, ◌∙◌}
use Prim.Native.Nat.{ℕ, suc, ◌+◌, ◌-◌, ◌≤◌, ◌<◌}
use native.Mathlib.Omega.{arith}
use mathlib.Core.List.{List, []}
use mathlib.Core.Bool.{true, false}
use Rattle.std.specs.Prelude.{Result, Ok, Err, IsErrAnd, is_err}
use Rattle.std.proofs.lemmas.Result.{err_from_is_err_and}
use lib.ListN.{length}
use borrow.Author.Tests.{lt-ltb, le-ltb, le-leb, lt-leb}
use Rattle.rules.specs.Verdicts.{Pass, Refused}
use Rattle.rules.specs.declared.Refusal.{Refusal}
use Rattle.rules.specs.declared.FinishAnswer.{FinishAnswer}
use Rattle.rules.specs.Faults.{fault_number}
use Rattle.rules.specs.Answers.{none, finish_accepted, finish_refused}
use Rattle.rules.specs.Limits.{slots, work_bytes}
use Rattle.rules.specs.Calendar.{Calendar, calendar_of, calendar_fault}
use Rattle.rules.specs.Book.{Book, with_calendar, flow_count}
use Rattle.rules.specs.Reading.{book_of, book_fault, book_with}
use Rattle.rules.specs.Service.{served_at, position}
use Rattle.rules.specs.Rows.{finish_of, work_used, work_zero}
use Rattle.rules.specs.Placing.{infeasible, place_first}
use Rattle.rules.specs.Finish.{up_to_named, FinishOutcome, finish_outcome, finish_reading, unknown_flow, input_fault, finish_call}
use Rattle.rules.proofs.Reading.Position.{served-position}
use Rattle.rules.proofs.Reading.SameUse.{with-same, position-same}
use Rattle.rules.proofs.Rows.WorkArea.{used-none, cleared-twice, used-over-cleared}
use Rattle.book.specs.declared.passing.Book.{Book as HeldBook}
use Rattle.calendar.specs.declared.maintenance.Calendar.{Calendar as HeldCalendar}
use Rattle.calendar.specs.Held.{held_windows}
use Rattle.place.specs.Order.{shut_rows, Stands}
use Rattle.place.specs.Turns.{whole_book, TakenOut}
use Rattle.place.proofs.FlowByFlow.{infeasible-stays}
use Rattle.finish.specs.Flows.{PlacedAll, PlacedSome, PlacedUpTo}
use Rattle.finish.specs.Call.{outcome_up_to, Leaves, answer_by}

-- ---- what is left of a book and a calendar that pass: the area was cleared before placing, and then held the
-- maintenance until the flows were placed
pub cleared-holds : (area area₀ : List ℕ) → area₀ ≡ work_zero slots area → area₀ ≡ work_used slots [] area₀
cleared-holds area area₀ e = e ∙ sym (cleared-twice slots area) ∙ ap (work_zero slots) (sym e) ∙ sym (used-none slots area₀)

pub maintenance-over : (b : Book) (area area₀ area₁ : List ℕ) → area₀ ≡ work_zero slots area → area₁ ≡ work_used slots (shut_rows b) area₀ →
    area₁ ≡ work_used slots (shut_rows b) area
maintenance-over b area area₀ area₁ zeros e = e ∙ ap (work_used slots (shut_rows b)) zeros ∙ used-over-cleared slots (shut_rows b) area

module _ (b : Book) (f k : ℕ) (area area₁ area₂ area₃ : List ℕ) (named : f < flow_count b) (count : k ≡ up_to_named b f)
    (held : area₁ ≡ work_used slots (shut_rows b) area) (opened : TakenOut b area area₂ area₃) where
  pub leaves-finish : (finish : ℕ) → PlacedAll b k area₁ area₂ finish → Leaves (outcome_up_to b f area) (finish_accepted finish) area₃
  unfolding finish_outcome
  leaves-finish finish a =
      let all : a.state.position ≡ up_to_named b f = a.all ∙ count in
      let so_far_lem = a.so_far_lem in
      let last : finish ≡ finish_of so_far_lem.rows f =
      a.last ∙ so_far_lem.finish (position b f) all ∙ ap (finish_of so_far_lem.rows) (served-position b f named) in
      let stands = subst (λ (bytes : List ℕ). Stands b a.state.position so_far_lem.rows bytes area₂) held so_far_lem.stands in
      rw (← all, so_far_lem.stands.placed)
      (record { answers = ap finish_accepted last; area_left = opened.flows_left a.state.position so_far_lem.rows stands })

  pub leaves-infeasible : (e : Refusal) → PlacedSome b k area₁ area₂ e → (area₄ : List ℕ) → area₄ ≡ work_zero slots area₃ →
      Leaves (outcome_up_to b f area) (finish_refused (fault_number e.fault) e.flow e.job) area₄
  unfolding finish_outcome
  leaves-infeasible e s area₄ zeros =
      let at = s.state.position in
      let rest : suc at + (k - suc at) ≡ up_to_named b f = omega (arith, s.some, count) in
      let stays = infeasible-stays b (suc at) (k - suc at) (served_at b at) s.stopped.refused in
      let all : place_first b (up_to_named b f) ≡ infeasible (served_at b at) = rw rest at stays in
      rw all (record {
        answers = ap (λ (r : Refusal). finish_refused (fault_number r.fault) r.flow r.job) s.refusal;
        area_left = zeros ∙ opened.cleared s.stopped.others (s.stopped.area_used ∙ ap (work_used slots s.stopped.others) held);
      })

  -- whichever way the placing went: after a refusal the area is cleared
  pub leaves_placed : (r : Result ℕ Refusal) → is_err r ≡ false → PlacedUpTo b k area₁ area₂ r → Leaves (outcome_up_to b f area) (answer_by r) area₃
  leaves_placed (Ok finish) e p = leaves-finish finish p
  leaves_placed (Err d) e p = absurd (cc)

  pub leaves_cleared : (r : Result ℕ Refusal) → is_err r ≡ true → PlacedUpTo b k area₁ area₂ r → (area₄ : List ℕ) → area₄ ≡ work_zero slots area₃ →
      Leaves (outcome_up_to b f area) (answer_by r) area₄
  leaves_cleared (Ok finish) e p area₄ zeros = absurd (cc)
  leaves_cleared (Err d) e p area₄ zeros = leaves-infeasible d p area₄ zeros

-- ---- the same where the turns are those of a book and a calendar that are lent
module _ (x y : HeldBook) (c d : HeldCalendar) (book : x ≡ y) (calendar : c ≡ d) where
  pub whole-same : whole_book x c ≡ whole_book y d
  whole-same = ap (λ (z : HeldBook). whole_book z c) book ∙ ap (whole_book y) calendar

  -- a flow that is named, and as many flows as are placed up to it
  pub named-same : (f : ℕ) → f < flow_count (book_of y.bytes.now) → f < flow_count (whole_book x c)
  named-same f l = subst (λ (b : Book). f < flow_count b) (sym whole-same) l

  pub counted-same : (f n : ℕ) → n ≡ position (book_of y.bytes.now) f → n + 1 ≡ up_to_named (whole_book x c) f
  counted-same f n e =
      let same = position-same (whole_book y d) (book_of y.bytes.now) (with-same (held_windows d) (book_of y.bytes.now)) f in
      subst (λ (b : Book). n + 1 ≡ up_to_named b f) (sym whole-same) (omega (arith, e, same))

  pub leaves-same : (f : ℕ) (area : List ℕ) (answer : FinishAnswer) (left : List ℕ) → Leaves (outcome_up_to (whole_book x c) f area) answer left →
      Leaves (outcome_up_to (whole_book y d) f area) answer left
  leaves-same f area answer left l = subst (λ (b : Book). Leaves (outcome_up_to b f area) answer left) whole-same l

-- ---- the outcome of a call
module _ (s calendar area : List ℕ) (f : ℕ) where
  pub call-refused : (n g j : ℕ) → book_fault s ≡ Refused n g j → finish_call s calendar f area ≡ record { answer = finish_refused n g j; area = area }
  unfolding finish_call input_fault finish_reading
  call-refused n g j e = rw e refl

  pub call_unknown : book_fault s ≡ Pass → flow_count (book_of s) ≤ f → finish_call s calendar f area ≡ record { answer = finish_refused 23 none none; area = area }
  unfolding finish_call input_fault unknown_flow finish_reading
  call_unknown e l = rw (e, le-leb (flow_count (book_of s)) f l) refl

  module _ (e : book_fault s ≡ Pass) (named : f < flow_count (book_of s)) where
    pub call-refused-calendar : (n g j : ℕ) → calendar_fault calendar ≡ Refused n g j →
        finish_call s calendar f area ≡ record { answer = finish_refused n g j; area = area }
    unfolding finish_call input_fault unknown_flow finish_reading
    call-refused-calendar n g j d = rw (e, lt-leb (flow_count (book_of s)) f named, d) refl

    module _ (d : calendar_fault calendar ≡ Pass) where
      pub call-short : length area < work_bytes → finish_call s calendar f area ≡ record { answer = finish_refused 11 none none; area = area }
      unfolding finish_call input_fault unknown_flow finish_reading
      call-short l = rw (e, lt-leb (flow_count (book_of s)) f named, d, lt-ltb (length area) work_bytes l) refl

      pub call_passing : work_bytes ≤ length area → finish_call s calendar f area ≡ outcome_up_to (book_with s calendar) f area
      unfolding finish_call input_fault unknown_flow finish_reading
      call_passing l = rw (e, lt-leb (flow_count (book_of s)) f named, d, le-ltb (length area) work_bytes l) refl

      pub call-placed : (c : Calendar) → c ≡ calendar_of calendar → work_bytes ≤ length area →
          finish_call s calendar f area ≡ outcome_up_to (with_calendar c (book_of s)) f area
      call-placed c q l = call_passing l ∙ ap (λ (k : Calendar). outcome_up_to (with_calendar k (book_of s)) f area) (sym q)

      -- the same of a book and a calendar as the code holds them
      pub call-placed-held : (x : HeldBook) (c : HeldCalendar) → x.bytes.now ≡ s → held_windows c ≡ calendar_of calendar → work_bytes ≤ length area →
          finish_call s calendar f area ≡ outcome_up_to (whole_book x c) f area
      call-placed-held x c same windows l = rw same (call-placed (held_windows c) windows l)

-- ---- what a refused call leaves
pub leaves : (o : FinishOutcome) (answer : FinishAnswer) (area : List ℕ) → o ≡ record { answer = answer; area = area } →
    (answer' : FinishAnswer) → answer' ≡ answer → Leaves o answer' area
leaves o answer area e answer' p = record {
  answers = p ∙ sym (ap (λ (x : FinishOutcome). x.answer) e);
  area_left = sym (ap (λ (x : FinishOutcome). x.area) e);
}

pub leaves-as : (o p : FinishOutcome) → o ≡ p → Leaves o p.answer p.area
leaves-as o p e = leaves o p.answer p.area e p.answer refl

-- a refusal that a callee found is handed on as it is
pub handed_on : (o : FinishOutcome) (area : List ℕ) (r : Result ℕ Refusal) (e : Refusal) → IsErrAnd r (λ y. y ≡ e) →
    Leaves o (finish_refused (fault_number e.fault) e.flow e.job) area → Leaves o (answer_by r) area
handed_on o area r e h l = let p = err_from_is_err_and r h in rw (p.1, p.2) l

pub leaves-placed : (o p : FinishOutcome) → o ≡ p → (answer : FinishAnswer) (area : List ℕ) → Leaves p answer area → Leaves o answer area
leaves-placed o p e answer area l = rw e l
