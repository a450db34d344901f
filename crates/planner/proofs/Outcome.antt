-- The planner's outcome, case by case, and what its passes leave: the area is zero again after a pass is cleared, and
-- rows, finishes and head written in turn are the table. Assumes nothing.
use mathlib.Core.Path.{◌≡◌, refl, sym, ap, ap₂, subst, ◌∙◌}
use Prim.Native.Nat.{ℕ, ◌+◌, ◌*◌, ◌≤◌, ◌<◌}
use native.Mathlib.Omega.{arith}
use mathlib.Core.List.{List, [], ◌++◌}
use lib.ListN.{length, get_or}
use lib.Seq.{sets}
use borrow.Author.Tests.{lt-ltb}
use Rattle.std.specs.Prelude.{Result, Ok, Err}
use Rattle.rules.specs.Verdicts.{Pass, Refused}
use Rattle.rules.specs.declared.PlanAnswer.{PlanAnswer}
use Rattle.rules.specs.declared.Fault.TheVariants as fault
use Rattle.rules.specs.declared.Refusal.{Refusal}
use Rattle.rules.specs.Faults.{refusal_at}
use Rattle.rules.specs.Answers.{none, plan_accepted, plan_refused}
use Rattle.rules.specs.Limits.{slots, work_bytes}
use Rattle.rules.specs.Calendar.{Calendar, calendar_of, calendar_fault}
use Rattle.rules.specs.Book.{Book, with_calendar, flow_count}
use Rattle.rules.specs.Reading.{book_of, book_fault, book_with, read_book}
use Rattle.rules.specs.Rows.{Row, finish_of, late_flows, work_used, work_zero}
use Rattle.rules.specs.Placing.{Plan, planned, infeasible, place_first, plan}
use Rattle.rules.specs.Planner.{PlanOutcome, plan_outcome, plan_reading, plan_call}
use Rattle.rules.specs.Table.{table_head, table_length}
use Rattle.rules.proofs.Calls.CallCases.{outcome-infeasible, outcome-longer, outcome-written, call_plans}
use Rattle.rules.proofs.Reading.Passing.{pass-reads}
use Rattle.rules.proofs.Rows.WorkArea.{used-none, cleared-twice, used-over-cleared}
use Rattle.rules.proofs.Reading.SameUse.{with-same, late-same}
use Rattle.book.specs.Late.{late_among}
use Rattle.book.proofs.LateFlows.{late-among}
use Rattle.place.specs.Output.{put_rows}
use Rattle.place.proofs.Output.{no_bytes}
use Rattle.planner.specs.declared.Whole.{Whole}
use Rattle.planner.specs.Whole.{RowsPut, ended_of, end_in, FirstPlaced}
use Rattle.planner.specs.Call.{Leaves, plan_of, answer_by, Counted, Sized}
use Rattle.planner.specs.Head.{table_head_bytes, finish_bytes}
use Rattle.planner.proofs.Assembly.{table-stored}
use Rattle.planner.proofs.FirstFlows.{offset_most}

-- ---- the area
-- the use of rows asks nothing of an area but what is past its slots
used_by-rest : (n : ℕ) (rows : List Row) (a c : List ℕ) → work_zero n a ≡ work_zero n c → work_used n rows a ≡ work_used n rows c
used_by-rest n rows a c e = sym (used-over-cleared n rows a) ∙ ap (work_used n rows) e ∙ used-over-cleared n rows c

-- so the outcome does not ask whether the area was cleared before
pub outcome_by-rest : (b : Book) (out a c : List ℕ) (p : Plan) → work_zero slots a ≡ work_zero slots c → plan_outcome b out a p ≡ plan_outcome b out c p
unfolding plan_outcome
outcome_by-rest b out a c (planned rows) e = rw (e, used_by-rest slots rows a c e) refl
outcome_by-rest b out a c (infeasible f) e = rw e refl

-- ---- what is left in each case
pub leaves : (o : PlanOutcome) (answer : PlanAnswer) (output area : List ℕ) → o ≡ record { answer = answer; output = output; area = area } →
    (answer' : PlanAnswer) (output' area' : List ℕ) → answer' ≡ answer → output' ≡ output → area' ≡ area → Leaves o answer' output' area'
leaves o answer output area e answer' output' area' p q r = record {
  answers = p ∙ sym (ap (λ (x : PlanOutcome). x.answer) e);
  output_left = q ∙ sym (ap (λ (x : PlanOutcome). x.output) e);
  area_left = r ∙ sym (ap (λ (x : PlanOutcome). x.area) e);
}

-- ---- the outcome of a call
module _ (s calendar out area : List ℕ) where
  pub call-refused : {n f j : ℕ} → Refused n f j ≡ book_fault s → Leaves (plan_call s calendar out area) (plan_refused n f j) out area
  unfolding plan_call read_book plan_reading
  call-refused e = leaves _ _ _ _ (rw (← e) refl) _ _ _ refl refl refl

  module _ (book_passes : Pass ≡ book_fault s) where
    pub call-refused-calendar : {n f j : ℕ} → Refused n f j ≡ calendar_fault calendar → Leaves (plan_call s calendar out area) (plan_refused n f j) out area
    unfolding plan_call read_book plan_reading
    call-refused-calendar e = leaves _ _ _ _ (rw (← book_passes, ← e) refl) _ _ _ refl refl refl

    pub call-short : Pass ≡ calendar_fault calendar → length area < work_bytes → Leaves (plan_call s calendar out area) (plan_refused 11 none none) out area
    unfolding plan_call read_book plan_reading
    call-short e l = leaves _ _ _ _ (rw (← book_passes, ← e, lt-ltb (length area) work_bytes l) refl) _ _ _ refl refl refl

    -- book and calendar pass, as the code holds them
    pub leaves_passing : {t : List ℕ} {c : Calendar} → t ≡ s → c ≡ calendar_of calendar → calendar_fault calendar ≡ Pass → work_bytes ≤ length area →
        {answer : PlanAnswer} {out' area' : List ℕ} → Leaves (plan_of (with_calendar c (book_of t)) out area) answer out' area' →
        Leaves (plan_call s calendar out area) answer out' area'
    leaves_passing d e p l {answer} {out'} {area'} h =
        subst (λ (o : PlanOutcome). Leaves o answer out' area')
        (ap₂ (λ (k : Calendar) (u : List ℕ). plan_of (with_calendar k (book_of u)) out area) e d
        ∙ sym (call_plans s calendar out area (book_with s calendar) (pass-reads s calendar (sym book_passes) p) l)) h

head-same : (m n p q f g : ℕ) → m ≡ n → p ≡ q → f ≡ g → table_head_bytes m p f ≡ table_head_bytes n q g
head-same m n p q f g d e h = rw (d, e, h) refl

-- ---- the second placing
-- the late flows, by the finishes: a calendar changes none
pub late-planned : (c : Calendar) (b : Book) (finishes : List ℕ) (rows : List Row) →
    ((f : ℕ) → f < flow_count b → get_or finishes f 0 ≡ finish_of rows f) → late_among b finishes ≡ late_flows (with_calendar c b) rows
late-planned c b finishes rows e = late-among b rows finishes e ∙ sym (late-same (with_calendar c b) b (with-same c b) rows)

-- the table has room for head and finishes
pub head-within : {b : Book} {size n : ℕ} → Sized b size → n ≡ flow_count b → 8 + 2 * n ≤ size
unfolding table_length
head-within z q = omega (arith, z.size_of)

-- all flows are placed again
all : {b : Book} {size n : ℕ} (z : Sized b size) → n ≡ flow_count b → place_first b n ≡ planned z.rows
unfolding plan
all {b} z q = ap (place_first b) q ∙ z.planned_rows

module _ {b : Book} {size : ℕ} {out area : List ℕ} (unused : area ≡ work_used slots [] area) (z : Sized b size) where
  -- "table longer than the lent output"
  pub leaves-longer : length out < size → Leaves (plan_of b out area) (plan_refused 13 none none) out area
  leaves-longer l =
      leaves _ _ _ _ (outcome-longer b out area z.rows z.planned_rows (rw z.size_of at l)) _ out area refl refl (unused ∙ used-none slots area)

  -- the second placing refuses nothing
  pub not-refused : {X : Type 0} {n : ℕ} → n ≡ flow_count b → {out₁ area' : List ℕ} {e : Refusal} → FirstPlaced b n out area out₁ area' (Err e) → X
  not-refused q f = let d = all z q in let ends = f.ends in cc

  -- rows, finishes and head are written
  pub leaves-written : {n : ℕ} → n ≡ flow_count b → (out₁ out₂ out₃ area' : List ℕ) (r : Whole) (processors late : ℕ) → size ≤ length out → FirstPlaced b n out area out₁ area' (Ok r) →
      out₂ ≡ sets out₁ 8 (finish_bytes r.finishes n) → processors ≡ b.processors → out₃ ≡ sets out₂ 0 (table_head_bytes size processors n) →
      ((rows : List Row) → ((f : ℕ) → f < flow_count b → get_or r.finishes f 0 ≡ finish_of rows f) → late ≡ late_flows b rows) → Leaves (plan_of b out area) (plan_accepted late size) out₃ area'
  leaves-written {n} q out₁ out₂ out₃ area' r processors late l f e₂ e e₃ d =
      leaves _ _ _ _ (outcome-written b out area rows z.planned_rows room) (plan_accepted late size) out₃ area'
      (ap₂ plan_accepted (d rows p.finish) z.size_of)
      (e₃ ∙ ap (λ (o : List ℕ). sets o 0 (table_head_bytes size processors n)) (e₂ ∙ ap (λ (o : List ℕ). sets o 8 (finish_bytes r.finishes n)) p.put.output)
      ∙ ap₂ (λ (m : ℕ) (h : List ℕ). sets (sets (put_rows out (table_head b) rows) 8 (finish_bytes r.finishes m)) 0 h) q (head-same size (table_length b rows) processors b.processors n (flow_count b) z.size_of e q)
      ∙ table-stored out r.finishes b rows room p.finish)
      (f.area_used rows (all z q))
    where
      rows : List Row
      rows = z.rows

      room : table_length b rows ≤ length out
      room = rw z.size_of at l

      p : RowsPut b n rows out out₁ r.finishes (table_length b rows)
      p = f.rows_put rows (all z q)

-- ---- the first placing
-- an area that is cleared has no use
pub cleared-unused : (area : List ℕ) {area' : List ℕ} → area' ≡ work_zero slots area → area' ≡ work_used slots [] area'
cleared-unused area {area'} e = e ∙ sym (cleared-twice slots area) ∙ ap (work_zero slots) (sym e) ∙ sym (used-none slots area')

-- rows that were put into no bytes are counted
pub counted : {b : Book} {n : ℕ} (out area : List ℕ) {part part' area₁ area₂ area₃ : List ℕ} {r : Result Whole Refusal} → n ≡ flow_count b → n ≤ 64 →
    area₁ ≡ work_zero slots area → length part' ≡ 0 → FirstPlaced b n part area₁ part' area₂ r → area₃ ≡ work_zero slots area₂ →
    Counted b out area (part' ++ out) area₃ (end_in r)
unfolding plan
counted {b} {n} out area {part} {part'} {area₁} {area₂} {area₃} {r} q few e l f d = record {
  ends = f.ends ∙ ap (λ (m : ℕ). ended_of b (place_first b m)) q;
  fits = λ rows p. omega (arith, offset_most (omega arith) (omega arith) (f.rows_put rows (ap (place_first b) q ∙ p)));
  output_kept = ap (◌++ out) (no_bytes part' l);
  area_zero = d ∙ f.cleared ∙ ap (work_zero slots) e ∙ cleared-twice slots area;
}

module _ {b : Book} {out area out' area' : List ℕ} where
  -- the flows are planned, and their table has this size
  pub sized : {size : ℕ} → Counted b out area out' area' (Ok size) → Sized b size
  sized {size} k = go (plan b) refl k.ends
    where
      go : (p : Plan) → plan b ≡ p → Ok size ≡ ended_of b p → Sized b size
      go (planned rows) d h =
          let same : size ≡ table_length b rows = cc in
          record { rows = rows; planned_rows = d; size_of = same; size_most = omega (arith, k.fits rows d) }
      go (infeasible f) d h = cc

  -- "infeasible by rule 6", with that flow
  pub leaves-infeasible : {e : Refusal} → Counted b out area out' area' (Err e) → Leaves (plan_outcome b out area (plan b)) (answer_by (Err e)) out' area'
  leaves-infeasible {e} k = go (plan b) refl k.ends
    where
      go : (p : Plan) → plan b ≡ p → Err e ≡ ended_of b p → Leaves (plan_outcome b out area (plan b)) (answer_by (Err e)) out' area'
      go (planned rows) d h = cc
      go (infeasible f) d h =
          let same : e ≡ refusal_at fault.Infeasible f none = cc in
          leaves _ _ _ _ (outcome-infeasible b out area f d) _ out' area' (ap (λ (r : Refusal). answer_by (Err r)) same) k.output_kept k.area_zero

  -- what is left after the second placing is what the call leaves
  pub leaves_after : {ended : Result ℕ Refusal} → Counted b out area out' area' ended → {answer : PlanAnswer} {out'' area'' : List ℕ} →
      Leaves (plan_outcome b out' area' (plan b)) answer out'' area'' → Leaves (plan_outcome b out area (plan b)) answer out'' area''
  leaves_after k {answer} {out''} {area''} h =
      subst (λ (o : PlanOutcome). Leaves o answer out'' area'')
      (ap (λ (o : List ℕ). plan_outcome b o area' (plan b)) k.output_kept
      ∙ outcome_by-rest b out area' area (plan b) (ap (work_zero slots) k.area_zero ∙ cleared-twice slots area)) h
