-- "With no windows every former result is met again" (02, Req 07): without windows a flow has the same processors free, in the same number of slots, and
-- every slot is open, so that plan and verdict are those of the rules without a calendar; so are the outcomes of the calls. Assumes nothing.
use mathlib.Core.Path.{◌≡◌, refl, ap, ◌∙◌, sym}
use Prim.Native.Nat.{ℕ, zero, suc, ◌-◌, ◌≤◌, ◌<◌, ◌*◌}
use mathlib.Core.Bool.{Bool, ◌&&◌, true≢false}
use mathlib.Core.List.{List, []}
use native.Mathlib.Omega.{arith}
use lib.ListN.{length}
use lib.Dec.{ltb, leb}
use borrow.Author.Tests.{leb-false}
use Rattle.rules.specs.Verdicts.{Verdict, Pass, Refused}
use Rattle.std.specs.Prelude.{if◌then◌else◌}
use Rattle.rules.specs.Walks.{any_to, list_from}
use Rattle.rules.specs.Fields.{field}
use Rattle.rules.specs.Answers.{none, ◌and_then◌, first_fault, plan_refused, check_refused, finish_refused}
use Rattle.rules.specs.Limits.{work_bytes}
use Rattle.rules.specs.Calendar.{no_windows, open_before, calendar_of, calendar_fault, Calendar}
use Rattle.rules.specs.Book.{Book, InRange, flow_count, job_count, flow_of, usable, twice_deadline}
use Rattle.rules.specs.Reading.{book_of, book_fault, book_with, reading_of, Reading, read, unread, read_book}
use Rattle.rules.specs.Service.{served_at}
use Rattle.rules.specs.Rows.{Row, used_in}
use Rattle.rules.specs.Placing.{free_processors, place_flow, then_place, place_first, plan}
use Rattle.rules.specs.Planner.{plan_outcome, plan_reading, plan_call}
use Rattle.rules.specs.Check.{table_rows, table_head_fault, row_fault, total_fault, finish_fault, table_fault, check_outcome, check_reading, check_call}
use Rattle.rules.specs.Dispatch.{dispatch_checked, dispatch_call}
use Rattle.rules.specs.Finish.{up_to_named, finish_outcome, finish_reading, unknown_flow, input_fault, finish_call}
use Rattle.rules.specs.Former.{former_free, former_place_flow, former_place_first, former_table_fault, former_plan_verdict, former_plan_call, former_check_verdict, former_check_call, former_dispatch_call, former_finish_verdict, former_finish_call}
use Rattle.rules.specs.Demands.Refusals.{by_eleven}
use Rattle.rules.specs.Demands.Calendar.{NoWindows}
use Rattle.rules.proofs.Laws.Faults.{both-pass}
use Rattle.rules.proofs.Reading.Passing.{test-passed, pass_in-range, calendar_of_book}
use Rattle.rules.proofs.Reading.Caps.{used_in-range}
use Rattle.rules.proofs.Reading.ServiceOrder.{service-below}
use Rattle.rules.proofs.Reading.Position.{position_below}
use Rattle.rules.proofs.Placing.OpenSlots.{limit-without, always, open-all}
use Rattle.rules.proofs.Placing.Usable.{always_open}
use Rattle.rules.proofs.Reading.Versions.{read-calendar}
use Rattle.rules.proofs.Calls.CallCases.{check_cases}
use Rattle.rules.proofs.Demands.Refusals.{Numbered, unread_numbered, without_shut, table_numbered_by}

-- ---- the calendar without windows
-- the calendar without windows passes, and has none
no-windows-pass : calendar_fault no_windows ≡ Pass
unfolding calendar_fault field any_to
no-windows-pass = refl

no-windows-none : calendar_of no_windows ≡ []
unfolding calendar_of list_from
no-windows-none = refl

-- a test that passes changes no verdict before it
then-pass : (v : Verdict) → (v and_then Pass) ≡ v
then-pass Pass = refl
then-pass (Refused n f j) = refl

reads-without : (book : List ℕ) → read_book book no_windows ≡ reading_of (book_fault book) (book_of book)
unfolding read_book book_of
reads-without book = rw (no-windows-pass, no-windows-none, then-pass (book_fault book)) refl

-- a book without windows is never refused by 25
module _ (b : Book) (s area : List ℕ) (without : b.calendar ≡ []) where
  outcome-not_25 : (v : Verdict) → Numbered without_shut v → (check_outcome b s area v).answer.number ≡ 25 → ⊥
  unfolding check_outcome
  outcome-not_25 Pass h z = omega arith
  outcome-not_25 (Refused n f j) h z = true≢false (sym (h.among n f j refl).1 ∙ ap without_shut z)

  read-not_25 : (check_reading s area (read b)).answer.number ≡ 25 → ⊥
  read-not_25 =
      check_cases b s area (λ o. o.answer.number ≡ 25 → ⊥) (λ l z. omega arith)
      (λ l. outcome-not_25 (table_fault b s) (table_numbered_by without_shut b s (λ n e. e) (λ t e. absurd (true≢false (sym (always_open b t without) ∙ e)))))

never_25 : (book table area : List ℕ) → (check_call book no_windows table area).answer.number ≡ 25 → ⊥
unfolding check_call check_reading
never_25 book table area = go (read_book book no_windows) refl
  where
    go : (r : Reading) → read_book book no_windows ≡ r → (check_reading table area r).answer.number ≡ 25 → ⊥
    go (read b) e z = read-not_25 b table area (sym (read-calendar book no_windows b e) ∙ no-windows-none) z
    go (unread n f j) e z = true≢false (sym (unread_numbered book no_windows n f j e).1 ∙ ap by_eleven z)

-- ---- placing and check
module _ (b : Book) (range : InRange b) (without : b.calendar ≡ []) where
  -- the processors that are free for a flow
  free-same : (f : ℕ) (rows : List Row) → free_processors b f rows ≡ former_free b f rows
  unfolding free_processors former_free usable
  free-same f rows =
      λ x t. ap (λ (c : Bool). if c && leb (flow_of b f).release t then b.processors - used_in rows t else 0) (always_open b t without) x

  place_same : (f : ℕ) (rows : List Row) → f < flow_count b → place_flow b f rows ≡ former_place_flow b f rows
  unfolding place_flow former_place_flow
  place_same f rows l = rw (free-same f rows, limit-without b (flow_of b f) without (used_in-range range f l).deadline_most) refl

  plan-same : (k : ℕ) → k ≤ flow_count b → place_first b k ≡ former_place_first b k
  unfolding place_first former_place_first
  plan-same zero l = refl
  plan-same (suc k) l =
      ap (λ p. then_place p (place_flow b (served_at b k))) (plan-same k (omega arith))
      ∙ ap (then_place (former_place_first b k)) (λ x rows. place_same (served_at b k) rows (service-below b k l) x)

  fault-same : (s : List ℕ) → table_fault b s ≡ former_table_fault b s
  unfolding table_fault former_table_fault
  fault-same s =
      ap (λ (opened : ℕ → Bool). table_head_fault b s and_then first_fault (row_fault b opened (table_rows b s)) (length (table_rows b s))
      and_then first_fault (λ f. first_fault (total_fault b (table_rows b s) f) (job_count (flow_of b f))) (flow_count b)
      and_then first_fault (finish_fault s (table_rows b s)) (flow_count b)) (λ x t. always_open b t without x)

-- ---- the calls
module _ (book : List ℕ) where
  abbrev b : Book
  b = book_of book

  plan_met : (out area : List ℕ) → plan_call book no_windows out area ≡ former_plan_call book out area
  unfolding plan_call plan_reading former_plan_call plan
  plan_met out area = ap (plan_reading out area) (reads-without book) ∙ go (book_fault book) refl
    where
      go : (v : Verdict) → book_fault book ≡ v → plan_reading out area (reading_of v b) ≡ former_plan_verdict b out area v
      go (Refused n f j) e = refl
      go Pass e =
          ap (λ p. if ltb (length area) work_bytes then record { answer = plan_refused 11 none none; output = out; area = area } else plan_outcome b out area p)
          (plan-same b (pass_in-range book e) (calendar_of_book book) (flow_count b) (omega arith))

  check_met : (table area : List ℕ) → check_call book no_windows table area ≡ former_check_call book table area
  unfolding check_call check_reading former_check_call
  check_met table area = ap (check_reading table area) (reads-without book) ∙ go (book_fault book) refl
    where
      go : (v : Verdict) → book_fault book ≡ v → check_reading table area (reading_of v b) ≡ former_check_verdict b table area v
      go (Refused n f j) e = refl
      go Pass e =
          ap (λ v. if ltb (length area) work_bytes then record { answer = check_refused 11 none none; area = area } else check_outcome b table area v)
          (fault-same b (pass_in-range book e) (calendar_of_book book) table)

  dispatch_met : (table out area : List ℕ) → dispatch_call book no_windows table out area ≡ former_dispatch_call book table out area
  unfolding dispatch_call former_dispatch_call
  dispatch_met table out area = ap (dispatch_checked b (table_rows b table) out area) (check_met table area)

  input-without : (f : ℕ) → reading_of (input_fault book no_windows f) (book_with book no_windows) ≡ reading_of (book_fault book and_then unknown_flow b f) b
  unfolding input_fault book_of
  input-without f = rw (no-windows-pass, no-windows-none, then-pass (unknown_flow b f)) refl

  finish_met : (area : List ℕ) (f : ℕ) → finish_call book no_windows f area ≡ former_finish_call book f area
  unfolding finish_call finish_reading former_finish_call
  finish_met area f = ap (finish_reading f area) (input-without f) ∙ go (book_fault book and_then unknown_flow b f) refl
    where
      go : (v : Verdict) → (book_fault book and_then unknown_flow b f) ≡ v → finish_reading f area (reading_of v b) ≡ former_finish_verdict b f area v
      go (Refused n g j) e = refl
      go Pass e =
          let both = both-pass (book_fault book) (unknown_flow b f) e in
          let named : f < flow_count b = leb-false (flow_count b) f (test-passed (leb (flow_count b) f) 23 none none Pass (unfold unknown_flow in both.1)).0 in
          ap (λ p. if ltb (length area) work_bytes then record { answer = finish_refused 11 none none; area = area } else finish_outcome f area p)
          (plan-same b (pass_in-range book both.0) (calendar_of_book book) (up_to_named b f) (position_below b f named))

pub no_windows_is : NoWindows
unfolding usable twice_deadline
no_windows_is = record {
  plan_met = plan_met;
  check_met = check_met;
  dispatch_met = dispatch_met;
  finish_met = finish_met;
  reads = reads-without;
  every_slot_open = always;
  open_before_is = open-all;
  from_release = λ b w t e. rw (always_open b t e) refl;
  twice = λ b w e. ap (λ (c : Calendar). 2 * open_before c w.deadline) e ∙ ap (λ (n : ℕ). 2 * n) (open-all w.deadline);
  slots_twice = limit-without;
  never_25 = never_25;
}
