-- The calendar (02, Req 07): by what it is turned down, that it asks of a schedule to keep to the open slots and nothing else, and that rule 6's limit is the
-- first slot before which twice the open slots before the deadline stand. Assumes nothing.
use mathlib.Core.Path.{◌≡◌, refl, sym, ap, ◌∙◌}
use mathlib.Core.Logic.{◌⊎◌, inl, inr, ⊎_elim}
use Prim.Native.Nat.{ℕ}
use mathlib.Core.Bool.{Bool, true, false, ◌&&◌}
use mathlib.Core.List.{List, []}
use lib.Dec.{leb}
use borrow.Author.Tests.{leb-false}
use Rattle.rules.specs.Verdicts.{Pass, Refused}
use Rattle.rules.specs.Answers.{none, check_refused}
use Rattle.rules.specs.Calendar.{Calendar, is_open, calendar_fault}
use Rattle.rules.specs.Book.{Flow, Book, with_calendar, flow_in, flow_of, usable}
use Rattle.rules.specs.Reading.{book_of, book_fault, read_book}
use Rattle.rules.specs.Planner.{plan_reading, plan_call}
use Rattle.rules.specs.Check.{table_rows, check_reading, check_call}
use Rattle.rules.specs.Dispatch.{dispatch_checked, dispatch_call}
use Rattle.rules.specs.Schedule.{Schedule, IsJob, in_use, Valid}
use Rattle.rules.specs.Demands.Calendar.{Calendars, LimitByRule}
use Rattle.rules.proofs.Laws.Faults.{not-pass}
use Rattle.rules.proofs.Placing.OpenSlots.{limit-count, limit-not_yet}
use Rattle.rules.proofs.Placing.Usable.{not-released, shut-unusable}
use Rattle.rules.proofs.Demands.Refusals.{calendar-either}
use Rattle.rules.proofs.Reading.Passing.{read_in-range}
use Rattle.rules.proofs.Reading.Caps.{used_in-range}

-- ---- 24
by_24 : (calendar : List ℕ) (n f j : ℕ) → calendar_fault calendar ≡ Refused n f j → (n ≡ 24) × ((f ≡ none) × (j ≡ none))
by_24 calendar n f j e =
    ⊎_elim (λ p. not-pass n f j (sym e ∙ p)) (λ r. let q : Refused n f j ≡ Refused 24 none none = sym e ∙ r in (cc, (cc, cc))) (calendar-either calendar)

-- "before 11", here and in the other calls: whatever work area is lent
check_24 : (book calendar table area : List ℕ) → book_fault book ≡ Pass → calendar_fault calendar ≡ Refused 24 none none →
    check_call book calendar table area ≡ record { answer = check_refused 24 none none; area = area }
unfolding check_call check_reading read_book
check_24 book calendar table area e d = rw (e, d) refl

-- ---- validity: a schedule that keeps the rules with one calendar keeps them with another where it keeps to the slots that are usable then
job_with_lem : (c d : Calendar) (b : Book) (among : ℕ → Bool) (f i : ℕ) → IsJob (with_calendar c b) among f i → IsJob (with_calendar d b) among f i
unfolding flow_of flow_in
job_with_lem c d b among f i j = record { flow_among = j.flow_among; flow_in_is = j.flow_in_is; job_in = j.job_in }

valid-moved : (c d : Calendar) (b : Book) (among : ℕ → Bool) (σ : Schedule) → Valid (with_calendar c b) among σ →
    ((f i t : ℕ) → IsJob (with_calendar d b) among f i → usable (with_calendar d b) (flow_of (with_calendar d b) f) t ≡ false → σ f i t ≡ 0) → Valid (with_calendar d b) among σ
unfolding flow_of flow_in in_use
valid-moved c d b among σ v usable-only = record {
  no_others = λ f i t n. v.no_others f i t (λ j. n (job_with_lem c d b among f i j));
  caps = λ f i t j. v.caps f i t (job_with_lem d c b among f i j);
  together = v.together;
  horizon = v.horizon;
  nothing_after = v.nothing_after;
  sizes = λ f i j. v.sizes f i (job_with_lem d c b among f i j);
  precedence = λ f i k t j. v.precedence f i k t (job_with_lem d c b among f i j);
  in_usable = usable-only;
}

-- a slot that is not usable is shut, or before the release
unusable : (c : Calendar) (b : Book) (w : Flow) (t : ℕ) → usable (with_calendar c b) w t ≡ false → (is_open c t ≡ false) ⊎ (usable (with_calendar [] b) w t ≡ false)
unfolding usable is_open
unusable c b w t e = go (is_open c t) refl e
  where
    go : (x : Bool) → is_open c t ≡ x → (x && leb w.release t) ≡ false → (is_open c t ≡ false) ⊎ ((true && leb w.release t) ≡ false)
    go true q p = inr p
    go false q p = inl q

valid_open : (c : Calendar) (b : Book) (among : ℕ → Bool) (σ : Schedule) → Valid (with_calendar c b) among σ →
    (f i t : ℕ) → IsJob (with_calendar c b) among f i → is_open c t ≡ false → σ f i t ≡ 0
valid_open c b among σ v f i t j e = v.in_usable f i t j (shut-unusable (with_calendar c b) (flow_of (with_calendar c b) f) t e)

valid_without : (c : Calendar) (b : Book) (among : ℕ → Bool) (σ : Schedule) → Valid (with_calendar c b) among σ → Valid (with_calendar [] b) among σ
valid_without c b among σ v =
    valid-moved c [] b among σ v
    (λ f i t j e. v.in_usable f i t (job_with_lem [] c b among f i j) (still (flow_of (with_calendar c b) f) t (unfold flow_of flow_in in e)))
  where
    still : (w : Flow) (t : ℕ) → usable (with_calendar [] b) w t ≡ false → usable (with_calendar c b) w t ≡ false
    still w t e = not-released (with_calendar c b) w t (leb-false w.release t (unfold usable is_open in e))

valid_with : (c : Calendar) (b : Book) (among : ℕ → Bool) (σ : Schedule) → Valid (with_calendar [] b) among σ →
    ((f i t : ℕ) → IsJob (with_calendar c b) among f i → is_open c t ≡ false → σ f i t ≡ 0) → Valid (with_calendar c b) among σ
valid_with c b among σ v keeps =
    valid-moved [] c b among σ v
    (λ f i t j e.
    let late : usable (with_calendar [] b) (flow_of (with_calendar c b) f) t ≡ false → σ f i t ≡ 0 =
    λ u. v.in_usable f i t (job_with_lem c [] b among f i j) (unfold flow_of flow_in in u) in
    ⊎_elim (keeps f i t j) late (unusable c b (flow_of (with_calendar c b) f) t e))

pub calendars : Calendars
unfolding read_book plan_call plan_reading dispatch_call dispatch_checked
calendars = record {
  by_24 = by_24;
  book_first = λ book calendar n f j e. rw e refl;
  plan_24 = λ book calendar out area e d. rw (e, d) refl;
  check_24 = check_24;
  dispatch_24 = λ book calendar table out area e d.
      ap (dispatch_checked (book_of book) (table_rows (book_of book) table) out area) (check_24 book calendar table area e d);
  valid_open = valid_open;
  valid_without = valid_without;
  valid_with = valid_with;
}

-- ---- rule 6's limit
pub limit_by_rule : LimitByRule
unfolding LimitByRule
limit_by_rule book calendar b e f l =
    let range = read_in-range book calendar b e in
    record {
      so_many = limit-count b (flow_of b f) range.calendar_in_range (used_in-range range f l).deadline_most;
      none_earlier = limit-not_yet b (flow_of b f);
    }
