-- What is owed of calendars (02, Req 07), with and without windows. Assumes nothing.
use Rattle.std.specs.Prelude.{◌≡◌, ℕ, ◌*◌, ◌≤◌, ◌<◌, Bool, true, false, List, [], leb}
use Rattle.rules.specs.Verdicts.{Pass, Refused}
use Rattle.rules.specs.Answers.{none, plan_refused, check_refused, list_refused}
use Rattle.rules.specs.Limits.{most_deadline}
use Rattle.rules.specs.Calendar.{Calendar, is_open, open_before, no_windows, calendar_fault}
use Rattle.rules.specs.Book.{Flow, Book, with_calendar, usable, twice_deadline, flow_count, flow_of}
use Rattle.rules.specs.Reading.{book_of, book_fault, unread, reading_of, read_book, read}
use Rattle.rules.specs.Placing.{slots_for}
use Rattle.rules.specs.Planner.{plan_call}
use Rattle.rules.specs.Check.{check_call}
use Rattle.rules.specs.Dispatch.{dispatch_call}
use Rattle.rules.specs.Finish.{finish_call}
use Rattle.rules.specs.Former.{former_plan_call, former_check_call, former_dispatch_call, former_finish_call}
use Rattle.rules.specs.Schedule.{Schedule, IsJob, Valid}

-- ---- service windows of the cluster (02, Req 07)

-- how a faulty calendar is refused, and what a good one asks of schedules
pub record Calendars : Type 0 where
  -- a calendar is turned down by 24 alone, "with 255 and 255"
  pub by_24 : (calendar : List ℕ) (n f j : ℕ) → calendar_fault calendar ≡ Refused n f j → (n ≡ 24) × ((f ≡ none) × (j ≡ none))
  -- "after the book's checks": a faulty book is refused as it is, whatever the calendar
  pub book_first : (book calendar : List ℕ) (n f j : ℕ) → book_fault book ≡ Refused n f j → read_book book calendar ≡ unread n f j
  -- "and before 11": whatever output and work area are lent, which stay as they were (the finish of one flow: `Finishes.calendar_next`, after 23)
  pub plan_24 : (book calendar out area : List ℕ) → book_fault book ≡ Pass → calendar_fault calendar ≡ Refused 24 none none →
      plan_call book calendar out area ≡ record { answer = plan_refused 24 none none; output = out; area = area }
  pub check_24 : (book calendar table area : List ℕ) → book_fault book ≡ Pass → calendar_fault calendar ≡ Refused 24 none none →
      check_call book calendar table area ≡ record { answer = check_refused 24 none none; area = area }
  pub dispatch_24 : (book calendar table out area : List ℕ) → book_fault book ≡ Pass → calendar_fault calendar ≡ Refused 24 none none →
      dispatch_call book calendar table out area ≡ record { answer = list_refused 24 none none; output = out; area = area }
  -- "open slots only, as every valid schedule now does": a calendar asks that of a schedule beside the rules without windows, and nothing else
  pub valid_open : (c : Calendar) (b : Book) (among : ℕ → Bool) (σ : Schedule) → Valid (with_calendar c b) among σ →
      (f i t : ℕ) → IsJob (with_calendar c b) among f i → is_open c t ≡ false → σ f i t ≡ 0
  pub valid_without : (c : Calendar) (b : Book) (among : ℕ → Bool) (σ : Schedule) → Valid (with_calendar c b) among σ → Valid (with_calendar [] b) among σ
  pub valid_with : (c : Calendar) (b : Book) (among : ℕ → Bool) (σ : Schedule) → Valid (with_calendar [] b) among σ →
      ((f i t : ℕ) → IsJob (with_calendar c b) among f i → is_open c t ≡ false → σ f i t ≡ 0) → Valid (with_calendar c b) among σ

-- ---- rule 6's limit by its rule: "a flow unfinished when that many open slots from slot 0 have passed is infeasible" (02, Req 07)

-- n open slots stand before this slot, and before no earlier one
pub record FirstAfter (c : Calendar) (n slot : ℕ) : Type 0 where
  pub so_many : open_before c slot ≡ n
  pub none_earlier : (t : ℕ) → t < slot → open_before c t < n

unfoldable pub LimitByRule : Type 0
LimitByRule =
    (book calendar : List ℕ) (b : Book) → read_book book calendar ≡ read b → (f : ℕ) → f < flow_count b →
    FirstAfter b.calendar (twice_deadline b (flow_of b f)) (slots_for b (flow_of b f))

-- ---- no windows

-- "With no windows every former result is met again"
pub record NoWindows : Type 0 where
  -- of every call and every input: the outcome is the one by the rules without a calendar
  pub plan_met : (book out area : List ℕ) → plan_call book no_windows out area ≡ former_plan_call book out area
  pub check_met : (book table area : List ℕ) → check_call book no_windows table area ≡ former_check_call book table area
  pub dispatch_met : (book table out area : List ℕ) → dispatch_call book no_windows table out area ≡ former_dispatch_call book table out area
  pub finish_met : (book area : List ℕ) (f : ℕ) → finish_call book no_windows f area ≡ former_finish_call book f area
  -- the calendar without windows is never turned down, and the book is read as by itself
  pub reads : (book : List ℕ) → read_book book no_windows ≡ reading_of (book_fault book) (book_of book)
  pub every_slot_open : (t : ℕ) → is_open [] t ≡ true
  pub open_before_is : (t : ℕ) → open_before [] t ≡ t
  -- a flow may use the slots from its release on; "Twice the deadline" is 2 × deadline, and rule 6's last slot is 2 × deadline − 1
  pub from_release : (b : Book) (w : Flow) (t : ℕ) → b.calendar ≡ [] → usable b w t ≡ leb w.release t
  pub twice : (b : Book) (w : Flow) → b.calendar ≡ [] → twice_deadline b w ≡ 2 * w.deadline
  pub slots_twice : (b : Book) (w : Flow) → b.calendar ≡ [] → w.deadline ≤ most_deadline → slots_for b w ≡ 2 * w.deadline
  -- 25 is never said
  pub never_25 : (book table area : List ℕ) → (check_call book no_windows table area).answer.number ≡ 25 → ⊥
