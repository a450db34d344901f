-- The calendar of the cluster (document 02, Req 07; "calendar" and "window" are its words): the windows in which maintenance shuts it, which slots are
-- open, and the bytes of a calendar with their fault, 24. Assumes nothing.
use Rattle.std.specs.Prelude.{ℕ, zero, suc, ◌+◌, ◌*◌, ◌<◌, ◌≤◌, Bool, true, false, not, ◌&&◌, ◌||◌, List, [], ◌∷◌, ◌++◌, length, get_or, ltb, leb, eqb, if◌then◌else◌}
use Rattle.rules.specs.Verdicts.{Verdict, Pass, Refused}
use Rattle.rules.specs.Walks.{count_to, any_to, list_from, join_from}
use Rattle.rules.specs.Fields.{byte, field, bytes_of}
use Rattle.rules.specs.Answers.{none}
use Rattle.rules.specs.Limits.{most_windows, most_reopening, slots}

-- "each window as first slot shut (2) and first slot open again (2)"
pub record Window : Type 0 where
  pub shut : ℕ
  pub reopening : ℕ

abbrev pub Calendar : Type 0
Calendar = List Window

-- ---- open slots
-- slot t is in the window
abbrev pub in_window : Window → ℕ → Bool
in_window v t = leb v.shut t && ltb t v.reopening

-- "Maintenance shuts the whole cluster for some slots.": a slot that is in no window is open
unfoldable pub is_open : Calendar → ℕ → Bool
is_open [] t = true
is_open (v ∷ vs) t = not (in_window v t) && is_open vs t

-- "the number of open slots before" slot t
unfoldable pub open_before : Calendar → ℕ → ℕ
open_before c t = count_to (is_open c) t

-- from slot t on, slot after slot, until n more open slots have passed, or m slots in all
unfoldable pub pass_open : Calendar → ℕ → ℕ → ℕ → ℕ
pass_open c zero n t = t
pass_open c (suc m) zero t = t
pass_open c (suc m) (suc n) t = pass_open c m (if is_open c t then n else suc n) (t + 1)

-- "when that many open slots from slot 0 have passed": the first slot before which n open slots stand, or 8,192 where fewer than n stand before it. Since every
-- window has reopened by slot 4,096, twice the open slots before a deadline are always met (`Demands.Calendar`, `LimitByRule`).
unfoldable pub slot_after : Calendar → ℕ → ℕ
slot_after c n = pass_open c slots n 0

-- window k of a calendar; past the last one, a window of no slots
abbrev pub no_window : Window
no_window = record { shut = 0; reopening = 0 }

unfoldable pub window_of : Calendar → ℕ → Window
window_of c k = get_or c k no_window

-- ---- the bytes: "length of the whole (4), version 1 (1), windows (1, at most 32), then each window"
abbrev pub calendar_head : ℕ
calendar_head = 6

abbrev pub window_length : ℕ
window_length = 4

-- window k
unfoldable pub window_at : List ℕ → ℕ → Window
window_at s k = record { shut = field 2 s (calendar_head + window_length * k); reopening = field 2 s (calendar_head + window_length * k + 2) }

unfoldable pub calendar_of : List ℕ → Calendar
calendar_of s = list_from (window_at s) (byte s 5) 0

-- the encoding of a window, and of a calendar
unfoldable pub window_bytes : Window → List ℕ
window_bytes v = bytes_of 2 v.shut ++ bytes_of 2 v.reopening

unfoldable pub calendar_bytes : Calendar → List ℕ
calendar_bytes c =
    bytes_of 4 (calendar_head + window_length * length c) ++ bytes_of 1 1 ++ bytes_of 1 (length c)
    ++ join_from (λ k. window_bytes (window_of c k)) (length c) 0

-- the bytes of a calendar without windows: `00000006 01 00`
abbrev pub no_windows : List ℕ
no_windows = 0 ∷ 0 ∷ 0 ∷ 6 ∷ 1 ∷ 0 ∷ []

-- window k does not begin "later than the one before it reopened"; the first may begin at slot 0
unfoldable pub begins_early : List ℕ → ℕ → Bool
begins_early s zero = false
begins_early s (suc k) = leb (window_at s (suc k)).shut (window_at s k).reopening

-- "A window is not empty, begins later than the one before it reopened, and reopens at slot 4,096 or sooner.": window k breaks these rules
unfoldable pub window_fault : List ℕ → ℕ → Bool
window_fault s k = leb (window_at s k).reopening (window_at s k).shut || begins_early s k || ltb most_reopening (window_at s k).reopening

-- "24 when the calendar breaks its layout, .. with 255 and 255": too short, length field, version, count above 32, bytes unlike the count, a window that
-- breaks its rules
unfoldable pub calendar_fault : List ℕ → Verdict
calendar_fault s =
    if ltb (length s) calendar_head
    || not (eqb (field 4 s 0) (length s))
    || not (eqb (byte s 4) 1)
    || ltb most_windows (byte s 5)
    || not (eqb (length s) (calendar_head + window_length * byte s 5))
    || any_to (window_fault s) (byte s 5)
    then Refused 24 none none else Pass

-- ---- the ranges: what 24 leaves
pub record CalendarInRange (c : Calendar) : Type 0 where
  pub windows_most : length c ≤ most_windows
  pub not_empty : (k : ℕ) → k < length c → (window_of c k).shut < (window_of c k).reopening
  pub apart : (k : ℕ) → suc k < length c → (window_of c k).reopening < (window_of c (suc k)).shut
  pub reopens : (k : ℕ) → k < length c → (window_of c k).reopening ≤ most_reopening
