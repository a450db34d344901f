-- The windows that are read are those of the calendar, and in range. Assumes nothing.
use mathlib.Core.Path.{◌≡◌, refl, sym, ap, ◌∙◌}
use Prim.Native.Nat.{ℕ, zero, suc, ◌+◌, ◌<◌}
use mathlib.Core.List.{List, [], ◌∷◌, ◌++◌}
use mathlib.Core.Bool.{Bool, true, false}
use native.Mathlib.Nat.{add-zero, zero-add}
use native.Mathlib.Numerals.{add-one}
use native.Mathlib.Omega.{arith}
use lib.ListN.{length}
use Rattle.std.specs.Prelude.{if◌then◌else◌}
use Rattle.std.proofs.lemmas.List.{length-map, map-append}
use Rattle.rules.specs.Verdicts.{Pass, Refused}
use Rattle.rules.specs.Answers.{none}
use Rattle.rules.specs.Walks.{list_from, any_to}
use Rattle.rules.specs.Calendar.{Window, Calendar, window_at, calendar_of, window_fault, calendar_fault, CalendarInRange}
use Rattle.rules.proofs.Reading.Passing.{calendar-pass_in-range}
use Rattle.rules.proofs.Laws.Walks.{any_true, length-list_from}
use Rattle.calendar.specs.Layout.{Holds}
use Rattle.calendar.specs.declared.maintenance.Window.{Window as HeldWindow}
use Rattle.calendar.specs.declared.maintenance.Calendar.{Calendar as HeldCalendar}
use Rattle.calendar.specs.Windows.{window_in, windows_in}
use Rattle.calendar.specs.Held.{held_windows, Held}

-- the first n windows in these bytes
unfoldable pub windows_to : List ℕ → ℕ → Calendar
windows_to s n = list_from (window_at s) n 0

pub windows-none : (s : List ℕ) {vs : List HeldWindow} → vs ≡ [] → windows_in vs ≡ windows_to s 0
unfolding windows_in windows_to list_from
windows-none s e = rw e refl

pub windows-count : (s : List ℕ) (vs : List HeldWindow) (n : ℕ) → windows_in vs ≡ windows_to s n → length vs ≡ n
unfolding windows_in windows_to
windows-count s vs n e = sym (length-map vs window_in) ∙ ap length e ∙ length-list_from (window_at s) n 0

-- one window more is read
list-more : (g : ℕ → Window) (n s : ℕ) → list_from g (suc n) s ≡ list_from g n s ++ g (s + n) ∷ []
unfolding list_from
list-more g zero s = rw add-zero refl
list-more g (suc n) s = let e : s + 1 + n ≡ s + suc n = omega arith in rw (← e) (ap (g s ∷◌) (list-more g n (s + 1)))

pub windows-next : (s : List ℕ) (vs us : List HeldWindow) (v : HeldWindow) (n : ℕ) → us ≡ vs ++ v ∷ [] → windows_in vs ≡ windows_to s n → window_in v ≡ window_at s n →
    windows_in us ≡ windows_to s (n + 1)
unfolding windows_in windows_to
windows-next s vs us v n e so_far read =
    rw (e, map-append, so_far, read, add-one) (sym (list-more (window_at s) n 0 ∙ ap (λ (k : ℕ). list_from (window_at s) n 0 ++ window_at s k ∷ []) (zero-add n)))

-- where the layout is whole, a window that breaks its rules turns the calendar down, and once all windows are read it
-- passes and they are its windows
module _ (s : List ℕ) (n : ℕ) (held : Holds s n) where
  pub window-refused : (k : ℕ) → k < n → window_fault s k ≡ true → calendar_fault s ≡ Refused 24 none none
  window-refused k l e = held.left ∙ ap (λ (t : Bool). if t then Refused 24 none none else Pass) (any_true (window_fault s) n k l e)

  module _ (k : ℕ) (all : k ≡ n) where
    pub all-pass : any_to (window_fault s) k ≡ false → calendar_fault s ≡ Pass
    all-pass e = held.left ∙ ap (λ (t : Bool). if t then Refused 24 none none else Pass) (rw all at e)

    pub windows-all : (vs : List HeldWindow) → windows_in vs ≡ windows_to s k → windows_in vs ≡ calendar_of s
    unfolding windows_to calendar_of
    windows-all vs e = e ∙ ap (λ (m : ℕ). list_from (window_at s) m 0) (all ∙ held.count)

pub held_in-range : {s : List ℕ} {x : HeldCalendar} → Held s x → CalendarInRange (held_windows x)
held_in-range {s} h = rw h.windows (calendar-pass_in-range s h.passes)
