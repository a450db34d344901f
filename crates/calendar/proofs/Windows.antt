-- A walk over the windows of a calendar: what one window more shuts, and, inside a window, what one slot more shuts;
-- and the windows that a calendar's struct holds. Assumes nothing.
use mathlib.Core.Path.{◌≡◌, refl, sym, ap, ◌∙◌}
use Prim.Native.Nat.{ℕ, zero, suc, ◌+◌, ◌≤◌, ◌<◌}
use mathlib.Core.Bool.{Bool, true, false, not, ◌&&◌, and-true, and-false, and_assoc}
use mathlib.Core.List.{List, [], ◌∷◌}
use mathlib.Core.Logic.{◌⊎◌, inl, inr}
use native.Mathlib.Nat.{not-suc-le-zero}
use native.Mathlib.Numerals.{add-one}
use native.Mathlib.Omega.{arith}
use lib.ListN.{length, get_or, take}
use lib.Dec.{leb}
use borrow.Author.Tests.{lt-ltb, le-ltb, le-leb, lt-leb}
use Rattle.std.proofs.lemmas.List.{get_or-map, length-map, take_all}
use Rattle.rules.specs.Limits.{most_windows, most_reopening}
use Rattle.rules.specs.Calendar.{Calendar, in_window, is_open, no_window, window_of, CalendarInRange}
use Rattle.rules.proofs.Laws.Division.{lt-or_ge}
use Rattle.calendar.specs.declared.maintenance.Window.{Window as HeldWindow}
use Rattle.calendar.specs.declared.maintenance.Calendar.{Calendar as Held}
use Rattle.calendar.specs.Windows.{window_in, windows_in}
use Rattle.calendar.specs.Held.{held_windows}

-- ---- one window more
pub none-shut : (c : Calendar) (t : ℕ) → is_open (take 0 c) t ≡ true
unfolding is_open
none-shut c t = refl

open-last : (c : Calendar) (k t : ℕ) → k < length c → is_open (take (suc k) c) t ≡ (is_open (take k c) t && not (in_window (window_of c k) t))
unfolding is_open window_of
open-last [] k t l = absurd (not-suc-le-zero l)
open-last (v ∷ vs) zero t l = and-true (not (in_window v t))
open-last (v ∷ vs) (suc k) t l =
    ap (not (in_window v t) &&◌) (open-last vs k t (omega arith))
    ∙ sym (and_assoc (not (in_window v t)) (is_open (take k vs) t) (not (in_window (window_of vs k) t)))

pub first_next : (c : Calendar) (k t : ℕ) → k < length c → is_open (take (k + 1) c) t ≡ (is_open (take k c) t && not (in_window (window_of c k) t))
first_next c k t l = rw (add-one k) (open-last c k t l)

-- ---- the windows that a calendar's struct holds
abbrev pub held_in : Held → List HeldWindow
held_in x = take x.count x.windows

-- what an index past the last window finds
abbrev pub blank : HeldWindow
blank = record { shut = 0; reopening = 0 }

module _ (x : Held) where
  pub in-range : CalendarInRange (held_windows x)
  unfolding held_windows
  in-range = x.in_range

  pub count_most : x.count ≤ most_windows
  count_most = x.few

  pub as-many : length (held_windows x) ≡ length (held_in x)
  unfolding held_windows windows_in
  as-many = length-map (held_in x) window_in

  pub all-taken : {k : ℕ} → length (held_in x) ≤ k → take k (held_windows x) ≡ held_windows x
  all-taken {k} l = take_all k (held_windows x) (omega (arith, as-many))

  module _ (k : ℕ) (l : k < length (held_in x)) where
    inside : k < length (held_windows x)
    inside = omega (arith, as-many)

    pub window-at : window_of (held_windows x) k ≡ window_in (get_or (held_in x) k blank)
    unfolding held_windows windows_in window_of
    window-at = get_or-map window_in (held_in x) k blank no_window l

    pub not-empty : (get_or (held_in x) k blank).shut < (get_or (held_in x) k blank).reopening
    not-empty = rw window-at at (in-range.not_empty k inside)

    pub reopening-most : (get_or (held_in x) k blank).reopening ≤ most_reopening
    reopening-most = rw window-at at (in-range.reopens k inside)

    pub one_more : (t : ℕ) → is_open (take (k + 1) (held_windows x)) t
        ≡ (is_open (take k (held_windows x)) t && not (in_window (window_in (get_or (held_in x) k blank)) t))
    one_more t = rw window-at at (first_next (held_windows x) k t inside)

-- ---- one slot more of a window
-- the slots of a window up to slot t
abbrev pub up_to : ℕ → ℕ → ℕ → Bool
up_to shut t u = in_window (record { shut = shut; reopening = t }) u

module _ (shut t : ℕ) (l : shut ≤ t) where
  pub slot_in : up_to shut (t + 1) t ≡ true
  slot_in = rw (le-leb shut t l, lt-ltb t (t + 1) (omega arith)) refl

  pub others_same : (u : ℕ) → (u ≡ t → ⊥) → up_to shut (t + 1) u ≡ up_to shut t u
  others_same u ne = go (lt-or_ge u t)
    where
      go : (u < t) ⊎ (t ≤ u) → up_to shut (t + 1) u ≡ up_to shut t u
      go (inl b) = rw (lt-ltb u t b, lt-ltb u (t + 1) (omega arith)) refl
      go (inr b) = let past : t + 1 ≤ u = omega arith in rw (le-ltb u t b, le-ltb u (t + 1) past) refl

pub none_in : (shut u : ℕ) → up_to shut shut u ≡ false
none_in shut u = go (lt-or_ge u shut)
  where
    go : (u < shut) ⊎ (shut ≤ u) → up_to shut shut u ≡ false
    go (inl b) = rw (lt-leb shut u b) refl
    go (inr b) = rw (le-ltb u shut b) (and-false (leb shut u))
