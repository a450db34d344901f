-- Counting by windows: how many open slots one window more leaves before a slot, and where that moves the first slot
-- before which a number of open slots stands. Assumes nothing.
use mathlib.Core.Path.{◌≡◌, refl, sym, ap, ◌∙◌}
use Prim.Native.Nat.{ℕ, zero, suc, ◌+◌, ◌*◌, ◌-◌, ◌≤◌, ◌<◌, min}
use mathlib.Core.Bool.{true, false, not, ◌&&◌, and-true, and-false}
use mathlib.Core.Logic.{◌⊎◌, inl, inr}
use native.Mathlib.Numerals.{add-one}
use native.Mathlib.Nat.{not-suc-le-zero}
use native.Mathlib.Omega.{arith}
use lib.ListN.{length, get_or, take}
use lib.Dec.{ltb, leb}
use borrow.Author.Tests.{lt-ltb, le-ltb, le-leb, lt-leb}
use Rattle.std.specs.Prelude.{if◌then◌else◌}
use Rattle.std.proofs.lemmas.List.{take_all}
use Rattle.rules.specs.Walks.{bit}
use Rattle.rules.specs.Limits.{most_deadline, slots}
use Rattle.rules.specs.Calendar.{Calendar, is_open, window_of, open_before, slot_after, CalendarInRange}
use Rattle.rules.proofs.Laws.Division.{lt-or_ge}
use Rattle.rules.proofs.Laws.Walks.{last_or}
use Rattle.rules.proofs.Placing.OpenSlots.{open_none, open_next, open-on, open-all, twice-fits, slot-after_is}
use Rattle.calendar.specs.declared.maintenance.Calendar.{Calendar as Held}
use Rattle.calendar.specs.Held.{held_windows}
use Rattle.calendar.proofs.Windows.{none-shut, first_next, held_in, in-range, blank, as-many, window-at}

-- limit is the first slot before which n slots are open
pub record Reached (c : Calendar) (n limit : ℕ) : Type 0 where
  pub count : open_before c limit ≡ n
  pub not_yet : (t : ℕ) → t < limit → open_before c t < n

module _ (c : Calendar) where
  -- the first k windows have reopened
  reopened : (k t : ℕ) → k ≤ length c → ((j : ℕ) → j < k → (window_of c j).reopening ≤ t) → is_open (take k c) t ≡ true
  reopened zero t l h = none-shut c t
  reopened (suc k) t l h =
      let over : ltb t (window_of c k).reopening ≡ false = le-ltb t (window_of c k).reopening (h k (omega arith)) in
      rw (← add-one k, first_next c k t (omega arith), reopened k t (omega arith) (λ j b. h j (omega arith)), over, and-false (leb (window_of c k).shut t)) refl

  pub all_open : (t : ℕ) → open_before (take 0 c) t ≡ t
  all_open t = open-all t

  pub reached-none : (n : ℕ) → Reached (take 0 c) n n
  reached-none n = record { count = all_open n; not_yet = λ t l. omega (arith, all_open t) }

  module _ (range : CalendarInRange c) where
    -- a window begins when those before it have reopened
    before-apart : (k : ℕ) → k < length c → (j : ℕ) → j < k → (window_of c j).reopening ≤ (window_of c k).shut
    before-apart zero l j b = absurd (not-suc-le-zero b)
    before-apart (suc k) l j b =
        last_or j k b (λ e. rw e (omega (arith, range.apart k l)))
        (λ m. omega (arith, before-apart k (omega arith) j m, range.not_empty k (omega arith), range.apart k l))

    module _ (k : ℕ) (l : k < length c) where
      others_open : (t : ℕ) → (window_of c k).shut ≤ t → is_open (take k c) t ≡ true
      others_open t h = reopened k t (omega arith) (λ j b. omega (arith, before-apart k l j b))

      -- one window more: its slots before t are open no longer
      pub count_next : (t : ℕ) → open_before (take (k + 1) c) t + (min (window_of c k).reopening t - (window_of c k).shut) ≡ open_before (take k c) t
      count_next zero = omega (arith, open_none (take (k + 1) c), open_none (take k c))
      count_next (suc t) =
          rw (open_next (take (k + 1) c) t, open_next (take k c) t, first_next c k t l)
          (go (lt-or_ge t shut) (lt-or_ge t reopening) (count_next t))
        where
          shut : ℕ
          shut = (window_of c k).shut

          reopening : ℕ
          reopening = (window_of c k).reopening

          go : (t < shut) ⊎ (shut ≤ t) → (t < reopening) ⊎ (reopening ≤ t) →
              open_before (take (k + 1) c) t + (min reopening t - shut) ≡ open_before (take k c) t →
              open_before (take (k + 1) c) t + bit (is_open (take k c) t && not (leb shut t && ltb t reopening)) + (min reopening (suc t) - shut)
              ≡ open_before (take k c) t + bit (is_open (take k c) t)
          go (inl a) o ih = rw (lt-leb shut t a, and-true (is_open (take k c) t)) (omega arith)
          go (inr a) (inl b) ih = rw (others_open t a, le-leb shut t a, lt-ltb t reopening b) (omega arith)
          go (inr a) (inr b) ih = rw (others_open t a, le-leb shut t a, le-ltb t reopening b) (omega (arith, range.not_empty k l))

      -- one window more: it moves the limit when it shuts before it
      pub reached-next : (n limit : ℕ) → Reached (take k c) n limit →
          Reached (take (k + 1) c) n (if ltb (window_of c k).shut limit then limit + ((window_of c k).reopening - (window_of c k).shut) else limit)
      reached-next n limit r = go (lt-or_ge shut limit)
        where
          shut : ℕ
          shut = (window_of c k).shut

          reopening : ℕ
          reopening = (window_of c k).reopening

          -- past the window's first slot every slot was open
          on : (m : ℕ) → shut < limit → open_before (take k c) (limit + m) ≡ n + m
          on m h = omega (arith, open-on (take k c) limit m (λ t b. others_open t (omega arith)), r.count)

          moved : shut < limit → (t : ℕ) → t < limit + (reopening - shut) → (t < limit) ⊎ (limit ≤ t) → open_before (take (k + 1) c) t < n
          moved h t b (inl a) = omega (arith, r.not_yet t a, count_next t)
          moved h t b (inr a) =
              let e : limit + (t - limit) ≡ t = omega arith in
              omega (arith, count_next t, rw e at (on (t - limit) h), range.not_empty k l)

          go : (shut < limit) ⊎ (limit ≤ shut) → Reached (take (k + 1) c) n (if ltb shut limit then limit + (reopening - shut) else limit)
          go (inl h) = rw (lt-ltb shut limit h) (record {
            count = omega (arith, count_next (limit + (reopening - shut)), on (reopening - shut) h, range.not_empty k l);
            not_yet = λ t b. moved h t b (lt-or_ge t limit);
          })
          go (inr h) = rw (le-ltb shut limit h) (record {
            count = omega (arith, count_next limit, r.count);
            not_yet = λ t b. omega (arith, count_next t, r.not_yet t b);
          })

    -- more windows leave no more slots open
    fewer_open : (t k j : ℕ) → k + j ≤ length c → open_before (take (k + j) c) t ≤ open_before (take k c) t
    fewer_open t k zero h = let e : k + 0 ≡ k = omega arith in rw e (omega arith)
    fewer_open t k (suc j) h =
        let e : k + suc j ≡ k + j + 1 = omega arith in
        rw e (omega (arith, count_next (k + j) (omega arith) t, fewer_open t k j (omega arith)))

    -- the limit stays within the slots
    module _ (d : ℕ) (due : d ≤ most_deadline) where
      pub reached_most : (k limit : ℕ) → k ≤ length c → Reached (take k c) (2 * open_before c d) limit → limit ≤ slots
      reached_most k limit h r = go (lt-or_ge slots limit)
        where
          rest : k + (length c - k) ≡ length c
          rest = omega arith

          go : (slots < limit) ⊎ (limit ≤ slots) → limit ≤ slots
          go (inl b) =
              absurd (omega (
                arith,
                r.not_yet slots b,
                twice-fits c range d due,
                ap (λ (w : Calendar). open_before w slots) (ap (λ (n : ℕ). take n c) rest ∙ take_all (length c) c (omega arith)),
                fewer_open slots k (length c - k) (omega arith),
              ))
          go (inr b) = b

      pub reached-all : (limit : ℕ) → limit ≤ slots → Reached c (2 * open_before c d) limit → limit ≡ slot_after c (2 * open_before c d)
      reached-all limit h r = sym (slot-after_is c (2 * open_before c d) limit h r.count r.not_yet)

-- ---- the same of the windows that a calendar's struct holds
module _ (x : Held) (k : ℕ) (l : k < length (held_in x)) where
  pub less-open : (t : ℕ) → open_before (take (k + 1) (held_windows x)) t
      + (min (get_or (held_in x) k blank).reopening t - (get_or (held_in x) k blank).shut)
      ≡ open_before (take k (held_windows x)) t
  less-open t = rw (window-at x k l) at (count_next (held_windows x) (in-range x) k (omega (arith, as-many x)) t)

  pub moved-on : (n limit : ℕ) → Reached (take k (held_windows x)) n limit →
      Reached (take (k + 1) (held_windows x)) n
      (if ltb (get_or (held_in x) k blank).shut limit then limit + ((get_or (held_in x) k blank).reopening - (get_or (held_in x) k blank).shut) else limit)
  moved-on n limit r = rw (window-at x k l) at (reached-next (held_windows x) (in-range x) k (omega (arith, as-many x)) n limit r)
