-- Open slots of a calendar: how many stand before a slot, and the first slot before which a number of them stands. A calendar in range has reopened by slot
-- 4,096, so that twice the open slots before a deadline have passed by slot 8,192 at the latest. Assumes nothing.
use mathlib.Core.Path.{◌≡◌, refl, ap, ◌∙◌}
use Prim.Native.Nat.{ℕ, zero, suc, ◌+◌, ◌*◌, ◌-◌, ◌≤◌, ◌<◌}
use mathlib.Core.Bool.{Bool, true, false, not, and-false}
use mathlib.Core.List.{[], ◌∷◌}
use mathlib.Core.Logic.{◌⊎◌, inl, inr}
use native.Mathlib.Omega.{arith}
use lib.ListN.{length}
use lib.Dec.{ltb, leb}
use borrow.Author.Tests.{le-leb, lt-ltb, le-ltb}
use Rattle.std.specs.Prelude.{if◌then◌else◌}
use Rattle.rules.specs.Walks.{sum_to, bit}
use Rattle.rules.specs.Limits.{most_reopening, most_deadline, slots}
use Rattle.rules.specs.Calendar.{Calendar, in_window, is_open, open_before, pass_open, slot_after, window_of, CalendarInRange}
use Rattle.rules.specs.Book.{Flow, Book, twice_deadline}
use Rattle.rules.specs.Placing.{slots_for}
use Rattle.rules.proofs.Laws.Division.{lt-or_ge, neither-less}
use Rattle.rules.proofs.Laws.Sums.{bit_most}

-- ---- counting
module _ (c : Calendar) where
  pub open_none : open_before c 0 ≡ 0
  unfolding open_before sum_to
  open_none = refl

  pub open_next : (t : ℕ) → open_before c (suc t) ≡ open_before c t + bit (is_open c t)
  unfolding open_before sum_to
  open_next t = refl

  pub open_step : (t : ℕ) → open_before c (suc t) ≤ open_before c t + 1
  open_step t = omega (arith, open_next t, bit_most (is_open c t))

  pub open_more : (t n : ℕ) → open_before c t ≤ open_before c (t + n)
  open_more t zero = let e : t + 0 ≡ t = omega arith in rw e (omega arith)
  open_more t (suc n) =
      let e : t + suc n ≡ suc (t + n) = omega arith in
      rw (e, open_next (t + n)) (omega (arith, open_more t n))

  pub open_mono : {t u : ℕ} → t ≤ u → open_before c t ≤ open_before c u
  open_mono {t} {u} l =
      let e : t + (u - t) ≡ u = omega arith in
      rw e at (open_more t (u - t))

  pub open_most : (t : ℕ) → open_before c t ≤ t
  open_most zero = omega (arith, open_none)
  open_most (suc t) = omega (arith, open_step t, open_most t)

  -- ---- the walk until n more open slots have passed
  pub record Passed (m n t u : ℕ) : Type 0 where
    pub from : t ≤ u
    pub within : u ≤ t + m
    -- in no slot before the end of the walk have they passed
    pub not_yet : (v : ℕ) → t ≤ v → v < u → open_before c v < open_before c t + n
    -- at its end they have, or the walk is as long as it may be
    pub count : (open_before c u ≡ open_before c t + n) ⊎ ((u ≡ t + m) × (open_before c u < open_before c t + n))

  pass-ended : (m n t : ℕ) → n ≡ 0 → Passed m n t t
  pass-ended m n t e = record { from = omega arith; within = omega arith; not_yet = λ v a l. absurd (omega arith); count = inl (omega arith) }

  pass_on : (m n k t u : ℕ) → k + bit (is_open c t) ≡ suc n → Passed m k (t + 1) u → Passed (suc m) (suc n) t u
  pass_on m n k t u e p = record {
    from = omega (arith, p.from);
    within = omega (arith, p.within);
    not_yet = λ v a l. first v a l (lt-or_ge t v);
    count = ended p.count;
  }
    where
      next : open_before c (t + 1) + k ≡ open_before c t + suc n
      next = let s : t + 1 ≡ suc t = omega arith in rw (s, open_next t) (omega arith)

      first : (v : ℕ) → t ≤ v → v < u → (t < v) ⊎ (v ≤ t) → open_before c v < open_before c t + suc n
      first v a l (inl b) = omega (arith, p.not_yet v (omega arith) l, next)
      first v a l (inr b) = let s : v ≡ t = omega arith in rw s (omega arith)

      ended : (open_before c u ≡ open_before c (t + 1) + k) ⊎ ((u ≡ t + 1 + m) × (open_before c u < open_before c (t + 1) + k)) →
          (open_before c u ≡ open_before c t + suc n) ⊎ ((u ≡ t + suc m) × (open_before c u < open_before c t + suc n))
      ended (inl q) = inl (omega (arith, next))
      ended (inr q) = inr (omega (arith, q.0), omega (arith, q.1, next))

  pub passed : (m n t : ℕ) → Passed m n t (pass_open c m n t)
  unfolding pass_open
  passed zero zero t = pass-ended 0 0 t refl
  passed zero (suc n) t = record { from = omega arith; within = omega arith; not_yet = λ v a l. absurd (omega arith); count = inr (omega arith, omega arith) }
  passed (suc m) zero t = pass-ended (suc m) 0 t refl
  passed (suc m) (suc n) t = pass_on m n (if is_open c t then n else suc n) t _ (taken (is_open c t)) (passed m (if is_open c t then n else suc n) (t + 1))
    where
      taken : (x : Bool) → (if x then n else suc n) + bit x ≡ suc n
      taken true = omega arith
      taken false = omega arith

  -- ---- the first slot before which n open slots stand
  after : (n : ℕ) → Passed slots n 0 (slot_after c n)
  unfolding slot_after
  after n = passed slots n 0

  pub slot-after_most : (n : ℕ) → slot_after c n ≤ slots
  slot-after_most n = omega (arith, (after n).within)

  pub slot-after-not_yet : (n t : ℕ) → t < slot_after c n → open_before c t < n
  slot-after-not_yet n t l = omega (arith, (after n).not_yet t (omega arith) l, open_none)

  pub slot-after-count : (n : ℕ) → n ≤ open_before c slots → open_before c (slot_after c n) ≡ n
  slot-after-count n h = go (after n).count
    where
      go : (open_before c (slot_after c n) ≡ open_before c 0 + n) ⊎ ((slot_after c n ≡ 0 + slots) × (open_before c (slot_after c n) < open_before c 0 + n)) → open_before c (slot_after c n) ≡ n
      go (inl q) = omega (arith, open_none)
      go (inr q) =
          let e : slot_after c n ≡ slots = omega (arith, q.0) in
          absurd (omega (arith, q.1, open_none, ap (open_before c) e))

  -- no other slot is that
  pub slot-after_is : (n u : ℕ) → u ≤ slots → open_before c u ≡ n → ((t : ℕ) → t < u → open_before c t < n) → slot_after c n ≡ u
  slot-after_is n u l e first =
      let stands : open_before c (slot_after c n) ≡ n = slot-after-count n (omega (arith, open_mono l)) in
      neither-less (slot_after c n) u (λ a. omega (arith, first (slot_after c n) a, stands)) (λ a. omega (arith, slot-after-not_yet n u a))

-- where every slot from u on is open, each of them counts
pub open-on : (c : Calendar) (u n : ℕ) → ((t : ℕ) → u ≤ t → is_open c t ≡ true) → open_before c (u + n) ≡ open_before c u + n
open-on c u zero h = let e : u + 0 ≡ u = omega arith in rw e (omega arith)
open-on c u (suc n) h =
    let e : u + suc n ≡ suc (u + n) = omega arith in
    rw (e, open_next c (u + n), h (u + n) (omega arith)) (omega (arith, open-on c u n h))

-- ---- windows
-- a slot of a window is shut, from its first to the one before it reopens
pub shut-in_window : (c : Calendar) (k t : ℕ) → k < length c → (window_of c k).shut ≤ t → t < (window_of c k).reopening → is_open c t ≡ false
unfolding is_open window_of
shut-in_window [] k t l a z = absurd (omega arith)
shut-in_window (v ∷ vs) zero t l a z = rw (le-leb v.shut t a, lt-ltb t v.reopening z) refl
shut-in_window (v ∷ vs) (suc k) t l a z = rw (shut-in_window vs k t (omega arith) a z) (and-false (not (in_window v t)))

-- a slot by which all windows have reopened is open
open-from : (c : Calendar) (t : ℕ) → ((k : ℕ) → k < length c → (window_of c k).reopening ≤ t) → is_open c t ≡ true
unfolding is_open window_of
open-from [] t h = refl
open-from (v ∷ vs) t h =
    let past : ltb t v.reopening ≡ false = le-ltb t v.reopening (h 0 (omega arith)) in
    rw (past, open-from vs t (λ k l. h (suc k) (omega arith)), and-false (leb v.shut t)) refl

module _ (c : Calendar) (range : CalendarInRange c) where
  pub reopened : (t : ℕ) → most_reopening ≤ t → is_open c t ≡ true
  reopened t h = open-from c t (λ k l. omega (arith, range.reopens k l))

  -- twice the open slots before a deadline have passed by the last slot
  pub twice-fits : (d : ℕ) → d ≤ most_deadline → 2 * open_before c d ≤ open_before c slots
  twice-fits d h = omega (arith, open-on c most_reopening 4096 reopened, open_mono c {t = d} {u = most_reopening} h, open_most c most_reopening)

-- ---- rule 6
module _ (b : Book) (w : Flow) where
  pub limit_most : slots_for b w ≤ slots
  unfolding slots_for
  limit_most = slot-after_most b.calendar _

  twice_passes : CalendarInRange b.calendar → w.deadline ≤ most_deadline → twice_deadline b w ≤ open_before b.calendar slots
  unfolding twice_deadline
  twice_passes range h = omega (arith, twice-fits b.calendar range w.deadline h)

  -- twice the open slots before the deadline stand before the limit, and before no earlier slot
  pub limit-count : CalendarInRange b.calendar → w.deadline ≤ most_deadline → open_before b.calendar (slots_for b w) ≡ twice_deadline b w
  unfolding slots_for
  limit-count range h = slot-after-count b.calendar (twice_deadline b w) (twice_passes range h)

  pub limit-not_yet : (t : ℕ) → t < slots_for b w → open_before b.calendar t < twice_deadline b w
  unfolding slots_for
  limit-not_yet t l = slot-after-not_yet b.calendar (twice_deadline b w) t l

-- books with the same calendar have the same limit
pub limit-same : (b c : Book) → b.calendar ≡ c.calendar → (w : Flow) → slots_for b w ≡ slots_for c w
unfolding slots_for twice_deadline
limit-same b c e w = rw e refl

-- ---- no windows
pub always : (t : ℕ) → is_open [] t ≡ true
unfolding is_open
always t = refl

pub open-all : (t : ℕ) → open_before [] t ≡ t
open-all zero = open_none []
open-all (suc t) = rw (open_next [] t, always t, open-all t) (omega arith)

pub limit-without : (b : Book) (w : Flow) → b.calendar ≡ [] → w.deadline ≤ most_deadline → slots_for b w ≡ 2 * w.deadline
unfolding slots_for twice_deadline
limit-without b w e h =
    ap (λ (c : Calendar). slot_after c (2 * open_before c w.deadline)) e
    ∙ ap (λ (n : ℕ). slot_after [] (2 * n)) (open-all w.deadline)
    ∙ slot-after_is [] (2 * w.deadline) (2 * w.deadline) (omega arith) (open-all (2 * w.deadline)) (λ t l. omega (arith, open-all t))
