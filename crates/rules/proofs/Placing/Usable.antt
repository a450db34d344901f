-- The slots that a flow can use, the open ones from its release on, and the processors that are free for it there. Assumes nothing.
use mathlib.Core.Path.{◌≡◌, refl, ◌∙◌}
use Prim.Native.Nat.{ℕ, zero, suc, ◌+◌, ◌-◌, ◌≤◌, ◌<◌}
use mathlib.Core.Bool.{Bool, true, false, not-eq-not, and-true, and-false, and-eq-true_iff}
use mathlib.Core.List.{List, []}
use mathlib.Core.Logic.{◌⊎◌, inl, inr}
use native.Mathlib.Omega.{arith}
use lib.Dec.{leb}
use borrow.Author.Tests.{leb-true, le-leb, lt-leb}
use Rattle.std.specs.Prelude.{if◌then◌else◌}
use Rattle.rules.specs.Walks.{sum_to, bit, count_to}
use Rattle.rules.specs.Calendar.{is_open, open_before}
use Rattle.rules.specs.Book.{Flow, Book, flow_of, usable}
use Rattle.rules.specs.Rows.{Row, used_in}
use Rattle.rules.specs.Schedule.{Schedule, IsJob, Valid}
use Rattle.rules.specs.Placing.{free_processors}
use Rattle.rules.proofs.Laws.Division.{lt-or_ge}
use Rattle.rules.proofs.Placing.OpenSlots.{open_none, open_next, open_mono, always}

-- in a book without windows every slot is open
pub always_open : (b : Book) (t : ℕ) → b.calendar ≡ [] → is_open b.calendar t ≡ true
always_open b t e = rw e (always t)

module _ (b : Book) (w : Flow) (t : ℕ) where
  pub usable_open : usable b w t ≡ true → is_open b.calendar t ≡ true
  unfolding usable
  usable_open e = ((and-eq-true_iff _ _).0 e).0

  pub released : usable b w t ≡ true → w.release ≤ t
  unfolding usable
  released e = leb-true w.release t ((and-eq-true_iff (is_open b.calendar t) (leb w.release t)).0 e).1

  -- from the release on the usable slots are the open ones
  pub usable-released : w.release ≤ t → usable b w t ≡ is_open b.calendar t
  unfolding usable
  usable-released h = rw (le-leb w.release t h) (and-true (is_open b.calendar t))

  pub usable-from : is_open b.calendar t ≡ true → w.release ≤ t → usable b w t ≡ true
  usable-from o h = usable-released h ∙ o

  pub not-released : t < w.release → usable b w t ≡ false
  unfolding usable
  not-released h = rw (lt-leb w.release t h) (and-false (is_open b.calendar t))

  pub shut-unusable : is_open b.calendar t ≡ false → usable b w t ≡ false
  unfolding usable
  shut-unusable e = rw e refl

-- how many of the slots before t it can use: the open ones without those before the release
module _ (b : Book) (w : Flow) where
  pub count-usable : (t : ℕ) → count_to (usable b w) t ≡ open_before b.calendar t - open_before b.calendar w.release
  unfolding sum_to
  count-usable zero = omega (arith, open_none b.calendar)
  count-usable (suc t) = go (lt-or_ge t w.release) (count-usable t)
    where
      go : (t < w.release) ⊎ (w.release ≤ t) → count_to (usable b w) t ≡ open_before b.calendar t - open_before b.calendar w.release →
          count_to (usable b w) t + bit (usable b w t) ≡ open_before b.calendar (suc t) - open_before b.calendar w.release
      go (inl l) ih = rw (not-released b w t l) (omega (arith, open_mono b.calendar l, open_next b.calendar t))
      go (inr l) ih = rw (usable-released b w t l) (omega (arith, open_next b.calendar t, open_mono b.calendar l))

-- a slot in which a valid schedule gives something to a flow is one that it can use
pub given-usable : (b : Book) (among : ℕ → Bool) (σ : Schedule) → Valid b among σ → (f i t : ℕ) → IsJob b among f i → 0 < σ f i t →
    usable b (flow_of b f) t ≡ true
given-usable b among σ valid f i t j some = (not-eq-not {b = true}).0 (λ e. omega (arith, some, valid.in_usable f i t j e))

module _ (b : Book) (f : ℕ) (rows : List Row) (t : ℕ) where
  -- in a slot that the flow can use, all that the rows before leave
  pub free-usable : usable b (flow_of b f) t ≡ true → free_processors b f rows t ≡ b.processors - used_in rows t
  unfolding free_processors
  free-usable h = rw h refl

  pub none_free : usable b (flow_of b f) t ≡ false → free_processors b f rows t ≡ 0
  unfolding free_processors
  none_free h = rw h refl

  -- .. in a book without windows, from the release on
  pub free-from-release : b.calendar ≡ [] → (flow_of b f).release ≤ t → free_processors b f rows t ≡ b.processors - used_in rows t
  free-from-release e h = free-usable (usable-from b (flow_of b f) t (always_open b t e) h)

  pub none-free-before : t < (flow_of b f).release → free_processors b f rows t ≡ 0
  none-free-before h = none_free (not-released b (flow_of b f) t h)

  -- in no slot more
  pub free-within : free_processors b f rows t ≤ b.processors - used_in rows t
  unfolding free_processors
  free-within = go (usable b (flow_of b f) t)
    where
      go : (c : Bool) → (if c then b.processors - used_in rows t else 0) ≤ b.processors - used_in rows t
      go true = omega arith
      go false = omega arith
