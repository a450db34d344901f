-- A chain of pseudo-jobs placed slot by slot (rule 4), on any processors that the slots leave free.
-- A slot that leaves a processor free lowers the slots that the chain still needs by one, and no slot raises them: so while work is left, the
-- slots left short are fewer than the path. Every other usable slot is full; summed over the slots this is the one inequality `placing_bound`.
-- Assumes nothing.
use mathlib.Core.Path.{◌≡◌, refl, ap}
use Prim.Native.Nat.{ℕ, zero, suc, ◌+◌, ◌*◌, ◌-◌, ◌/◌, ◌≤◌, ◌<◌, min}
use mathlib.Core.Bool.{Bool, true, false}
use mathlib.Core.List.{List, [], ◌∷◌}
use mathlib.Core.Logic.{◌⊎◌, inl, inr}
use native.Mathlib.Nat.{mul-pos, mul-le-mul_left, lt-div-mul-add, lt-suc_self}
use native.Mathlib.Omega.{arith}
use lib.Dec.{ltb, eqb}
use borrow.Author.Tests.{eqb-true, eqb-false, ne_eqb, ltb-true, ltb-false}
use Rattle.std.specs.Prelude.{if◌then◌else◌}
use Rattle.rules.specs.Walks.{sum_to, bit, count_to}
use Rattle.rules.specs.Book.{Flow}
use Rattle.rules.specs.Ideal.{quotient_up}
use Rattle.rules.specs.PseudoJobs.{PseudoJob, chain, rate, work, sum_over}
use Rattle.rules.specs.Placing.{Progress, given, after_slot, progress}
use Rattle.rules.proofs.Laws.Division.{lt-or_ge, quotient_up_pos, quotient_up_fall, quotient_up_mono, quotient_up-mul}
use Rattle.rules.proofs.Laws.Sums.{sum-add, sum_mono, sum_scale}
use Rattle.rules.proofs.Chains.PseudoJobs.{Every}

-- ---- pseudo-jobs in a row
-- each has a rate and a width
abbrev pub Live : Flow → List PseudoJob → Type 0
Live w ps = Every (λ p. (0 < rate w p) × (0 < p.width)) ps

-- their works, and their widths, added
abbrev pub works_of : Flow → List PseudoJob → ℕ
works_of w ps = sum_over (work w) ps

abbrev pub widths_of : List PseudoJob → ℕ
widths_of ps = sum_over (λ p. p.width) ps

-- ---- a chain on its way: the pseudo-jobs left, and the units done of the first of them
-- the first of them is not finished
abbrev pub Underway : Flow → List PseudoJob → ℕ → Type 0
Underway w [] done = Unit {0}
Underway w (p ∷ ps) done = (done < work w p) × Live w (p ∷ ps)

-- the units that are left
unfoldable pub units_left : Flow → List PseudoJob → ℕ → ℕ
units_left w [] done = 0
units_left w (p ∷ ps) done = work w p - done + works_of w ps

-- the slots that they need on endless processors
unfoldable pub slots_needed : Flow → List PseudoJob → ℕ → ℕ
slots_needed w [] done = 0
slots_needed w (p ∷ ps) done = quotient_up (work w p - done) (rate w p) + widths_of ps

-- what the flow gets in a slot
unfoldable pub given_to : Flow → List PseudoJob → ℕ → ℕ → ℕ
given_to w [] done free = 0
given_to w (p ∷ ps) done free = given w p done free

module _ (w : Flow) where
  pub given-le-rest : (p : PseudoJob) (done free : ℕ) → given w p done free ≤ work w p - done
  unfolding given
  given-le-rest p done free = omega arith

  pub given-le-rate : (p : PseudoJob) (done free : ℕ) → given w p done free ≤ rate w p
  unfolding given
  given-le-rate p done free = omega arith

  given-le-free : (ps : List PseudoJob) (done free : ℕ) → given_to w ps done free ≤ free
  unfolding given_to given
  given-le-free [] done free = omega arith
  given-le-free (p ∷ ps) done free = omega arith

  -- a slot finishes the current pseudo-job, or leaves some of it
  pub after-slot : (X : List PseudoJob → ℕ → Type 0) (p : PseudoJob) (ps : List PseudoJob) (done free : ℕ) → done ≤ work w p →
      (done + given w p done free ≡ work w p → X ps 0) →
      (done + given w p done free < work w p → X (p ∷ ps) (done + given w p done free)) →
      X (after_slot w (p ∷ ps) done free).left (after_slot w (p ∷ ps) done free).done
  unfolding after_slot
  after-slot X p ps done free h finished some = go (eqb (done + given w p done free) (work w p)) refl
    where
      chosen : Bool → Progress
      chosen c = if c then record { left = ps; done = 0 } else record { left = p ∷ ps; done = done + given w p done free }

      go : (c : Bool) → eqb (done + given w p done free) (work w p) ≡ c → X (chosen c).left (chosen c).done
      go true e = finished (eqb-true (done + given w p done free) (work w p) e)
      go false e = some (omega (arith, eqb-false (done + given w p done free) (work w p) e, given-le-rest p done free))

  fresh-underway : (ps : List PseudoJob) → Live w ps → Underway w ps 0
  unfolding work
  fresh-underway [] l = tt
  fresh-underway (p ∷ ps) l = (mul-pos l.0.1 l.0.0, l)

  fresh-units : (ps : List PseudoJob) → units_left w ps 0 ≡ works_of w ps
  unfolding units_left sum_over
  fresh-units [] = refl
  fresh-units (p ∷ ps) = omega arith

  -- each pseudo-job needs its width
  fresh_needed : (ps : List PseudoJob) → Live w ps → slots_needed w ps 0 ≡ widths_of ps
  unfolding slots_needed sum_over work
  fresh_needed [] l = refl
  fresh_needed (p ∷ ps) l =
      let z : p.width * rate w p - 0 ≡ p.width * rate w p = omega arith in
      rw z (omega (arith, quotient_up-mul p.width l.0.0))

  after-underway : (ps : List PseudoJob) (done free : ℕ) → Underway w ps done → Underway w (after_slot w ps done free).left (after_slot w ps done free).done
  after-underway [] done free u = unfold after_slot in tt
  after-underway (p ∷ ps) done free u =
      after-slot (Underway w) p ps done free (omega (arith, u.0)) (λ e. fresh-underway ps u.1.1) (λ l. (l, u.1))

  -- a slot with nothing free leaves the chain where it stands
  after_idle : (ps : List PseudoJob) (done : ℕ) → Underway w ps done → after_slot w ps done 0 ≡ record { left = ps; done = done }
  unfolding after_slot given
  after_idle [] done u = refl
  after_idle (p ∷ ps) done u =
      let nothing : done + min (rate w p) (min (work w p - done) 0) ≡ done = omega arith in
      rw (nothing, ne_eqb done (work w p) (λ e. omega (arith, u.0))) refl

  -- nothing is lost
  after-units : (ps : List PseudoJob) (done free : ℕ) → Underway w ps done →
      given_to w ps done free + units_left w (after_slot w ps done free).left (after_slot w ps done free).done ≡ units_left w ps done
  after-units [] done free u = unfold after_slot given_to units_left in refl
  after-units (p ∷ ps) done free u =
      after-slot (λ qs now. given_to w (p ∷ ps) done free + units_left w qs now ≡ units_left w (p ∷ ps) done) p ps done free (omega (arith, u.0))
      (λ e. unfold given_to units_left in omega (arith, fresh-units ps)) (λ l. unfold given_to units_left in omega arith)

  -- the first pseudo-job, of work n left at rate r, in a slot with f free
  run_needs : (r n f : ℕ) → 0 < r → 0 < n → bit (ltb (min r (min n f)) f) + quotient_up (n - min r (min n f)) r ≤ quotient_up n r
  run_needs r n f pos h = go (ltb (min r (min n f)) f) refl
    where
      go : (c : Bool) → ltb (min r (min n f)) f ≡ c → bit c + quotient_up (n - min r (min n f)) r ≤ quotient_up n r
      go true e =
          let l : min r (min n f) < f = ltb-true (min r (min n f)) f e in
          let q : min r (min n f) ≡ min r n = omega arith in
          rw q (omega (arith, quotient_up_fall n pos h))
      go false e = omega (arith, quotient_up_mono (n - min r (min n f)) n pos (omega arith))

  -- a slot that leaves a processor free lowers the slots still needed
  after_needed : (ps : List PseudoJob) (done free : ℕ) → Underway w ps done → 0 < units_left w ps done →
      bit (ltb (given_to w ps done free) free) + slots_needed w (after_slot w ps done free).left (after_slot w ps done free).done ≤ slots_needed w ps done
  after_needed [] done free u h = absurd (unfold units_left in omega arith)
  after_needed (p ∷ ps) done free u h =
      after-slot (λ qs now. bit (ltb (given_to w (p ∷ ps) done free) free) + slots_needed w qs now ≤ slots_needed w (p ∷ ps) done) p ps done free
      (omega (arith, u.0))
      (λ e. unfold given_to slots_needed in omega (arith, fresh_needed ps u.1.1, step))
      (λ l. unfold given_to slots_needed in omega (arith, step, ap (λ (x : ℕ). quotient_up x (rate w p)) now-left))
    where
      step : bit (ltb (given w p done free) free) + quotient_up (work w p - done - given w p done free) (rate w p) ≤ quotient_up (work w p - done) (rate w p)
      step = unfold given in run_needs (rate w p) (work w p - done) free u.1.0.0 (omega (arith, u.0))

      now-left : work w p - done - given w p done free ≡ work w p - (done + given w p done free)
      now-left = omega arith

  needed-positive : (ps : List PseudoJob) (done : ℕ) → Underway w ps done → 0 < units_left w ps done → 0 < slots_needed w ps done
  unfolding units_left slots_needed
  needed-positive [] done u h = h
  needed-positive (p ∷ ps) done u h = omega (arith, quotient_up_pos (work w p - done) u.1.0.0 (omega (arith, u.0)))

-- ---- a flow placed with free t processors free in slot t
-- what it gets in slot t, and the units left as slot t begins
abbrev pub given_in : Flow → (ℕ → ℕ) → ℕ → ℕ
given_in w free t = given_to w (progress w free t).left (progress w free t).done (free t)

abbrev pub units_left_at : Flow → (ℕ → ℕ) → ℕ → ℕ
units_left_at w free t = units_left w (progress w free t).left (progress w free t).done

-- slot t has a processor that the flow leaves free
abbrev pub short : Flow → (ℕ → ℕ) → ℕ → Bool
short w free t = ltb (given_in w free t) (free t)

no-units_left : (w : Flow) (ps : List PseudoJob) (done : ℕ) → Underway w ps done → units_left w ps done ≡ 0 → ps ≡ []
unfolding units_left
no-units_left w [] done u e = refl
no-units_left w (p ∷ ps) done u e = absurd (omega (arith, u.0))

pub given_in-le-free : (w : Flow) (free : ℕ → ℕ) (t : ℕ) → given_in w free t ≤ free t
given_in-le-free w free t = given-le-free w (progress w free t).left (progress w free t).done (free t)

module _ (w : Flow) (free : ℕ → ℕ) (live : Live w (chain w)) where
  pub underway : (t : ℕ) → Underway w (progress w free t).left (progress w free t).done
  unfolding progress
  underway zero = fresh-underway w (chain w) live
  underway (suc t) = after-underway w (progress w free t).left (progress w free t).done (free t) (underway t)

  -- where nothing is free in the first n slots, the flow has not begun after them
  pub not-begun : (n : ℕ) → ((t : ℕ) → t < n → free t ≡ 0) → progress w free n ≡ record { left = chain w; done = 0 }
  unfolding progress
  not-begun zero none = refl
  not-begun (suc n) none =
      rw (not-begun n (λ t l. none t (omega arith)), none n (lt-suc_self n)) (after_idle w (chain w) 0 (fresh-underway w (chain w) live))

  -- no units are left where no pseudo-job is left, and only there
  pub nothing_left : (t : ℕ) → units_left_at w free t ≡ 0 → (progress w free t).left ≡ []
  nothing_left t e = no-units_left w (progress w free t).left (progress w free t).done (underway t) e

  pub something-left : (t : ℕ) → ((progress w free t).left ≡ [] → ⊥) → 0 < units_left_at w free t
  something-left t ne = go (lt-or_ge 0 (units_left_at w free t))
    where
      go : (0 < units_left_at w free t) ⊎ (units_left_at w free t ≤ 0) → 0 < units_left_at w free t
      go (inl l) = l
      go (inr l) = absurd (ne (nothing_left t (omega arith)))

  -- what the flow has had, and the units that are left, are its work
  pub given-and-left : (t : ℕ) → sum_to (given_in w free) t + units_left_at w free t ≡ works_of w (chain w)
  unfolding sum_to progress
  given-and-left zero = omega (arith, fresh-units w (chain w))
  given-and-left (suc t) =
      omega (arith, given-and-left t, after-units w (progress w free t).left (progress w free t).done (free t) (underway t))

  pub units-left_fall : (t : ℕ) → units_left_at w free (suc t) ≤ units_left_at w free t
  unfolding progress
  units-left_fall t = omega (arith, after-units w (progress w free t).left (progress w free t).done (free t) (underway t))

  short-and_needed : (t : ℕ) → 0 < units_left_at w free t →
      count_to (short w free) t + slots_needed w (progress w free t).left (progress w free t).done ≤ widths_of (chain w)
  unfolding sum_to progress
  short-and_needed zero h = omega (arith, fresh_needed w (chain w) live)
  short-and_needed (suc t) h =
      let before : 0 < units_left_at w free t = omega (arith, units-left_fall t) in
      omega (
        arith,
        short-and_needed t before,
        after_needed w (progress w free t).left (progress w free t).done (free t) (underway t) before,
      )

  -- while work is left, the slots left short are fewer than the path
  pub short-slots-lt-path : (t : ℕ) → 0 < units_left_at w free t → count_to (short w free) t < widths_of (chain w)
  short-slots-lt-path t h =
      omega (arith, short-and_needed t h, needed-positive w (progress w free t).left (progress w free t).done (underway t) h)

  -- P processors, of which busy t in slot t are left to others: in a usable slot the rest is free
  module _ (P : ℕ) (usable : ℕ → Bool) (busy : ℕ → ℕ) (rest-free : (t : ℕ) → usable t ≡ true → P ≤ busy t + free t) where
    -- a usable slot is left short, or full
    short-or_full : (t : ℕ) → P * bit (usable t) ≤ P * bit (short w free t) + (busy t + given_in w free t)
    short-or_full t = go (short w free t) refl (usable t) refl
      where
        go : (b : Bool) → short w free t ≡ b → (c : Bool) → usable t ≡ c → P * bit c ≤ P * bit b + (busy t + given_in w free t)
        go true e true q = omega arith
        go true e false q = omega arith
        go false e false q = omega arith
        go false e true q = omega (arith, ltb-false (given_in w free t) (free t) e, rest-free t q)

    -- while work is left
    pub placing_bound : (t : ℕ) → 0 < units_left_at w free t →
        P * suc (count_to usable t) < P * widths_of (chain w) + (sum_to busy t + works_of w (chain w))
    placing_bound t h =
        omega (
          arith,
          sum_mono (λ u. P * bit (usable u)) (λ u. P * bit (short w free u) + (busy u + given_in w free u)) t (λ u l. short-or_full u),
          sum_scale P (λ u. bit (usable u)) t,
          sum-add (λ u. P * bit (short w free u)) (λ u. busy u + given_in w free u) t,
          sum_scale P (λ u. bit (short w free u)) t,
          sum-add busy (given_in w free) t,
          given-and-left t,
          mul-le-mul_left P (short-slots-lt-path t h),
        )

-- the same, divided by P
pub divided_bound : (P c n area : ℕ) → 0 < P → P * suc c < P * n + area → c < n + area / P
divided_bound P c n area pos h = go (lt-or_ge c (n + area / P))
  where
    go : (c < n + area / P) ⊎ (n + area / P ≤ c) → c < n + area / P
    go (inl l) = l
    go (inr g) = absurd (omega (arith, mul-le-mul_left P g, lt-div-mul-add {a = area} pos))
