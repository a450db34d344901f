-- A job's take by its start and end, and the slots for which it stays: it is nothing before the start and from the end
-- on, the last take in the slot before the end, and the cap in between, so it changes at the start, at the end, and one
-- slot before the end where the last take is not the cap. Assumes nothing.
use mathlib.Core.Path.{◌≡◌, refl, sym, ap, subst, ◌∙◌}
use mathlib.Core.Bool.{Bool, true, false, ◌||◌}
use Prim.Native.Nat.{ℕ, ◌+◌, ◌-◌, ◌≤◌, ◌<◌, min}
use native.Mathlib.Omega.{arith}
use mathlib.Core.Logic.{◌⊎◌, inl, inr}
use lib.Dec.{ltb, leb, eqb}
use borrow.Author.Tests.{ltb-true, ltb-false, leb-true, leb-false, eqb-true, eqb-false, lt-ltb, le-ltb, le-leb, lt-leb, eq-eqb, ne_eqb}
use Rattle.std.specs.Prelude.{if◌then◌else◌}
use Rattle.rules.proofs.Laws.Division.{lt-or_ge}
use Rattle.chain.specs.Runs.{take_between, NextChange}

-- ---- the take in one slot
module _ (start end last cap u : ℕ) where
  pub nothing-before : u < start → take_between start end last cap u ≡ 0
  unfolding take_between
  nothing-before h = rw (lt-ltb u start h) refl

  pub nothing_after : end ≤ u → take_between start end last cap u ≡ 0
  unfolding take_between
  nothing_after h = go (ltb u start)
    where
      go : (b : Bool) → (if b || leb end u then 0 else if eqb (u + 1) end then last else cap) ≡ 0
      go true = refl
      go false = rw (le-leb end u h) refl

  pub last_in-last-slot : start ≤ u → u + 1 ≡ end → take_between start end last cap u ≡ last
  unfolding take_between
  last_in-last-slot h e = rw (le-ltb u start h, lt-leb end u (omega arith), eq-eqb (u + 1) end e) refl

  pub cap-before : start ≤ u → u + 1 < end → take_between start end last cap u ≡ cap
  unfolding take_between
  cap-before h l = rw (le-ltb u start h, lt-leb end u (omega arith), ne_eqb (u + 1) end (λ e. omega arith)) refl

-- ---- the next change
-- what a choice tells
abbrev Chosen : Bool → ℕ → ℕ → ℕ → Type 0
Chosen b r x y = ((b ≡ true) × (r ≡ x)) ⊎ ((b ≡ false) × (r ≡ y))

chosen : (b : Bool) {r x y : ℕ} → r ≡ (if b then x else y) → Chosen b r x y
chosen true e = inl (refl, e)
chosen false e = inr (refl, e)

-- the take by three choices, of which the first counts only before the end
pub take-by-choices : (start end last cap t left working take r : ℕ) → (t < end → left ≡ end - t) → working ≡ (if eqb left 1 then last else cap) →
    take ≡ (if leb end t then 0 else working) → r ≡ (if ltb t start then 0 else take) → r ≡ take_between start end last cap t
take-by-choices start end last cap t left working take r el ew et er = go (chosen (ltb t start) er) (chosen (leb end t) et) (chosen (eqb left 1) ew)
  where
    go : Chosen (ltb t start) r 0 take → Chosen (leb end t) take 0 working → Chosen (eqb left 1) working last cap → r ≡ take_between start end last cap t
    go (inl (a, b)) _ _ = b ∙ sym (nothing-before start end last cap t (ltb-true t start a))
    go (inr (a, b)) (inl (c, d)) _ = b ∙ (d ∙ sym (nothing_after start end last cap t (leb-true end t c)))
    go (inr (a, b)) (inr (c, d)) (inl (e, f)) =
        let h = leb-false end t c in
        b ∙ (d ∙ (f ∙ sym (last_in-last-slot start end last cap t (ltb-false t start a) (omega (arith, el h, eqb-true left 1 e)))))
    go (inr (a, b)) (inr (c, d)) (inr (e, f)) =
        let h = leb-false end t c in
        let more : left ≡ 1 → ⊥ = eqb-false left 1 e in
        b ∙ (d ∙ (f ∙ sym (cap-before start end last cap t (ltb-false t start a) (omega (arith, el h)))))

module _ (start end last cap t limit : ℕ) where
  -- after d slots the take is known to change
  change-after : (d n : ℕ) → 0 < d → 0 < limit → ((u : ℕ) → u < d → take_between start end last cap (t + u) ≡ take_between start end last cap t) →
      (take_between start end last cap (t + d) ≡ take_between start end last cap t → ⊥) → n ≡ min d limit → NextChange (take_between start end last cap) t limit n
  change-after d n some lim same changes e =
      record {
        some = omega arith;
        within = omega arith;
        same = λ u h. same u (omega arith);
        changes = λ h q. changes (let k : d ≡ n = omega arith in rw k q);
      }

  pub no-change-after_end : end ≤ t → 0 < limit → NextChange (take_between start end last cap) t limit limit
  no-change-after_end h lim =
      record {
        some = lim;
        within = omega arith;
        same = λ u l. nothing_after start end last cap (t + u) (omega arith) ∙ sym (nothing_after start end last cap t h);
        changes = λ l q. omega arith;
      }

  module _ (some : start < end) (last_Some : 1 ≤ last) (cap-some : 1 ≤ cap) (limit-some : 1 ≤ limit) where
    -- a job works in every slot from its start to its end
    works : (u : ℕ) → start ≤ u → u < end → 0 < take_between start end last cap u
    works u h l = go (lt-or_ge (u + 1) end)
      where
        go : (u + 1 < end) ⊎ (end ≤ u + 1) → 0 < take_between start end last cap u
        go (inl b) = omega (arith, cap-before start end last cap u h b)
        go (inr b) = omega (arith, last_in-last-slot start end last cap u h (omega arith))

    pub change-at_start : (n : ℕ) → t < start → n ≡ min (start - t) limit → NextChange (take_between start end last cap) t limit n
    change-at_start n h =
        change-after
        (start - t)
        n
        (omega arith)
        limit-some
        (λ u l. nothing-before start end last cap (t + u) (omega arith) ∙ sym (nothing-before start end last cap t h))
        (λ q. omega (arith, q, works (t + (start - t)) (omega arith) (omega arith), nothing-before start end last cap t h))

    -- the take is the same in every slot up to the end
    pub change-at_end : (n : ℕ) → start ≤ t → t < end → ((u : ℕ) → t + u < end → take_between start end last cap (t + u) ≡ take_between start end last cap t) →
        n ≡ min (end - t) limit → NextChange (take_between start end last cap) t limit n
    change-at_end n h l same =
        change-after
        (end - t)
        n
        (omega arith)
        limit-some
        (λ u b. same u (omega arith))
        (λ q. omega (arith, q, nothing_after start end last cap (t + (end - t)) (omega arith), works t h l))

    -- in the last slot
    pub change-next : start ≤ t → t + 1 ≡ end → NextChange (take_between start end last cap) t limit 1
    change-next h e =
        change-at_end 1 h (omega arith) (λ u b. let z : t + u ≡ t = omega arith in ap (take_between start end last cap) z) (omega arith)

    pub cap-to_the_end : (n : ℕ) → start ≤ t → t + 1 < end → last ≡ cap → n ≡ min (end - t) limit → NextChange (take_between start end last cap) t limit n
    cap-to_the_end n h l e = change-at_end n h (omega arith) (λ u b. go u b (lt-or_ge (t + u + 1) end))
      where
        go : (u : ℕ) → t + u < end → (t + u + 1 < end) ⊎ (end ≤ t + u + 1) → take_between start end last cap (t + u) ≡ take_between start end last cap t
        go u b (inl k) = cap-before start end last cap (t + u) (omega arith) k ∙ sym (cap-before start end last cap t h l)
        go u b (inr k) = last_in-last-slot start end last cap (t + u) (omega arith) (omega arith) ∙ e ∙ sym (cap-before start end last cap t h l)

    pub change-before_end : (n : ℕ) → start ≤ t → t + 1 < end → (last ≡ cap → ⊥) → n ≡ min (end - t - 1) limit →
        NextChange (take_between start end last cap) t limit n
    change-before_end n h l ne =
        change-after
        (end - t - 1)
        n
        (omega arith)
        limit-some
        (λ u b. cap-before start end last cap (t + u) (omega arith) (omega arith) ∙ sym (cap-before start end last cap t h l))
        (λ q. ne (sym (last_in-last-slot start end last cap (t + (end - t - 1)) (omega arith) (omega arith)) ∙ q ∙ cap-before start end last cap t h l))

    -- the next cut by four choices, whatever the slot
    module _ (turn running next cut : ℕ) (fits : t + limit ≤ 4294967295) (et : turn ≡ (if eqb last cap then end else end - 1))
        (er : running ≡ (if ltb t turn then turn else end)) (en : next ≡ (if ltb t start then start else running))
        (ec : cut ≡ (if leb end t then 4294967295 else next)) where
      pub cut-ahead : t ≤ cut
      cut-ahead = go (chosen (leb end t) ec) (chosen (ltb t start) en) (chosen (ltb t turn) er)
        where
          go : Chosen (leb end t) cut 4294967295 next → Chosen (ltb t start) next start running → Chosen (ltb t turn) running turn end → t ≤ cut
          go (inl (a, c)) _ _ = omega arith
          go (inr (a, c)) (inl (b, d)) _ = omega (arith, ltb-true t start b)
          go (inr (a, c)) (inr (b, d)) (inl (f, g)) = omega (arith, ltb-true t turn f)
          go (inr (a, c)) (inr (b, d)) (inr (f, g)) = omega (arith, leb-false end t a)

      pub change-at-cut : (n : ℕ) → n ≡ min (cut - t) limit → NextChange (take_between start end last cap) t limit n
      change-at-cut n e =
          go (chosen (leb end t) ec) (chosen (ltb t start) en) (chosen (ltb t turn) er) (chosen (eqb last cap) et)
        where
          in-last-slot : start ≤ t → t + 1 ≡ end → cut ≡ end → NextChange (take_between start end last cap) t limit n
          in-last-slot h l c =
              let one : 1 ≡ n = omega arith in
              subst (λ (m : ℕ). NextChange (take_between start end last cap) t limit m) one (change-next h l)

          go : Chosen (leb end t) cut 4294967295 next → Chosen (ltb t start) next start running → Chosen (ltb t turn) running turn end →
              Chosen (eqb last cap) turn end (end - 1) → NextChange (take_between start end last cap) t limit n
          go (inl (a, c)) _ _ _ =
              let all : limit ≡ n = omega arith in
              subst (λ (m : ℕ). NextChange (take_between start end last cap) t limit m) all (no-change-after_end (leb-true end t a) (omega arith))
          go (inr (a, c)) (inl (b, d)) _ _ = change-at_start n (ltb-true t start b) (omega arith)
          go (inr (a, c)) (inr (b, d)) (inl (f, g)) (inl (k, m)) = to_the_end (lt-or_ge (t + 1) end)
            where
              to_the_end : (t + 1 < end) ⊎ (end ≤ t + 1) → NextChange (take_between start end last cap) t limit n
              to_the_end (inl l) = cap-to_the_end n (ltb-false t start b) l (eqb-true last cap k) (omega arith)
              to_the_end (inr l) = in-last-slot (ltb-false t start b) (omega (arith, leb-false end t a)) (omega arith)
          go (inr (a, c)) (inr (b, d)) (inl (f, g)) (inr (k, m)) =
              change-before_end n (ltb-false t start b) (omega (arith, ltb-true t turn f)) (eqb-false last cap k) (omega arith)
          go (inr (a, c)) (inr (b, d)) (inr (f, g)) (inl (k, m)) = absurd (omega (arith, ltb-false t turn f, leb-false end t a))
          go (inr (a, c)) (inr (b, d)) (inr (f, g)) (inr (k, m)) =
              in-last-slot (ltb-false t start b) (omega (arith, ltb-false t turn f, leb-false end t a)) (omega arith)
