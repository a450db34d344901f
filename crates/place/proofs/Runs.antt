-- A pseudo-job on its way from slot to slot: while units are left it is the current one, and when the last are given it
-- is done and the flow goes on to the next in the slot after. Assumes nothing.
use mathlib.Core.Path.{◌≡◌, refl, sym, ap, subst, ◌∙◌}
use mathlib.Core.Logic.{◌⊎◌, inl, inr}
use Prim.Native.Nat.{ℕ, suc, ◌+◌, ◌*◌, ◌-◌, ◌≤◌, ◌<◌}
use native.Mathlib.Nat.{mul-le-mul_right}
use native.Mathlib.Omega.{arith}
use mathlib.Core.Bool.{Bool, true, false, false≢true}
use mathlib.Core.List.{List, [], ◌∷◌}
use lib.ListN.{length}
use Rattle.rules.specs.Limits.{slots}
use Rattle.rules.specs.Reading.{book_of}
use Rattle.rules.specs.PseudoJobs.{PseudoJob, work}
use Rattle.rules.specs.Placing.{Progress, given, free_processors}
use Rattle.place.specs.declared.Current.{Current}
use Rattle.place.specs.declared.Placed.{Placed}
use Rattle.std.specs.Prelude.{Option, Some, None}
use Rattle.place.specs.declared.Served.{Served}
use Rattle.place.specs.Service.{InService, current_flow, pseudo_job}
use Rattle.place.specs.Flows.{standing, Beside, UnderwayBy, SlotServed, RunDone, WorkLeft, RunPlaced, RunAnswer, SlotUsed, RunUsed, RunGoes}
use Rattle.rules.proofs.Laws.Division.{lt-or_ge}
use Rattle.place.proofs.Given.{work-held}
use Rattle.place.proofs.Serving.{processors-within}
use Rattle.place.proofs.Steps.{after-slot-goes_on, after-slot-finishes}
use Rattle.place.proofs.Underway.{slot-finish}

-- the pseudo-job of whose units `done` are given before slot `slot`
pub record RunSoFar (s : List ℕ) (c : Current) (x : Beside) (ps : List PseudoJob) (slot done : ℕ) (out area : List ℕ) (next : ℕ) : Type 0 where
  pub going_on : done < work (current_flow s c) (pseudo_job c) → UnderwayBy s c x slot (standing (pseudo_job c ∷ ps) done) out area next
  pub over : done ≡ work (current_flow s c) (pseudo_job c) → RunDone s c x ps slot out area next

module _ {s : List ℕ} {c : Current} (v : InService s c) (x : Beside) (ps : List PseudoJob) where
  pub run_begins : (slot : ℕ) (out area : List ℕ) (next : ℕ) → 0 < work (current_flow s c) (pseudo_job c) →
      UnderwayBy s c x slot (standing (pseudo_job c ∷ ps) 0) out area next → RunSoFar s c x ps slot 0 out area next
  run_begins slot out area next some u = record { going_on = λ l. u; over = λ e. absurd (omega arith) }

  pub run-goes_on : (slot done : ℕ) (out area out' area' : List ℕ) (next : ℕ) (r : Served) → slot < slots →
      done < work (current_flow s c) (pseudo_job c) →
      RunSoFar s c x ps slot done out area next → SlotServed s c next done slot out area out' area' r →
      RunSoFar s c x ps (slot + 1) (done + r.give) out' area' r.next
  run-goes_on slot done out area out' area' next r inside left so_far_lem served =
      let w = current_flow s c in
      let p = pseudo_job c in
      let free = free_processors (book_of s) c.flow x.rows slot in
      let u = so_far_lem.going_on left in
      let e : r.give ≡ given w p done free = served.gives x ps u in
      let later : slot + 1 ≡ suc slot = omega arith in
      let after = served.serves x ps u in
      rw later (record {
        going_on = λ l.
            subst (λ (g : Progress). UnderwayBy s c x (suc slot) g out' area' r.next)
            (after-slot-goes_on w c.flow slot p ps done free (omega arith) ∙ ap (λ (n : ℕ). standing (p ∷ ps) (done + n)) (sym e)) after;
        over = λ q. record {
          under = subst (λ (g : Progress). UnderwayBy s c x (suc slot) g out' area' r.next)
              (after-slot-finishes w c.flow slot p ps done free (omega arith)) after;
          finish =
              slot-finish (book_of s) c.flow x slot p ps done out area next (omega (arith, v.processors, processors-within v))
              inside u
              (omega (arith, v.rate, v.rate_positive)) (omega arith) (omega arith);
        };
      })

  -- the limit is reached while units are left
  pub run_stops : (slot done limit : ℕ) (out area : List ℕ) (next : ℕ) → slot ≡ limit → done < work (current_flow s c) (pseudo_job c) →
      RunSoFar s c x ps slot done out area next → WorkLeft (book_of s) c.flow x limit out area
  run_stops slot done limit out area next e left so_far_lem =
      record { current = pseudo_job c; later = ps; done = done; next = next; under = rw (← e) (so_far_lem.going_on left) }

-- ---- the loop over slots: what is kept from its begin at slot `from` on
pub record RunKept (s : List ℕ) (c : Current) (from limit at : ℕ) (out₀ area₀ out area : List ℕ) (done slot next : ℕ) : Type 0 where
  pub slot_from : from ≤ slot
  pub slot_to : slot ≤ limit
  pub done_to : done ≤ work (current_flow s c) (pseudo_job c)
  pub next_to : next ≤ at + 384 * (slot - from)
  pub nothing_yet : slot ≡ from → done ≡ 0
  pub out_length : length out ≡ length out₀
  pub area_length : length area ≡ length area₀
  pub so_far_lem : (x : Beside) (ps : List PseudoJob) → UnderwayBy s c x from (standing (pseudo_job c ∷ ps) 0) out₀ area₀ at →
      RunSoFar s c x ps slot done out area next

module _ {s : List ℕ} {c : Current} (v : InService s c) where
  pub some-work : 0 < work (current_flow s c) (pseudo_job c)
  some-work = omega (arith, work-held v, mul-le-mul_right {m = 1} {n = c.width} c.rate v.width_positive, v.rate_positive)

  pub run-kept-first : {from limit at done : ℕ} {out₀ area₀ : List ℕ} → from ≤ limit → done ≡ 0 →
      RunKept s c from limit at out₀ area₀ out₀ area₀ done from at
  run-kept-first {from} {limit} {at} {done} {out₀} {area₀} l none = record {
    slot_from = omega arith;
    slot_to = l;
    done_to = omega arith;
    next_to = omega arith;
    nothing_yet = λ e. none;
    out_length = refl;
    area_length = refl;
    so_far_lem = λ x ps u. rw none (run_begins v x ps from out₀ area₀ at some-work u);
  }

  module _ {from limit at done slot next : ℕ} {out₀ area₀ out area : List ℕ} (k : RunKept s c from limit at out₀ area₀ out area done slot next) where
    pub run-kept-next : {out' area' : List ℕ} {r : Served} {done' : ℕ} → limit ≤ slots → slot < limit → done < work (current_flow s c) (pseudo_job c) →
        SlotServed s c next done slot out area out' area' r → done' ≡ done + r.give → length out' ≡ length out → length area' ≡ length area →
        RunKept s c from limit at out₀ area₀ out' area' done' (slot + 1) r.next
    run-kept-next {out'} {area'} {r} {done'} most inside left served more same_out same_area = record {
      slot_from = omega (arith, k.slot_from);
      slot_to = omega arith;
      done_to = rw more served.give_within;
      next_to = omega (arith, served.next_within, k.next_to, k.slot_from);
      nothing_yet = λ e. absurd (omega (arith, k.slot_from));
      out_length = same_out ∙ k.out_length;
      area_length = same_area ∙ k.area_length;
      so_far_lem = λ x ps u. rw more (run-goes_on v x ps slot done out area out' area' next r (omega arith) left (k.so_far_lem x ps u) served);
    }

    pub run-kept_stops : limit ≤ slot → done < work (current_flow s c) (pseudo_job c) →
        (x : Beside) (ps : List PseudoJob) → UnderwayBy s c x from (standing (pseudo_job c ∷ ps) 0) out₀ area₀ at → WorkLeft (book_of s)
        c.flow x limit out area
    run-kept_stops l left x ps u = run_stops v x ps slot done limit out area next (omega (arith, k.slot_to)) left (k.so_far_lem x ps u)

    pub run-kept-done : work (current_flow s c) (pseudo_job c) ≤ done → RunPlaced s c from at limit out₀ area₀ out area slot next
    run-kept-done l = record {
      slot_after_is = go (lt-or_ge from slot);
      slot_within = k.slot_to;
      next_within = k.next_to;
      finished = λ x ps u. (k.so_far_lem x ps u).over (omega (arith, k.done_to));
    }
      where
        go : (from < slot) ⊎ (slot ≤ from) → from < slot
        go (inl m) = m
        go (inr m) = absurd (omega (arith, k.nothing_yet (omega (arith, k.slot_from)), some-work))

-- ---- the same without rows, whose offset may be any
abbrev pub UsedKept : List ℕ → Current → ℕ → ℕ → List ℕ → List ℕ → ℕ → ℕ → Type 0
UsedKept s c from limit area₀ area done slot = (at : ℕ) → (next : ℕ) × RunKept s c from limit at [] area₀ [] area done slot next

module _ {s : List ℕ} {c : Current} (v : InService s c) {from limit done slot : ℕ} {area₀ area : List ℕ} (k : UsedKept s c from limit area₀ area done slot) where
  pub used-kept-next : {area' : List ℕ} {give done' : ℕ} → limit ≤ slots → slot < limit → done < work (current_flow s c) (pseudo_job c) →
      SlotUsed s c done slot area area' give → done' ≡ done + give → length area' ≡ length area → UsedKept s c from limit area₀ area' done' (slot + 1)
  used-kept-next most inside left served more same at =
      let here = k at in
      let next = served here.0 in
      (next.0, run-kept-next v here.1 most inside left next.1 more refl same)

  pub used-kept_stops : limit ≤ slot → done < work (current_flow s c) (pseudo_job c) → RunUsed s c from limit area₀ area None
  used-kept_stops l left at = run-kept_stops v (k at).1 l left

  pub used-kept-done : (held : ℕ) → work (current_flow s c) (pseudo_job c) ≤ done → RunUsed s c from limit area₀ area (Some (record { finish = slot; next = held }))
  used-kept-done held l at = ((k at).0, run-kept-done v (k at).1 l)

-- ---- with rows or without
module _ (s : List ℕ) (c : Current) (from held limit : ℕ) (out area out' area' : List ℕ) where
  pub run-listed : (listed : Bool) → listed ≡ true → (q : Option Placed) → RunAnswer s c from held limit out area out' area' q →
      RunGoes listed s c from held limit out area out' area' q
  run-listed listed t (Some p) answer = λ at e. (p.next, λ _. refl, rw (e t) answer)
  run-listed listed t None answer = λ at e. rw (e t) answer

  pub run_unlisted : (listed : Bool) → listed ≡ false → out ≡ [] → out' ≡ [] → (q : Option Placed) → RunUsed s c from limit area area' q →
      RunGoes listed s c from held limit out area out' area' q
  run_unlisted listed t none none' (Some p) answer = λ at e. ((answer at).0, λ u. absurd (false≢true (sym t ∙ u)), rw (none, none') (answer at).1)
  run_unlisted listed t none none' None answer = λ at e. rw (none, none') (answer at)

  -- either way
  pub run-goes : (listed : Bool) (q : Option Placed) → (listed ≡ true → RunAnswer s c from held limit out area out' area' q) →
      (listed ≡ false → RunUsed s c from limit area area' q) → (listed ≡ false → out ≡ []) → (listed ≡ false → out' ≡ []) →
      RunGoes listed s c from held limit out area out' area' q
  run-goes true q answer used none none' = run-listed true refl q (answer refl)
  run-goes false q answer used none none' = run_unlisted false refl (none refl) (none' refl) q (used refl)
