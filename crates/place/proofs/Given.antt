-- One slot of the pseudo-job in service: what the code gives is what rule 4 gives, whether rows come of it or not.
-- Assumes nothing.
use mathlib.Core.Path.{◌≡◌, refl, sym, ap, ◌∙◌}
use Prim.Native.Nat.{ℕ, ◌+◌, ◌*◌, ◌-◌, ◌≤◌, ◌<◌, min}
use native.Mathlib.Omega.{arith}
use mathlib.Core.List.{List, [], ◌∷◌}
use lib.ListN.{length}
use lib.Seq.{sets}
use Rattle.rules.specs.Limits.{slots}
use Rattle.rules.specs.Fields.{field, bytes_of}
use Rattle.rules.specs.Book.{job_count}
use Rattle.rules.specs.Reading.{book_of}
use Rattle.rules.specs.PseudoJobs.{PseudoJob, work}
use Rattle.rules.specs.Rows.{used_in}
use Rattle.rules.specs.Placing.{share, given, free_processors}
use Rattle.rules.proofs.Reading.Passing.{calendar_of_book}
use Rattle.rules.proofs.Placing.Usable.{free-from-release}
use Rattle.place.specs.declared.Current.{Current}
use Rattle.place.specs.Output.{Put}
use Rattle.place.specs.Service.{InService, current_flow, pseudo_job, job_rows}
use Rattle.place.specs.Flows.{standing, Beside, UnderwayBy, SlotServed, SlotUsed}
use Rattle.place.proofs.OneSlot.{slot-rows-few}
use Rattle.place.proofs.Output.{put-rows_too_far}
use Rattle.place.proofs.SlotRows.{rows-below-all}
use Rattle.place.proofs.Serving.{jobs-within, processors-within}
use Rattle.place.proofs.Underway.{used-before, slot-served, slot-passed}

module _ {s : List ℕ} {c : Current} (v : InService s c) where
  -- the work of the pseudo-job
  pub work-held : work (current_flow s c) (pseudo_job c) ≡ c.width * c.rate
  unfolding work
  work-held = rw v.rate refl

  slot-rows-within : (slot done n : ℕ) → length (job_rows (current_flow s c) c.flow slot (pseudo_job c) done n) ≤ 64
  slot-rows-within slot done n =
      rw (← rows-below-all (current_flow s c) c.flow slot (pseudo_job c) done n)
      (omega (
        arith,
        slot-rows-few slot c.flow (λ i. share (current_flow s c) (pseudo_job c) i done n) (job_count (current_flow s c)),
        jobs-within v,
      ))

  -- one slot, before which `left` units are not given
  module _ {used : ℕ} (left slot : ℕ) (area : List ℕ) (most : left ≤ work (current_flow s c) (pseudo_job c)) (inside : slot < slots)
      (read : used ≡ field 2 area (2 * slot)) where
    abbrev give : ℕ
    give = min c.rate (min left (c.processors - used))

    abbrev done : ℕ
    done = work (current_flow s c) (pseudo_job c) - left

    few : (book_of s).processors < 65536
    few = omega (arith, v.processors, processors-within v)

    rest : work (current_flow s c) (pseudo_job c) - done ≡ left
    rest = omega arith

    module _ {at : ℕ} {out : List ℕ} (x : Beside) (ps : List PseudoJob) (u : UnderwayBy s c x slot (standing (pseudo_job c ∷ ps) done) out area at) where
      used_is : used ≡ used_in x.rows slot
      used_is = read ∙ used-before (book_of s) c.flow x slot (pseudo_job c) ps done out area at few inside u

      give_is : give ≡ given (current_flow s c) (pseudo_job c) done (free_processors (book_of s) c.flow x.rows slot)
      unfolding given
      give_is = rw (rest, v.rate, v.processors, used_is, free-from-release (book_of s) c.flow x.rows slot (calendar_of_book s) u.released) refl

    module _ {n : ℕ} (e : n ≡ give) where
      -- a slot that gives nothing
      pub served-nothing : {at : ℕ} {out : List ℕ} → n ≡ 0 → SlotServed s c at done slot out area out area (record { next = at; give = n })
      served-nothing {at} {out} none = record {
        give_within = omega arith;
        next_within = omega arith;
        gives = λ x ps u. e ∙ give_is x ps u;
        serves = λ x ps u. slot-passed (book_of s) c.flow x slot (pseudo_job c) ps done out area at few inside u (sym (give_is x ps u) ∙ sym e ∙ none);
      }

      -- a slot whose rows are put and counted in
      pub served-some : {at next : ℕ} {out out' area' : List ℕ} → Put out at (job_rows (current_flow s c) c.flow slot (pseudo_job c) done n) out' next →
          area' ≡ sets area (2 * slot) (bytes_of 2 (used + n)) → SlotServed s c at done slot out area out' area' (record { next = next; give = n })
      served-some {at} {next} {out} {out'} {area'} put stored =
          let within : done + n ≤ work (current_flow s c) (pseudo_job c) = omega arith in
          record {
            give_within = within;
            next_within = omega (arith, put.offset, slot-rows-within slot done n);
            gives = λ x ps u. e ∙ give_is x ps u;
            serves = λ x ps u.
                slot-served (book_of s) c.flow x slot (pseudo_job c) ps done out area at few inside u n out' area' next (e ∙ give_is x ps u)
                (omega (arith, v.rate, v.rate_positive)) within put
                (stored ∙ ap (λ (m : ℕ). sets area (2 * slot) (bytes_of 2 (m + n))) (used_is x ps u));
          }

      -- ---- without rows
      pub used-nothing : n ≡ 0 → SlotUsed s c done slot area area n
      used-nothing none at = (at, served-nothing none)

      pub used-some : {area' : List ℕ} → area' ≡ sets area (2 * slot) (bytes_of 2 (used + n)) → SlotUsed s c done slot area area' n
      used-some stored at =
          (_, served-some (put-rows_too_far [] at (job_rows (current_flow s c) c.flow slot (pseudo_job c) done n) (omega arith)) stored)
