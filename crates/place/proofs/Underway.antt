-- A flow on its way, one slot more: what the area holds in the slot is the use of the flows before, and after the
-- slot's rows are put and counted in, the flow stands where rule 4 says. Assumes nothing.
use mathlib.Core.Path.{◌≡◌, refl, sym, ap, ◌∙◌}
use Prim.Native.Nat.{ℕ, suc, ◌+◌, ◌*◌, ◌≤◌, ◌<◌}
use native.Mathlib.Omega.{arith}
use mathlib.Core.List.{List, [], ◌∷◌, ◌++◌, append_assoc, append-nil}
use lib.Seq.{sets}
use Rattle.rules.specs.Limits.{slots}
use Rattle.rules.specs.Fields.{field, bytes_of}
use Rattle.rules.specs.Book.{Flow, Book, job_count, flow_of}
use Rattle.rules.specs.PseudoJobs.{PseudoJob, rate, work}
use Rattle.rules.specs.Rows.{used_in, finish_of, work_used}
use Rattle.rules.specs.Placing.{given, after_slot, progress, free_processors}
use Rattle.rules.proofs.Rows.FlowRows.{used-append}
use Rattle.rules.proofs.Chains.Shares.{share_of-nothing, shares_sum}
use Rattle.rules.proofs.Rows.WorkArea.{used_pair, used-more}
use Rattle.place.specs.Output.{Put}
use Rattle.place.specs.Service.{job_rows}
use Rattle.place.specs.Flows.{standing, Beside, rows_up_to, Underway}
use Rattle.place.proofs.OneSlot.{finish-append, slot-rows-used, slot-rows-elsewhere, slot-rows-finish, slot-rows-nothing}
use Rattle.place.proofs.Output.{put-more}
use Rattle.place.proofs.SlotRows.{rows-below-all}
use Rattle.place.proofs.Steps.{flow-rows_next, rows_in-standing, slot-rows-served, own-rows-earlier, own-finish-le}

-- the rows of a slot that gives n units
module _ (w : Flow) (f t : ℕ) (p : PseudoJob) (done n : ℕ) where
  pub job-rows-nothing : n ≡ 0 → job_rows w f t p done n ≡ []
  job-rows-nothing e = sym (rows-below-all w f t p done n) ∙ slot-rows-nothing t f _ (job_count w) (λ i l. rw e (share_of-nothing w p i done))

  job-rows-elsewhere : (u : ℕ) → (u ≡ t → ⊥) → used_in (job_rows w f t p done n) u ≡ 0
  job-rows-elsewhere u ne = rw (← rows-below-all w f t p done n) (slot-rows-elsewhere t f _ (job_count w) u ne)

  job-rows-used : 0 < rate w p → done + n ≤ work w p → used_in (job_rows w f t p done n) t ≡ n
  job-rows-used pos h = rw (← rows-below-all w f t p done n) (slot-rows-used t f _ (job_count w) ∙ shares_sum w p done n pos h)

  job-rows-finish : 0 < rate w p → done + n ≤ work w p → 0 < n → finish_of (job_rows w f t p done n) f ≡ suc t
  job-rows-finish pos h l = rw (← rows-below-all w f t p done n) (slot-rows-finish t f _ (job_count w) (rw (shares_sum w p done n pos h) l))

module _ (b : Book) (f : ℕ) (x : Beside) (t : ℕ) (p : PseudoJob) (ps : List PseudoJob) (done : ℕ) (out area : List ℕ) (at : ℕ)
    (few : b.processors < 65536) (inside : t < slots) (u : Underway b f x t (standing (p ∷ ps) done) out area at) where
  abbrev w : Flow
  w = flow_of b f

  abbrev free : ℕ
  free = free_processors b f x.rows t

  used-so_far : used_in (x.rows ++ rows_up_to b f x t) t ≡ used_in x.rows t
  used-so_far = omega (arith, used-append x.rows (rows_up_to b f x t) t, own-rows-earlier w f (free_processors b f x.rows) t t (omega arith))

  -- the area holds the use of the slot by the flows before
  pub used-before : field 2 area (2 * t) ≡ used_in x.rows t
  used-before =
      rw u.area_used
      (used_pair slots (x.rows ++ rows_up_to b f x t) x.area t inside (omega (arith, used-so_far, u.within t)) ∙ used-so_far)

  rows_next : rows_up_to b f x (suc t) ≡ rows_up_to b f x t ++ job_rows w f t p done (given w p done free)
  rows_next =
      flow-rows_next w f (free_processors b f x.rows) t
      ∙ ap (rows_up_to b f x t ++◌)
      (rows_in-standing w f (free_processors b f x.rows) t (p ∷ ps) done u.stands ∙ slot-rows-served w f t p ps done free ∙
      rows-below-all w f t p done (given w p done free))

  stands-next : progress w (free_processors b f x.rows) (suc t) ≡ after_slot w (p ∷ ps) done free
  unfolding progress
  stands-next = rw u.stands refl

  -- the slot's rows put and counted in
  pub slot-served : (n : ℕ) (out' area' : List ℕ) (next : ℕ) → n ≡ given w p done free → 0 < rate w p → done + n ≤ work w p →
      Put out at (job_rows w f t p done n) out' next → area' ≡ sets area (2 * t) (bytes_of 2 (used_in x.rows t + n)) →
      Underway b f x (suc t) (after_slot w (p ∷ ps) done free) out' area' next
  slot-served n out' area' next e pos h put stored =
      let rows = x.rows ++ rows_up_to b f x t in
      let new = job_rows w f t p done n in
      let all : rows_up_to b f x (suc t) ≡ rows_up_to b f x t ++ new = rw e rows_next in
      record {
        within = u.within;
        released = omega (arith, u.released);
        stands = stands-next;
        area_used =
            stored
            ∙ rw (u.area_used, ← used-so_far) refl
            ∙ sym (used-more slots t n rows new x.area inside (job-rows-used w f t p done n pos h) (job-rows-elsewhere w f t p done n))
            ∙ ap (λ more. work_used slots more x.area) (append_assoc x.rows (rows_up_to b f x t) new ∙ ap (x.rows ++◌) (sym all));
        put = rw all (put-more x.output out out' x.offset at next (rows_up_to b f x t) new u.put put);
      }

  -- a slot that gives nothing
  pub slot-passed : given w p done free ≡ 0 → Underway b f x (suc t) (after_slot w (p ∷ ps) done free) out area at
  slot-passed e =
      let all : rows_up_to b f x (suc t) ≡ rows_up_to b f x t = rows_next ∙ rw (job-rows-nothing w f t p done (given w p done free) e)
      (append-nil (rows_up_to b f x t)) in
      record { within = u.within; released = omega (arith, u.released); stands = stands-next; area_used = rw all u.area_used; put = rw all u.put }

  -- where the slot gives something, it is the flow's last used slot so far
  pub slot-finish : 0 < rate w p → done + given w p done free ≤ work w p → 0 < given w p done free → finish_of (rows_up_to b f x (suc t)) f ≡ suc t
  slot-finish pos h l =
      rw (rows_next, finish-append (rows_up_to b f x t) (job_rows w f t p done (given w p done free)) f)
      (omega (arith, own-finish-le w f (free_processors b f x.rows) t, job-rows-finish w f t p done (given w p done free) pos h l))
