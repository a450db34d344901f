-- The rows of one slot, as a loop over the parts puts them: those of the jobs below the next part. Assumes nothing.
use mathlib.Core.Path.{◌≡◌, refl, sym}
use Prim.Native.Nat.{ℕ, ◌+◌, ◌-◌, ◌%◌, ◌≤◌, ◌<◌, min, max}
use native.Mathlib.Nat.{mod-lt}
use native.Mathlib.Numerals.{add-one}
use native.Mathlib.Omega.{arith}
use mathlib.Core.List.{List, ◌++◌, append-nil}
use lib.ListN.{length, get_or}
use Rattle.rules.specs.Walks.{sum_to}
use Rattle.rules.specs.Book.{Flow, job_count}
use Rattle.rules.specs.Ideal.{take_of}
use Rattle.rules.specs.PseudoJobs.{PseudoJob, rate, work}
use Rattle.rules.specs.Rows.{Row, row_for}
use Rattle.rules.specs.Placing.{share}
use Rattle.rules.proofs.Chains.Shares.{units_before, units-within-rate, share-none, share-overlap}
use Rattle.std.proofs.lemmas.List.{length-map}
use Rattle.chain.specs.declared.Part.{Part}
use Rattle.chain.specs.Alone.{no_part, names_in, takes_in}
use Rattle.chain.specs.Runs.{parts_below}
use Rattle.chain.proofs.Walked.{name-in, take-in}
use Rattle.place.specs.declared.Current.{Current}
use Rattle.place.specs.Output.{Put}
use Rattle.place.specs.declared.in_service.Service.{Service}
use Rattle.place.specs.Service.{PartsHeld, current_flow, pseudo_job, job_rows, overlaps}
use Rattle.place.proofs.Serving.{jobs-within, rate-within, take_within}
use Rattle.place.proofs.OneSlot.{rows_of_slot, slot-rows-none, slot-rows_next, slot-rows-few}
use Rattle.place.proofs.Output.{row_for-none, put-none, put-more}
use Rattle.chain.proofs.Parts.{PartAt, parts_none, part_at, past-parts}

-- those of the jobs below j
abbrev pub rows_below : Flow → ℕ → ℕ → PseudoJob → ℕ → ℕ → ℕ → List Row
rows_below w f t p done n j = rows_of_slot t f (λ i. share w p i done n) j

pub rows-below-all : (w : Flow) (f t : ℕ) (p : PseudoJob) (done n : ℕ) → rows_below w f t p done n (job_count w) ≡ job_rows w f t p done n
unfolding rows_of_slot job_rows
rows-below-all w f t p done n = refl

rows-below_next : (w : Flow) (f t : ℕ) (p : PseudoJob) (done n j : ℕ) →
    rows_below w f t p done n (j + 1) ≡ rows_below w f t p done n j ++ row_for t f j (share w p j done n)
rows-below_next w f t p done n j = rw add-one (slot-rows_next t f (λ i. share w p i done n) j)

-- the units of the slot before those of the next job
units-none : (w : Flow) (p : PseudoJob) → units_before w p 0 ≡ 0
unfolding units_before sum_to
units-none w p = refl

units-next : (w : Flow) (p : PseudoJob) (i : ℕ) → units_before w p (i + 1) ≡ units_before w p i + take_of w i p.first
unfolding units_before sum_to
units-next w p i = rw (add-one i) refl

-- a job has at most its take in one slot of the run and its take in the next
overlap-within : (y s a m : ℕ) → s ≤ m → min y (s + a) - m ≤ a
overlap-within y s a m l = omega arith

pub overlaps-within : (o n s a r : ℕ) → overlaps o n s a r ≤ a + a
overlaps-within o n s a r =
    omega (arith, overlap-within (o + n) s a (max o s) (omega arith), overlap-within (o + n) (s + r) a (max o (s + r)) (omega arith))

-- ---- the loop over parts
-- the rows of the jobs below j are put; before the units of job j stand `before` others
pub record JobsPut (w : Flow) (f t : ℕ) (p : PseudoJob) (done n : ℕ) (out : List ℕ) (at : ℕ) (out' : List ℕ) (next before j : ℕ) : Type 0 where
  pub units : before ≡ units_before w p j
  pub put : Put out at (rows_below w f t p done n j) out' next

-- the rows of the first q parts are put: those of the jobs below one that stands behind q parts
pub record SlotKept (w : Flow) (f t : ℕ) (p : PseudoJob) (done n : ℕ) (out : List ℕ) (at : ℕ) (out' : List ℕ) (next before q : ℕ) : Type 0 where
  pub job : ℕ
  pub job_to : job ≤ job_count w
  pub behind : parts_below (λ i. take_of w i p.first) job ≡ q
  pub so_far_lem : JobsPut w f t p done n out at out' next before job

pub slot-kept-first : {w : Flow} {f t : ℕ} {p : PseudoJob} {done n : ℕ} {out : List ℕ} {at : ℕ} → SlotKept w f t p done n out at out at 0 0
slot-kept-first {w} {f} {t} {p} {done} {n} {out} {at} = record {
  job = 0;
  job_to = omega arith;
  behind = parts_none (λ i. take_of w i p.first);
  so_far_lem = record { units = sym (units-none w p); put = rw (slot-rows-none t f (λ i. share w p i done n)) (put-none out at) };
}

-- the share of job j, without division
share_is-overlaps : (w : Flow) (p : PseudoJob) (done give r j : ℕ) → r ≡ rate w p → 0 < rate w p → done + give ≤ work w p → give ≤ r → j < job_count w →
    overlaps (done % r) give (units_before w p j) (take_of w j p.first) r ≡ share w p j done give
share_is-overlaps w p done give r j e positive fits most l = rw e (sym (share-overlap w p j done give positive fits (omega arith) l))

-- one turn, in a slot that uses `give` units of the pseudo-job in service after the first `done`
module _ (x : Service) (v : PartsHeld x.book.now x.current (names_in x.parts.now) (takes_in x.parts.now)) {done give t at next before q : ℕ} {out out' : List ℕ}
    (fits : done + give ≤ work (current_flow x.book.now x.current) (pseudo_job x.current)) (most : give ≤ x.current.rate)
    (k : SlotKept (current_flow x.book.now x.current) x.current.flow t (pseudo_job x.current) done give out at out' next before q) where
  abbrev c : Current
  c = x.current

  abbrev names : List ℕ
  names = names_in x.parts.now

  abbrev takes : List ℕ
  takes = takes_in x.parts.now

  abbrev here : Part
  here = get_or x.parts.now q no_part

  abbrev w : Flow
  w = current_flow x.book.now c

  abbrev p : PseudoJob
  p = pseudo_job c

  abbrev take : ℕ → ℕ
  take i = take_of w i c.first

  abbrev PutBelow : ℕ → Type 0
  PutBelow j = JobsPut w c.flow t p done give out at out' next before j

  positive : 0 < rate w p
  positive = omega (arith, v.in_service.rate, v.in_service.rate_positive)

  -- a job that takes nothing has no row
  pass : (i : ℕ) → i < job_count w → take i ≡ 0 → PutBelow i → PutBelow (i + 1)
  pass i l e b = record {
    units = omega (arith, b.units, units-next w p i);
    put = rw (rows-below_next w c.flow t p done give i, row_for-none t c.flow i _ (share-none w p i done give positive fits l e), append-nil) b.put;
  }

  size : length names ≡ length x.parts.now
  size = length-map x.parts.now (λ y. y.job)

  part : q < length x.parts.now → PartAt take (job_count w) names takes q PutBelow
  part l = part_at take (job_count w) names takes (length names) v.parts PutBelow pass k.job q k.job_to k.behind (omega (arith, size)) k.so_far_lem

  -- the units of part q in a slot of the run stand within the slot
  pub units-within : q < length x.parts.now → before + here.take ≤ c.rate
  units-within l =
      let j = part l in
      omega (arith, j.holds.units, j.amount_is, take-in x.parts.now q, v.in_service.rate, units-within-rate w p j.job j.job_in)

  -- what its row asks
  pub row-asked : q < length x.parts.now → at + 384 < 4294967296 →
      (next < 4294967296) × (done % c.rate < c.rate) × (give ≤ c.rate) × (before + here.take ≤ c.rate) × (c.rate ≤ 262144) ×
      (here.take ≤ 4096)
  row-asked l room =
      let j = part l in (
        omega (arith, j.holds.put.offset, slot-rows-few t c.flow (λ i. share w p i done give) j.job, j.job_in, jobs-within v.in_service),
        mod-lt done v.in_service.rate_positive,
        most,
        units-within l,
        rate-within v.in_service,
        omega (arith, j.amount_is, take-in x.parts.now q, take_within v.in_service j.job j.job_in),
      )

  -- its row after those of the parts before it
  pub slot-kept-next : {out'' : List ℕ} {next' : ℕ} → q < length x.parts.now →
      Put out' next (row_for t c.flow here.job (overlaps (done % c.rate) give before here.take c.rate)) out'' next' →
      SlotKept w c.flow t p done give out at out'' next' (before + here.take) (q + 1)
  slot-kept-next {out''} {next'} l row =
      let j = part l in
      let its : Put out' next (row_for t c.flow j.job (share w p j.job done give)) out'' next' =
      rw (← share_is-overlaps w p done give c.rate j.job v.in_service.rate positive fits most j.job_in, ← j.holds.units, ← j.amount_is, ← j.name_is, take-in x.parts.now q, name-in x.parts.now q) row in
      record {
        job = j.job + 1;
        job_to = omega (arith, j.job_in);
        behind = j.one_more;
        so_far_lem = record {
          units = omega (arith, j.holds.units, j.amount_is, take-in x.parts.now q, units-next w p j.job);
          put = rw (rows-below_next w c.flow t p done give j.job) (put-more out out' out'' at next next' _ _ j.holds.put its);
        };
      }

  -- all parts are put
  pub slot-kept-done : length x.parts.now ≤ q → Put out at (job_rows w c.flow t p done give) out' next
  slot-kept-done l =
      rw (← rows-below-all w c.flow t p done give)
      (past-parts take (job_count w) names takes (length names) v.parts PutBelow pass k.job k.job_to (omega (arith, k.behind, size)) k.so_far_lem).put
