-- The pseudo-job that begins at an ideal slot, by a flow's values on endless processors. Assumes nothing.
use mathlib.Core.Path.{◌≡◌, refl, ◌∙◌}
use mathlib.Core.Bool.{Bool, true, false, ◌||◌}
use mathlib.Core.List.{List}
use Prim.Native.Nat.{ℕ, ◌+◌, ◌-◌, ◌≤◌, ◌<◌, min}
use native.Mathlib.Omega.{arith}
use lib.ListN.{length, get_or, set, get_or-map}
use lib.Dec.{ltb, leb, eqb}
use Rattle.std.specs.Prelude.{if◌then◌else◌}
use Rattle.std.proofs.lemmas.List.{length-map, map-set}
use Rattle.std.specs.Int.{from_bool}
use Rattle.rules.specs.Walks.{bit}
use Rattle.rules.specs.Book.{Flow, job_count}
use Rattle.rules.specs.Ideal.{start_of}
use Rattle.chain.specs.declared.IdealJob.{IdealJob}
use Rattle.chain.specs.declared.Part.{Part}
use Rattle.chain.specs.Runs.{take_between, NextChange, RunAt}
use Rattle.chain.specs.Alone.{no_ideal, no_part, names_in, takes_in, ChainOf, EndedTo}
use Rattle.chain.proofs.Cuts.{RunSoFar, ended-so_far, none-begun, one-more-job, all-jobs, take_by-values, change_by-values}
use Rattle.chain.proofs.Alone.{flow-fits-lasts, sized-of, start-in}

-- a job takes no more than the larger of its last take and its cap
pub take-most : (start end last cap most u : ℕ) → last ≤ most → cap ≤ most → take_between start end last cap u ≤ most
unfolding take_between
take-most start end last cap most u l c = go (ltb u start || leb end u) (eqb (u + 1) end)
  where
    go : (a b : Bool) → (if a then 0 else if b then last else cap) ≤ most
    go true _ = omega arith
    go false true = l
    go false false = c

-- .. and is one part at most
pub one-at-most : (b : Bool) → from_bool b ≤ 1
one-at-most true = omega arith
one-at-most false = omega arith

pub from_bool-bit : (b : Bool) → from_bool b ≡ bit b
from_bool-bit true = refl
from_bool-bit false = refl

-- a part's number and take are those of the lists
pub name-in : (parts : List Part) (q : ℕ) → get_or (names_in parts) q 0 ≡ (get_or parts q no_part).job
name-in parts q = get_or-map (λ (p : Part). p.job) parts q no_part

pub take-in : (parts : List Part) (q : ℕ) → get_or (takes_in parts) q 0 ≡ (get_or parts q no_part).take
take-in parts q = get_or-map (λ (p : Part). p.take) parts q no_part

-- what is known when n jobs are counted in, where the parts stand in one list
abbrev pub PartsSoFar : Flow → ℕ → ℕ → ℕ → ℕ → List Part → ℕ → Type 0
PartsSoFar w t n width s parts count = RunSoFar w t n width s (names_in parts) (takes_in parts) count

module _ (w : Flow) (jobs : List IdealJob) (longest : ℕ) (of : ChainOf w jobs longest) (t : ℕ) where
  -- where the jobs below `from` have ended
  pub ended-parts : (from : ℕ) (parts : List Part) → EndedTo jobs from t → t < longest → PartsSoFar w t from (longest - t) 0 parts 0
  ended-parts from parts ended h =
      ended-so_far w t from longest (names_in parts) (takes_in parts) of.path h
      (λ i b. omega (arith, ended.ended i b, ended.within, of.count, (of.each i (omega (arith, ended.within, of.count))).end))

  -- where none of the jobs from i on has begun
  pub none-begun-parts : (i width s first r count : ℕ) (parts : List Part) → i < length jobs → first ≡ (get_or jobs i no_ideal).first → t < first →
      r ≡ min width (first - t) → PartsSoFar w t i width s parts count →
      RunAt w t (names_in parts) (takes_in parts) (record { width = r; rate = s; parts = count })
  none-begun-parts i width s first r count parts h ef begun er so_far =
      let in-flow : i < job_count w = omega (arith, of.count) in
      let least = of.firsts i in-flow in
      let k = least.attained in
      all-jobs w t r s count (names_in parts) (takes_in parts)
      (none-begun w t i width s count first r (names_in parts) (takes_in parts) (sized-of w (flow-fits-lasts w of.fits)) (omega arith) begun
      (λ j a b. omega (arith, least.within j a b, start-in jobs j, (of.each j b).start))
      (k.0, k.1, k.2, omega (arith, k.3, start-in jobs k.0, (of.each k.0 k.2).start))
      er so_far)

  -- with all jobs counted in
  pub all-parts : (i width s count : ℕ) (parts : List Part) → i ≡ length jobs → PartsSoFar w t i width s parts count →
      RunAt w t (names_in parts) (takes_in parts) (record { width = width; rate = s; parts = count })
  all-parts i width s count parts e so_far = all-jobs w t width s count (names_in parts) (takes_in parts) (rw (e ∙ of.count) at so_far)

  -- one turn of the loop
  module _ (i : ℕ) (h : i < length jobs) (j : IdealJob) (ej : j ≡ get_or jobs i no_ideal) where
    pub one-more-part : (width s v r count : ℕ) (parts : List Part) → count < length parts → PartsSoFar w t i width s parts count →
        v ≡ take_between j.start j.end j.last j.cap t → NextChange (take_between j.start j.end j.last j.cap) t width r →
        PartsSoFar w t (i + 1) r (s + v) (set parts count (record { job = i; take = v })) (count + bit (ltb 0 v))
    one-more-part width s v r count parts room so_far ev next =
        let a = of.each i (omega (arith, of.count)) in
        let es : j.start ≡ start_of w i = rw ej a.start in
        rw (map-set (λ (p : Part). p.job) parts count (record { job = i; take = v }), map-set (λ (p : Part). p.take) parts count (record { job = i; take = v }))
        (one-more-job w t i width r s v count (names_in parts) (takes_in parts)
        (rw (length-map parts (λ (p : Part). p.job)) room) (rw (length-map parts (λ (p : Part). p.take)) room) so_far
        (ev ∙ take_by-values w i _ _ _ _ es (rw ej a.end) (rw ej a.last) (rw ej a.cap) t)
        (change_by-values w i _ _ _ _ es (rw ej a.end) (rw ej a.last) (rw ej a.cap) t width r next))
