-- What follows from rule 3: the runs of ideal slots, one step of the walk that finds them, what they weigh together, and how many
-- they are. Everything is shown of `runs`, slot by slot from the front, and then read off for the chain. Assumes nothing.
use mathlib.Core.Path.{◌≡◌, refl, sym, ap, ◌∙◌}
use mathlib.Core.Logic.{◌⊎◌, inl, inr}
use mathlib.Core.Bool.{Bool, true, false, not, not-eq-not}
use mathlib.Core.List.{List, [], ◌∷◌}
use Prim.Native.Nat.{ℕ, zero, suc, ◌+◌, ◌*◌, ◌-◌, ◌≤◌, ◌<◌}
use native.Mathlib.Nat.{add-zero, zero-add, mul-one, not-suc-le-zero, le_of_suc-le-suc}
use native.Mathlib.Omega.{arith}
use lib.ListN.{length}
use lib.Dec.{eqb}
use borrow.Author.Tests.{eqb-true, eqb-false, eq-eqb, ne_eqb}
use Rattle.std.specs.Prelude.{if◌then◌else◌}
use Rattle.rules.specs.Walks.{sum_to, bit, count_to}
use Rattle.rules.specs.Book.{Flow, job_count, job_of}
use Rattle.rules.specs.Ideal.{start_of, end_of, path, take_of}
use Rattle.rules.specs.PseudoJobs.{PseudoJob, unchanged, prepend, runs, chain, rate, work, sum_over}
use Rattle.rules.proofs.Laws.Division.{lt-or_ge}
use Rattle.rules.proofs.Laws.Sums.{sum_ext, sum_first, sum-add, sum_mono, sum_swap, sum_const, sum_lt, le-sum, count_none, count-once}
use Rattle.rules.proofs.Laws.Walks.{all-at, all-not, all_true}
use Rattle.rules.proofs.Chains.Ideal.{Sized, start_is_an_end, path_is_an_end, take-positive, take-changes, take-sum-path}

-- ---- lists of pseudo-jobs
-- all of them have a property
abbrev pub Every : (PseudoJob → Type 0) → List PseudoJob → Type 0
Every Q [] = Unit {0}
Every Q (p ∷ ps) = Q p × Every Q ps

pub every_map : (Q R : PseudoJob → Type 0) → ((p : PseudoJob) → Q p → R p) → (ps : List PseudoJob) → Every Q ps → Every R ps
every_map Q R f [] a = tt
every_map Q R f (p ∷ ps) a = (f p a.0, every_map Q R f ps a.1)

pub every-both : (Q R : PseudoJob → Type 0) (ps : List PseudoJob) → Every Q ps → Every R ps → Every (λ p. Q p × R p) ps
every-both Q R [] a b = tt
every-both Q R (p ∷ ps) a b = ((a.0, b.0), every-both Q R ps a.1 b.1)

pub sum-over_ext : (g h : PseudoJob → ℕ) → ((p : PseudoJob) → g p ≡ h p) → (ps : List PseudoJob) → sum_over g ps ≡ sum_over h ps
unfolding sum_over
sum-over_ext g h e [] = refl
sum-over_ext g h e (p ∷ ps) = omega (arith, e p, sum-over_ext g h e ps)

-- what they weigh: each its width times the weight of its first slot
abbrev pub weigh : (ℕ → ℕ) → List PseudoJob → ℕ
weigh g ps = sum_over (λ p. p.width * g p.first) ps

-- they stand one after the other, from ideal slot u on
abbrev pub Consecutive : ℕ → List PseudoJob → Type 0
Consecutive u [] = Unit {0}
Consecutive u (p ∷ ps) = (p.first ≡ u) × Consecutive (u + p.width) ps

-- it lies within the n slots from u on
abbrev pub Within : ℕ → ℕ → PseudoJob → Type 0
Within u n p = (u ≤ p.first) × (p.first + p.width ≤ u + n)

-- all lie within their widths together
pub consecutive-within : (u : ℕ) (ps : List PseudoJob) → Consecutive u ps → Every (Within u (sum_over (λ p. p.width) ps)) ps
unfolding sum_over
consecutive-within u [] c = tt
consecutive-within u (p ∷ ps) c = (
  (omega (arith, c.0), omega (arith, c.0)),
  every_map (Within (u + p.width) (sum_over (λ p. p.width) ps)) (Within u (p.width + sum_over (λ p. p.width) ps))
      (λ q h. (omega (arith, h.0), omega (arith, h.1))) ps (consecutive-within (u + p.width) ps c.1),
)

-- the later ones stand at later ideal slots
pub consecutive-later : (u : ℕ) (p : PseudoJob) (ps : List PseudoJob) → Consecutive u (p ∷ ps) → Every (λ q. p.first + p.width ≤ q.first) ps
consecutive-later u p ps c =
    every_map (Within (u + p.width) (sum_over (λ q. q.width) ps)) (λ q. p.first + p.width ≤ q.first) (λ q h. omega (arith, c.0, h.0)) ps
    (consecutive-within (u + p.width) ps c.1)

-- a run of slots with the same takes
pub record Run (w : Flow) (p : PseudoJob) : Type 0 where
  pub width_positive : 0 < p.width
  pub unchanged_within : (j : ℕ) → j + 1 < p.width → unchanged w (p.first + j) ≡ true

-- runs that cannot be longer: where one ends and another follows, a take changes
abbrev pub Maximal : Flow → List PseudoJob → Type 0
Maximal w [] = Unit {0}
Maximal w (p ∷ []) = Unit {0}
Maximal w (p ∷ q ∷ ps) = ((u : ℕ) → u + 1 ≡ p.first + p.width → unchanged w u ≡ false) × Maximal w (q ∷ ps)

-- a sum from slot u on, its first slot split off
sum-from : (g : ℕ → ℕ) (u n : ℕ) → sum_to (λ t. g (u + t)) (suc n) ≡ g u + sum_to (λ t. g (u + 1 + t)) n
sum-from g u n =
    let one : g (u + 0) ≡ g u = ap g (add-zero u) in
    let shift : sum_to (λ t. g (u + 1 + t)) n ≡ sum_to (λ t. g (u + suc t)) n =
    sum_ext (λ t. g (u + 1 + t)) (λ t. g (u + suc t)) n (λ t l. ap g (omega arith)) in
    omega (arith, sum_first (λ t. g (u + t)) n)

module _ (w : Flow) where
  -- ---- one slot before the runs
  prepend-new : (u : ℕ) (ps : List PseudoJob) → unchanged w u ≡ false → prepend w u ps ≡ record { first = u; width = 1 } ∷ ps
  unfolding prepend
  prepend-new u [] e = refl
  prepend-new u (p ∷ ps) e = rw e

  prepend-longer : (u : ℕ) (p : PseudoJob) (ps : List PseudoJob) → unchanged w u ≡ true →
      prepend w u (p ∷ ps) ≡ record { first = u; width = p.width + 1 } ∷ ps
  unfolding prepend
  prepend-longer u p ps e = rw e

  -- the run of m + 1 slots from u: each slot but the last is unchanged to the next, and the slots end there or the next differs
  pub run_step : (m n u : ℕ) → m < n → ((j : ℕ) → j < m → unchanged w (u + j) ≡ true) → ((suc m ≡ n → ⊥) → unchanged w (u + m) ≡ false) →
      runs w n u ≡ record { first = u; width = m + 1 } ∷ runs w (n - suc m) (u + suc m)
  unfolding runs prepend
  run_step m zero u h c l = absurd (not-suc-le-zero h)
  run_step zero (suc zero) u h c l = refl
  run_step zero (suc (suc n)) u h c l =
      let b : suc (suc n) - 1 ≡ suc n = omega arith in
      rw b (prepend-new u (runs w (suc n) (u + 1)) (rw add-zero at (l (λ q. omega arith))))
  run_step (suc m) (suc n) u h c l =
      let a : u + 1 + suc m ≡ u + suc (suc m) = omega arith in
      let b : suc n - suc (suc m) ≡ n - suc m = omega arith in
      let d : suc m + 1 ≡ m + 1 + 1 = omega arith in
      let ih : runs w n (u + 1) ≡ record { first = u + 1; width = m + 1 } ∷ runs w (n - suc m) (u + 1 + suc m) =
      run_step m n (u + 1) (le_of_suc-le-suc h)
      (λ j k. let g : u + 1 + j ≡ u + suc j = omega arith in rw g (c (suc j) (omega arith)))
      (λ q. let g : u + 1 + m ≡ u + suc m = omega arith in rw g (l (λ z. q (omega arith)))) in
      rw (ih, b, d, a) (prepend-longer u _ _ (rw add-zero at (c 0 (omega arith))))

  -- ---- what the runs are
  prepend_consecutive : (u : ℕ) (ps : List PseudoJob) → Consecutive (u + 1) ps → Consecutive u (prepend w u ps)
  unfolding prepend
  prepend_consecutive u [] c = (refl, tt)
  prepend_consecutive u (p ∷ ps) c = go (unchanged w u)
    where
      go : (b : Bool) → Consecutive u (if b then record { first = u; width = p.width + 1 } ∷ ps else record { first = u; width = 1 } ∷ p ∷ ps)
      go true = let q : u + (p.width + 1) ≡ u + 1 + p.width = omega arith in (refl, rw q c.1)
      go false = (refl, c)

  pub runs_consecutive : (n u : ℕ) → Consecutive u (runs w n u)
  unfolding runs
  runs_consecutive zero u = tt
  runs_consecutive (suc n) u = prepend_consecutive u (runs w n (u + 1)) (runs_consecutive n (u + 1))

  single : (u : ℕ) → Run w (record { first = u; width = 1 })
  single u = record { width_positive = omega arith; unchanged_within = λ j l. absurd (omega arith) }

  longer : (u : ℕ) (p : PseudoJob) → p.first ≡ u + 1 → unchanged w u ≡ true → Run w p → Run w (record { first = u; width = p.width + 1 })
  longer u p q e r = record { width_positive = omega arith; unchanged_within = within }
    where
      within : (j : ℕ) → j + 1 < p.width + 1 → unchanged w (u + j) ≡ true
      within zero l = ap (unchanged w) (add-zero u) ∙ e
      within (suc j) l =
          let at : u + suc j ≡ p.first + j = omega arith in
          ap (unchanged w) at ∙ r.unchanged_within j (omega arith)

  prepend-run : (u : ℕ) (ps : List PseudoJob) → Consecutive (u + 1) ps → Every (Run w) ps → Every (Run w) (prepend w u ps)
  unfolding prepend
  prepend-run u [] c r = (single u, tt)
  prepend-run u (p ∷ ps) c r = go (unchanged w u) refl
    where
      go : (b : Bool) → unchanged w u ≡ b →
          Every (Run w) (if b then record { first = u; width = p.width + 1 } ∷ ps else record { first = u; width = 1 } ∷ p ∷ ps)
      go true e = (longer u p c.0 e r.0, r.1)
      go false e = (single u, r)

  -- within a run every take is unchanged from slot to slot
  pub runs-unchanged : (n u : ℕ) → Every (Run w) (runs w n u)
  unfolding runs
  runs-unchanged zero u = tt
  runs-unchanged (suc n) u = prepend-run u (runs w n (u + 1)) (runs_consecutive n (u + 1)) (runs-unchanged n (u + 1))

  prepend_maximal : (u : ℕ) (ps : List PseudoJob) → Consecutive (u + 1) ps → Maximal w ps → Maximal w (prepend w u ps)
  unfolding prepend
  prepend_maximal u [] c m = tt
  prepend_maximal u (p ∷ ps) c m = go (unchanged w u) refl ps m
    where
      go : (b : Bool) → unchanged w u ≡ b → (ps : List PseudoJob) → Maximal w (p ∷ ps) →
          Maximal w (if b then record { first = u; width = p.width + 1 } ∷ ps else record { first = u; width = 1 } ∷ p ∷ ps)
      go true e [] m = tt
      go true e (q ∷ qs) m = (λ t h. m.0 t (omega (arith, c.0)), m.1)
      go false e ps m = (λ t h. let z : t ≡ u = omega arith in ap (unchanged w) z ∙ e, m)

  -- adjacent runs differ
  pub runs_maximal : (n u : ℕ) → Maximal w (runs w n u)
  unfolding runs
  runs_maximal zero u = tt
  runs_maximal (suc n) u = prepend_maximal u (runs w n (u + 1)) (runs_consecutive n (u + 1)) (runs_maximal n (u + 1))

  prepend-length : (u : ℕ) (ps : List PseudoJob) → 0 < length ps → length (prepend w u ps) ≡ length ps + bit (not (unchanged w u))
  unfolding prepend
  prepend-length u [] h = absurd (omega arith)
  prepend-length u (p ∷ ps) h = go (unchanged w u)
    where
      go : (b : Bool) → length (if b then record { first = u; width = p.width + 1 } ∷ ps else record { first = u; width = 1 } ∷ p ∷ ps) ≡
          suc (length ps) + bit (not b)
      go true = omega arith
      go false = omega arith

  -- the runs are one more than the changes
  pub runs-length : (n u : ℕ) → length (runs w (suc n) u) ≡ suc (count_to (λ t. not (unchanged w (u + t))) n)
  unfolding runs prepend sum_to
  runs-length zero u = refl
  runs-length (suc n) u =
      let ih : length (runs w (suc n) (u + 1)) ≡ suc (count_to (λ t. not (unchanged w (u + 1 + t))) n) = runs-length n (u + 1) in
      omega (arith, prepend-length u (runs w (suc n) (u + 1)) (omega (arith, ih)), ih, sum-from (λ t. bit (not (unchanged w t))) u n)

  -- ---- takes along a run
  pub unchanged-take : (i u : ℕ) → i < job_count w → unchanged w u ≡ true → take_of w i u ≡ take_of w i (u + 1)
  unfolding unchanged
  unchanged-take i u l e =
      eqb-true (take_of w i u) (take_of w i (u + 1)) (all-at (λ k. eqb (take_of w k u) (take_of w k (u + 1))) (job_count w) e i l)

  pub unchanged_where-all_are : (u : ℕ) → ((i : ℕ) → i < job_count w → take_of w i u ≡ take_of w i (u + 1)) → unchanged w u ≡ true
  unfolding unchanged
  unchanged_where-all_are u h =
      all_true (λ i. eqb (take_of w i u) (take_of w i (u + 1))) (job_count w) (λ i l. eq-eqb (take_of w i u) (take_of w i (u + 1)) (h i l))

  pub changed_where-one_is : (i u : ℕ) → i < job_count w → (take_of w i u ≡ take_of w i (u + 1) → ⊥) → unchanged w u ≡ false
  changed_where-one_is i u l ne = (not-eq-not {b = false}).0 (λ e. ne (unchanged-take i u l e))

  -- at every slot of a run the takes are those at its first
  pub take_along-run : (p : PseudoJob) → Run w p → (i j : ℕ) → i < job_count w → j < p.width → take_of w i (p.first + j) ≡ take_of w i p.first
  take_along-run p r i zero l h = ap (take_of w i) (add-zero p.first)
  take_along-run p r i (suc j) l h =
      let q : p.first + suc j ≡ p.first + j + 1 = omega arith in
      ap (take_of w i) q ∙
      (sym (unchanged-take i (p.first + j) l (r.unchanged_within j (omega arith))) ∙ take_along-run p r i j l (omega arith))

  -- what the flow takes in an ideal slot
  abbrev pub slot_rate : ℕ → ℕ
  slot_rate u = sum_to (λ i. take_of w i u) (job_count w)

  unchanged-rate : (u : ℕ) → unchanged w u ≡ true → slot_rate u ≡ slot_rate (u + 1)
  unchanged-rate u e = sum_ext (λ i. take_of w i u) (λ i. take_of w i (u + 1)) (job_count w) (λ i l. unchanged-take i u l e)

  -- ---- what the runs weigh
  prepend-weigh : (g : ℕ → ℕ) (u : ℕ) (ps : List PseudoJob) → Consecutive (u + 1) ps → (unchanged w u ≡ true → g u ≡ g (u + 1)) →
      weigh g (prepend w u ps) ≡ g u + weigh g ps
  unfolding prepend sum_over
  prepend-weigh g u [] c steady = omega arith
  prepend-weigh g u (p ∷ ps) c steady = go (unchanged w u) refl
    where
      go : (b : Bool) → unchanged w u ≡ b →
          weigh g (if b then record { first = u; width = p.width + 1 } ∷ ps else record { first = u; width = 1 } ∷ p ∷ ps) ≡
          g u + (p.width * g p.first + weigh g ps)
      go true e = rw (c.0, ← steady e) (omega arith)
      go false e = omega arith

  -- a weight that changes only where a take does weighs the runs as their slots
  pub runs-weigh : (g : ℕ → ℕ) → ((u : ℕ) → unchanged w u ≡ true → g u ≡ g (u + 1)) → (n u : ℕ) → weigh g (runs w n u) ≡ sum_to (λ t. g (u + t)) n
  unfolding runs sum_over sum_to
  runs-weigh g steady zero u = refl
  runs-weigh g steady (suc n) u =
      omega (
        arith,
        prepend-weigh g u (runs w n (u + 1)) (runs_consecutive n (u + 1)) (steady u),
        runs-weigh g steady n (u + 1),
        sum-from g u n,
      )

  pub chain-weigh : (g : ℕ → ℕ) → ((u : ℕ) → unchanged w u ≡ true → g u ≡ g (u + 1)) → weigh g (chain w) ≡ sum_to g (path w)
  unfolding chain
  chain-weigh g steady =
      runs-weigh g steady (path w) 0 ∙ sum_ext (λ t. g (0 + t)) g (path w) (λ t l. ap g (zero-add t))

  -- ---- the chain
  pub chain_consecutive : Consecutive 0 (chain w)
  unfolding chain
  chain_consecutive = runs_consecutive (path w) 0

  pub chain-unchanged : Every (Run w) (chain w)
  unfolding chain
  chain-unchanged = runs-unchanged (path w) 0

  pub chain_maximal : Maximal w (chain w)
  unfolding chain
  chain_maximal = runs_maximal (path w) 0

  -- the widths are the path
  pub chain_widths : sum_over (λ p. p.width) (chain w) ≡ path w
  chain_widths =
      omega (
        arith,
        sum-over_ext (λ p. p.width) (λ p. p.width * 1) (λ p. sym (mul-one p.width)) (chain w),
        chain-weigh (λ u. 1) (λ u e. refl),
        sum_const 1 (path w),
      )

  -- every run lies before the end of the path
  pub chain-within-path : Every (Within 0 (path w)) (chain w)
  chain-within-path = rw chain_widths at (consecutive-within 0 (chain w) chain_consecutive)

  module _ (sized : Sized w) where
    -- in each slot before the end of a job some job takes something: the job itself, or before its start one of its predecessors
    busy-before_end : (m i : ℕ) → i < m → i < job_count w → (u : ℕ) → u < end_of w i → 0 < slot_rate u
    busy-before_end zero i b l u h = absurd (not-suc-le-zero b)
    busy-before_end (suc m) i b l u h = go (lt-or_ge u (start_of w i)) (busy-before_end m)
      where
        go : (u < start_of w i) ⊎ (start_of w i ≤ u) → ((k : ℕ) → k < m → k < job_count w → (t : ℕ) → t < end_of w k → 0 < slot_rate t) → 0 < slot_rate u
        go (inl e) ih = let k = start_is_an_end w i (omega arith) in ih k.0 (omega (arith, k.1)) (omega (arith, k.1)) u (omega (arith, k.3))
        go (inr e) ih = omega (arith, le-sum (λ k. take_of w k u) (job_count w) i l, take-positive w i (sized.cap_positive i l) u e h)

    -- every ideal slot before the end of the path has a rate
    pub slot-rate-positive : (u : ℕ) → u < path w → 0 < slot_rate u
    slot-rate-positive u h =
        let k = path_is_an_end w (omega arith) in
        busy-before_end (job_count w) k.0 k.1 k.1 u (omega (arith, k.2))

    -- every pseudo-job has a rate and a width
    pub chain_live : Every (λ p. (0 < rate w p) × (0 < p.width)) (chain w)
    unfolding rate
    chain_live =
        every_map (λ p. Within 0 (path w) p × Run w p) (λ p. (0 < rate w p) × (0 < p.width))
        (λ p h. (slot-rate-positive p.first (omega (arith, h.0.1, h.1.width_positive)), h.1.width_positive)) (chain w)
        (every-both (Within 0 (path w)) (Run w) (chain w) chain-within-path chain-unchanged)

    -- a job has its size in the runs
    pub chain-size : (i : ℕ) → i < job_count w → sum_over (λ p. p.width * take_of w i p.first) (chain w) ≡ (job_of w i).size
    chain-size i l = chain-weigh (take_of w i) (λ u e. unchanged-take i u l e) ∙ take-sum-path w sized i l

    -- the works are the sizes of all jobs
    pub chain-works : sum_over (work w) (chain w) ≡ sum_to (λ i. (job_of w i).size) (job_count w)
    unfolding work rate
    chain-works =
        chain-weigh slot_rate unchanged-rate ∙
        (sum_swap (λ u i. take_of w i u) (path w) (job_count w) ∙
        sum_ext (λ i. sum_to (take_of w i) (path w)) (λ i. (job_of w i).size) (job_count w) (take-sum-path w sized))

    -- ---- at most two pseudo-jobs for each job: each cut is an end or stands one slot before an end
    -- where a take changes, a job ends, or ends one slot later
    change-at_end : (u : ℕ) → unchanged w u ≡ false → (k : ℕ) × (k < job_count w) × ((u + 1 ≡ end_of w k) ⊎ (u + 2 ≡ end_of w k))
    unfolding unchanged
    change-at_end u e = at (all-not (λ i. eqb (take_of w i u) (take_of w i (u + 1))) (job_count w) e)
      where
        go : (i : ℕ) → i < job_count w → (u + 1 ≡ start_of w i) ⊎ ((u + 1 ≡ end_of w i) ⊎ (u + 2 ≡ end_of w i)) →
            (k : ℕ) × (k < job_count w) × ((u + 1 ≡ end_of w k) ⊎ (u + 2 ≡ end_of w k))
        go i l (inl s) = let k = start_is_an_end w i (omega arith) in (k.0, omega (arith, k.1), inl (omega (arith, k.3)))
        go i l (inr q) = (i, l, q)

        at : (i : ℕ) × (i < job_count w) × (eqb (take_of w i u) (take_of w i (u + 1)) ≡ false) →
            (k : ℕ) × (k < job_count w) × ((u + 1 ≡ end_of w k) ⊎ (u + 2 ≡ end_of w k))
        at i = go i.0 i.1 (take-changes w i.0 (sized.cap_positive i.0 i.1) u (eqb-false (take_of w i.0 u) (take_of w i.0 (u + 1)) i.2))

    -- how often job k ends with slot u, or one slot later
    endings : ℕ → ℕ → ℕ
    endings u k = bit (eqb (u + 1) (end_of w k)) + bit (eqb (u + 2) (end_of w k))

    change_has-ending : (u : ℕ) → bit (not (unchanged w u)) ≤ sum_to (endings u) (job_count w)
    unfolding endings
    change_has-ending u = go (unchanged w u) refl
      where
        at : (k : ℕ) → (u + 1 ≡ end_of w k) ⊎ (u + 2 ≡ end_of w k) → 1 ≤ endings u k
        at k (inl e) = omega (arith, ap bit (eq-eqb (u + 1) (end_of w k) e))
        at k (inr e) = omega (arith, ap bit (eq-eqb (u + 2) (end_of w k) e))

        go : (b : Bool) → unchanged w u ≡ b → bit (not b) ≤ sum_to (endings u) (job_count w)
        go true e = omega arith
        go false e = let k = change-at_end u e in omega (arith, at k.0 k.2, le-sum (endings u) (job_count w) k.0 k.1)

    ends-once : (d n k : ℕ) → count_to (λ u. eqb (u + d) (end_of w k)) n ≤ 1
    ends-once d n k =
        count-once (λ u. eqb (u + d) (end_of w k)) n (λ u v p q. omega (arith, eqb-true (u + d) (end_of w k) p, eqb-true (v + d) (end_of w k) q))

    endings-at_most_two : (n k : ℕ) → sum_to (λ u. endings u k) n ≤ 2
    unfolding endings
    endings-at_most_two n k =
        omega (arith, sum-add (λ u. bit (eqb (u + 1) (end_of w k))) (λ u. bit (eqb (u + 2) (end_of w k))) n, ends-once 1 n k, ends-once 2 n k)

    -- the job that ends last does not end with a slot before the last
    endings_of-last : (n k : ℕ) → end_of w k ≡ suc n → sum_to (λ u. endings u k) n < 2
    unfolding endings
    endings_of-last n k e =
        omega (
          arith,
          sum-add (λ u. bit (eqb (u + 1) (end_of w k))) (λ u. bit (eqb (u + 2) (end_of w k))) n,
          count_none (λ u. eqb (u + 1) (end_of w k)) n (λ u l. ne_eqb (u + 1) (end_of w k) (λ (q : u + 1 ≡ end_of w k). omega arith)),
          ends-once 2 n k,
        )

    changes-below : (n : ℕ) → path w ≡ suc n → count_to (λ u. not (unchanged w u)) n < 2 * job_count w
    changes-below n e =
        let k = path_is_an_end w (omega arith) in
        omega (
          arith,
          sum_mono (λ u. bit (not (unchanged w u))) (λ u. sum_to (endings u) (job_count w)) n (λ u l. change_has-ending u),
          sum_swap endings n (job_count w),
          sum_lt (λ i. sum_to (λ u. endings u i) n) 2 (job_count w) k.0 (λ i l. endings-at_most_two n i) k.1
              (endings_of-last n k.0 (omega (arith, k.2))),
        )

    -- "A flow of n jobs has at most 2 × n of them"
    pub chain_length : length (chain w) ≤ 2 * job_count w
    unfolding chain runs
    chain_length = go (path w) refl
      where
        go : (n : ℕ) → path w ≡ n → length (runs w n 0) ≤ 2 * job_count w
        go zero e = omega arith
        go (suc n) e =
            omega (
              arith,
              runs-length n 0,
              changes-below n e,
              sum_ext (λ u. bit (not (unchanged w (0 + u)))) (λ u. bit (not (unchanged w u))) n (λ u l. ap (λ (t : ℕ). bit (not (unchanged w t))) (zero-add u)),
            )
