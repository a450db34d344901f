-- What any schedule needs, whoever made it: as many usable slots as the critical path, and as many processor-slots as the work.
-- Path: by induction on the job number, a job that has its size in the slots before t ends, on endless processors, within the usable slots
-- before t. Area: the work of flows that all end by D was given in the slots before D, at most P in each. Assumes nothing.
use mathlib.Core.Path.{◌≡◌, refl, sym, ◌∙◌}
use Prim.Native.Nat.{ℕ, zero, suc, ◌+◌, ◌*◌, ◌-◌, ◌≤◌, ◌<◌}
use mathlib.Core.Bool.{Bool, true, false, false≢true}
use mathlib.Core.Logic.{◌⊎◌, inl, inr}
use native.Mathlib.Nat.{mul-le-mul_right, not-suc-le-zero, le_trans}
use native.Mathlib.Omega.{arith}
use Rattle.rules.specs.Walks.{sum_to, bit, count_to}
use Rattle.rules.specs.Book.{Flow, job_count, job_of, precedes}
use Rattle.rules.specs.Ideal.{start_of, end_of, path}
use Rattle.rules.proofs.Laws.Division.{lt-or_ge}
use Rattle.rules.proofs.Laws.Sums.{sum_mono, sum_up, sum_swap, sum_ext, sum_scale, sum_const}
use Rattle.rules.proofs.Laws.Walks.{max_least}
use Rattle.rules.proofs.Chains.Ideal.{Sized, end_is_start_plus-duration, start_is_an_end, duration_is-least, duration-positive}

-- ---- schedules of one flow: σ i t processors for job i in slot t
-- it keeps to the caps, to the usable slots and to the order of the jobs
pub record Keeps (w : Flow) (usable : ℕ → Bool) (σ : ℕ → ℕ → ℕ) : Type 0 where
  pub capped : (i t : ℕ) → i < job_count w → σ i t ≤ (job_of w i).cap
  pub in_usable : (i t : ℕ) → i < job_count w → 0 < σ i t → usable t ≡ true
  pub in_order : (i k t : ℕ) → i < job_count w → k < i → precedes w k i ≡ true → 0 < σ i t → (job_of w k).size ≤ sum_to (σ k) t

-- each job has its size in the slots before t
abbrev pub CompleteBy : Flow → (ℕ → ℕ → ℕ) → ℕ → Type 0
CompleteBy w σ t = (i : ℕ) → i < job_count w → (job_of w i).size ≤ sum_to (σ i) t

-- the work of a flow: the sizes of its jobs
unfoldable pub flow_work : Flow → ℕ
flow_work w = sum_to (λ i. (job_of w i).size) (job_count w)

-- ---- path
one-slot-more : (a x y c g : ℕ) → a ≤ x * c → g ≤ c → suc x ≤ y → a + g ≤ y * c
one-slot-more a x y c g h l s = omega (arith, mul-le-mul_right c s)

-- what a job of cap c gets, if it runs only in usable slots that have s usable slots before them
late_start : (usable : ℕ → Bool) (τ : ℕ → ℕ) (c s : ℕ) → ((u : ℕ) → τ u ≤ c) →
    ((u : ℕ) → 0 < τ u → (usable u ≡ true) × (s ≤ count_to usable u)) → (t : ℕ) → sum_to τ t ≤ (count_to usable t - s) * c
unfolding sum_to
late_start usable τ c s cap from zero = omega arith
late_start usable τ c s cap from (suc t) = go (lt-or_ge 0 (τ t)) (late_start usable τ c s cap from t)
  where
    go : (0 < τ t) ⊎ (τ t ≤ 0) → sum_to τ t ≤ (count_to usable t - s) * c → sum_to τ t + τ t ≤ (count_to usable t + bit (usable t) - s) * c
    go (inl pos) ih =
        rw (from t pos).0
        (one-slot-more (sum_to τ t) (count_to usable t - s) (count_to usable t + 1 - s) c (τ t) ih (cap t) (omega (arith, (from t pos).1)))
    go (inr z) ih =
        omega (arith, mul-le-mul_right {m = count_to usable t - s} {n = count_to usable t + bit (usable t) - s} c (omega arith))

module _ (w : Flow) (sized : Sized w) (usable : ℕ → Bool) (σ : ℕ → ℕ → ℕ) (keeps : Keeps w usable σ) where
  -- a start within what the ends of the predecessors are within
  start-within : (i b : ℕ) → ((k : ℕ) → k < i → precedes w k i ≡ true → end_of w k ≤ b) → start_of w i ≤ b
  start-within i b h = go (lt-or_ge 0 (start_of w i))
    where
      go : (0 < start_of w i) ⊎ (start_of w i ≤ 0) → start_of w i ≤ b
      go (inl l) = let s = start_is_an_end w i l in omega (arith, h s.0 s.1 s.2, s.3)
      go (inr l) = omega arith

  ends-below : (m i : ℕ) → i < m → i < job_count w → (t : ℕ) → (job_of w i).size ≤ sum_to (σ i) t → end_of w i ≤ count_to usable t
  ends-below zero i l b t h = absurd (not-suc-le-zero l)
  ends-below (suc m) i l b t h =
      let from : (u : ℕ) → 0 < σ i u → (usable u ≡ true) × (start_of w i ≤ count_to usable u) =
      λ u p. (
        keeps.in_usable i u b p,
        start-within i (count_to usable u) (λ k kl e. ends-below m k (omega arith) (omega arith) u (keeps.in_order i k u b kl e p)),
      ) in
      omega (
        arith,
        end_is_start_plus-duration w i,
        duration-positive (job_of w i) (sized.cap_positive i b) (sized.size_positive i b),
        duration_is-least (job_of w i) (sized.cap_positive i b) (count_to usable t - start_of w i)
            (le_trans h (late_start usable (σ i) (job_of w i).cap (start_of w i) (λ u. keeps.capped i u b) from t)),
      )

  -- a job that has its size in the slots before t ends, on endless processors, within the usable slots before t
  pub end_necessary : (i : ℕ) → i < job_count w → (t : ℕ) → (job_of w i).size ≤ sum_to (σ i) t → end_of w i ≤ count_to usable t
  end_necessary i b t h = ends-below (suc i) i (omega arith) b t h

  -- a flow that is complete by slot t had its path of usable slots
  pub path_necessary : (t : ℕ) → CompleteBy w σ t → path w ≤ count_to usable t
  unfolding path
  path_necessary t h = max_least (end_of w) (job_count w) (count_to usable t) (λ i l. end_necessary i l t (h i l))

-- ---- area
-- the work of the first m flows of a sequence
abbrev pub works_up_to : (ℕ → Flow) → ℕ → ℕ
works_up_to φ m = sum_to (λ n. flow_work (φ n)) m

-- a schedule of the first m flows of a sequence on P processors, σ n i t for job i of the n-th in slot t, keeps the rules and ends each by its
-- deadline; the n-th may use the slots `usable n`
pub record OnTime (P m : ℕ) (φ : ℕ → Flow) (usable : ℕ → ℕ → Bool) (deadline : ℕ → ℕ) (σ : ℕ → ℕ → ℕ → ℕ) : Type 0 where
  pub keeps : (n : ℕ) → n < m → Keeps (φ n) (usable n) (σ n)
  pub load : (t : ℕ) → sum_to (λ n. sum_to (λ i. σ n i t) (job_count (φ n))) m ≤ P
  pub complete : (n : ℕ) → n < m → CompleteBy (φ n) (σ n) (deadline n)

module _ (P m : ℕ) (φ : ℕ → Flow) (usable : ℕ → ℕ → Bool) (deadline : ℕ → ℕ) (σ : ℕ → ℕ → ℕ → ℕ) (on : OnTime P m φ usable deadline σ) where
  used : ℕ → ℕ
  used t = sum_to (λ n. sum_to (λ i. σ n i t) (job_count (φ n))) m

  -- slots that are open to some flow
  module _ (opened : ℕ → Bool) (inside : (n t : ℕ) → n < m → usable n t ≡ true → opened t ≡ true) where
    used_when_open : (t : ℕ) → used t ≤ P * bit (opened t)
    unfolding used
    used_when_open t = go (opened t) refl
      where
        shut : opened t ≡ false → (n : ℕ) → n < m → (i : ℕ) → i < job_count (φ n) → σ n i t ≤ 0
        shut e n l i b = none (lt-or_ge 0 (σ n i t))
          where
            none : (0 < σ n i t) ⊎ (σ n i t ≤ 0) → σ n i t ≤ 0
            none (inl p) = absurd (false≢true (sym e ∙ inside n t l ((on.keeps n l).in_usable i t b p)))
            none (inr z) = z

        go : (c : Bool) → opened t ≡ c → used t ≤ P * bit c
        go true e = omega (arith, on.load t)
        go false e =
            omega (
              arith,
              sum_mono (λ n. sum_to (λ i. σ n i t) (job_count (φ n))) (λ n. 0) m
                  (λ n l. omega (arith, sum_mono (λ i. σ n i t) (λ i. 0) (job_count (φ n)) (shut e n l), sum_const 0 (job_count (φ n)))),
              sum_const 0 m,
            )

    -- flows that all end by D have their work in P processors over the open slots before D
    pub area_necessary : (D : ℕ) → ((n : ℕ) → n < m → deadline n ≤ D) → works_up_to φ m ≤ P * count_to opened D
    unfolding used flow_work
    area_necessary D by =
        let each : works_up_to φ m ≤ sum_to (λ n. sum_to (λ i. sum_to (λ t. σ n i t) D) (job_count (φ n))) m =
        sum_mono (λ n. flow_work (φ n)) (λ n. sum_to (λ i. sum_to (λ t. σ n i t) D) (job_count (φ n))) m
        (λ n l. sum_mono (λ i. (job_of (φ n) i).size) (λ i. sum_to (λ t. σ n i t) D) (job_count (φ n))
        (λ i b. le_trans (on.complete n l i b) (sum_up (σ n i) (by n l)))) in
        let inner : sum_to (λ n. sum_to (λ i. sum_to (λ t. σ n i t) D) (job_count (φ n))) m ≡ sum_to (λ n. sum_to (λ t. sum_to (λ i. σ n i t) (job_count (φ n))) D) m =
        sum_ext _ _ m (λ n l. sum_swap (σ n) (job_count (φ n)) D) in
        let outer : sum_to (λ n. sum_to (λ t. sum_to (λ i. σ n i t) (job_count (φ n))) D) m ≡ sum_to used D =
        sum_swap (λ n t. sum_to (λ i. σ n i t) (job_count (φ n))) m D in
        omega (arith, each, inner, outer, sum_mono used (λ t. P * bit (opened t)) D (λ t l. used_when_open t), sum_scale P (λ t. bit (opened t)) D)
