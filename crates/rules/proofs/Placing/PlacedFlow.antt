-- One flow placed slot by slot, job by job (rules 4 and 5): it keeps to caps, usable slots and precedence, and each job gets its exact size.
-- What is conserved is the units still to come of each job. A predecessor is complete when its successor runs because all pseudo-jobs that are
-- left stand, in ideal slots, at or after its end. Assumes nothing.
use mathlib.Core.Path.{◌≡◌, refl, ap}
use Prim.Native.Nat.{ℕ, zero, suc, ◌+◌, ◌*◌, ◌-◌, ◌≤◌, ◌<◌}
use mathlib.Core.Bool.{Bool, true}
use mathlib.Core.List.{List, [], ◌∷◌}
use native.Mathlib.Nat.{le_trans, mul-zero}
use native.Mathlib.Omega.{arith}
use Rattle.rules.specs.Walks.{sum_to}
use Rattle.rules.specs.Book.{Flow, job_count, job_of, precedes}
use Rattle.rules.specs.Ideal.{start_of, take_of}
use Rattle.rules.specs.PseudoJobs.{PseudoJob, chain, work, sum_over}
use Rattle.rules.specs.Placing.{share, given, after_slot, progress}
use Rattle.rules.proofs.Laws.Sums.{sum-zero, le-sum}
use Rattle.rules.proofs.Chains.Ideal.{Sized, predecessor-ends_by_start, take-within-cap, take_only-from_start, take-from_end}
use Rattle.rules.proofs.Chains.PseudoJobs.{Consecutive, chain_consecutive, chain_live, chain-size}
use Rattle.rules.proofs.Chains.Shares.{share_up_to, share-up_to-nothing, share-whole, share_monotone, share-law, share-within-take, shares_sum}
use Rattle.rules.proofs.Placing.Greedy.{Live, Underway, given_to, given_in, given-le-rest, given-le-rate, given_in-le-free, after-slot, underway}
use Rattle.rules.proofs.Placing.Necessity.{Keeps}

-- ---- a chain on its way: the pseudo-jobs left, and the units done of the first of them
-- what job i gets in a slot
unfoldable pub share_to : Flow → ℕ → List PseudoJob → ℕ → ℕ → ℕ
share_to w i [] done free = 0
share_to w i (p ∷ ps) done free = share w p i done (given w p done free)

-- the units of job i in whole pseudo-jobs, and those still to come
abbrev pub job_units : Flow → ℕ → List PseudoJob → ℕ
job_units w i ps = sum_over (λ p. p.width * take_of w i p.first) ps

unfoldable pub to_come : Flow → ℕ → List PseudoJob → ℕ → ℕ
to_come w i [] done = 0
to_come w i (p ∷ ps) done = p.width * take_of w i p.first - share_up_to w p i done + job_units w i ps

-- the ideal slot at which the chain stands
abbrev pub front : List PseudoJob → ℕ
front [] = 0
front (p ∷ ps) = p.first

front_consecutive : (u : ℕ) (ps : List PseudoJob) → Consecutive u ps → Consecutive (front ps) ps
front_consecutive u [] c = tt
front_consecutive u (p ∷ ps) c = (refl, rw c.0 c.1)

-- a job that takes nothing from ideal slot u on has no units in pseudo-jobs that stand there
no-units : (w : Flow) (i u : ℕ) (ps : List PseudoJob) → Consecutive u ps → ((v : ℕ) → u ≤ v → take_of w i v ≡ 0) → job_units w i ps ≡ 0
unfolding sum_over
no-units w i u [] c z = refl
no-units w i u (p ∷ ps) c z =
    let nil : p.width * take_of w i p.first ≡ 0 = rw (z p.first (omega (arith, c.0)), mul-zero) refl in
    omega (arith, nil, no-units w i (u + p.width) ps c.1 (λ v h. z v (omega arith)))

module _ (w : Flow) where
  after_consecutive : (ps : List PseudoJob) (done free : ℕ) → Underway w ps done → Consecutive (front ps) ps →
      Consecutive (front (after_slot w ps done free).left) (after_slot w ps done free).left
  after_consecutive [] done free u c = unfold after_slot in tt
  after_consecutive (p ∷ ps) done free u c =
      after-slot w (λ qs now. Consecutive (front qs) qs) p ps done free (omega (arith, u.0))
      (λ e. front_consecutive (p.first + p.width) ps c.1) (λ l. c)

  fresh-to_come : (i : ℕ) (ps : List PseudoJob) → Live w ps → to_come w i ps 0 ≡ job_units w i ps
  unfolding to_come sum_over
  fresh-to_come i [] l = refl
  fresh-to_come i (p ∷ ps) l = omega (arith, share-up_to-nothing w p i l.0.0)

  -- job i gets in a slot what it then no longer has to come
  after-to_come : (i : ℕ) → i < job_count w → (ps : List PseudoJob) (done free : ℕ) → Underway w ps done →
      share_to w i ps done free + to_come w i (after_slot w ps done free).left (after_slot w ps done free).done ≡ to_come w i ps done
  after-to_come i b [] done free u = unfold after_slot share_to to_come in refl
  after-to_come i b (p ∷ ps) done free u =
      after-slot w (λ qs now. share_to w i (p ∷ ps) done free + to_come w i qs now ≡ to_come w i (p ∷ ps) done) p ps done free (omega (arith, u.0))
      (λ e. unfold share_to to_come in omega (arith, law, ap (share_up_to w p i) e, share-whole w p i u.1.0.0, fresh-to_come i ps u.1.1))
      (λ l. unfold share_to to_come in omega (arith, law, share_monotone w p i (done + given w p done free) (work w p) u.1.0.0 (omega arith), share-whole w p i u.1.0.0))
    where
      law : share w p i done (given w p done free) + share_up_to w p i done ≡ share_up_to w p i (done + given w p done free)
      law = share-law w p i done (given w p done free) u.1.0.0 (omega (arith, u.0, given-le-rest w p done free)) b

  -- together the jobs get what the flow is given
  shares-given : (ps : List PseudoJob) (done free : ℕ) → Underway w ps done → sum_to (λ i. share_to w i ps done free) (job_count w) ≡ given_to w ps done free
  unfolding share_to given_to
  shares-given [] done free u = sum-zero (job_count w)
  shares-given (p ∷ ps) done free u =
      shares_sum w p done (given w p done free) u.1.0.0 (omega (arith, u.0, given-le-rest w p done free))

  -- no job gets more than its take where the chain stands
  share-within-front : (i : ℕ) → i < job_count w → (ps : List PseudoJob) (done free : ℕ) → Underway w ps done → share_to w i ps done free ≤ take_of w i (front ps)
  unfolding share_to
  share-within-front i b [] done free u = omega arith
  share-within-front i b (p ∷ ps) done free u =
      share-within-take w p i done (given w p done free) u.1.0.0 (omega (arith, u.0, given-le-rest w p done free)) (given-le-rate w p done free) b

  nothing-to_come : (i u : ℕ) (ps : List PseudoJob) (done : ℕ) → Consecutive u ps → ((v : ℕ) → u ≤ v → take_of w i v ≡ 0) → to_come w i ps done ≡ 0
  unfolding to_come
  nothing-to_come i u [] done c z = refl
  nothing-to_come i u (p ∷ ps) done c z =
      let nil : p.width * take_of w i p.first ≡ 0 = rw (z p.first (omega (arith, c.0)), mul-zero) refl in
      omega (arith, nil, no-units w i (u + p.width) ps c.1 (λ v h. z v (omega arith)))

-- ---- the flow placed with free t processors free in slot t
-- what job i gets in slot t
abbrev pub share_in : Flow → (ℕ → ℕ) → ℕ → ℕ → ℕ
share_in w free i t = share_to w i (progress w free t).left (progress w free t).done (free t)

module _ (w : Flow) (free : ℕ → ℕ) (sized : Sized w) where
  on_its_way : (t : ℕ) → Underway w (progress w free t).left (progress w free t).done
  on_its_way t = underway w free (chain_live w sized) t

  abbrev here : ℕ → ℕ
  here t = front (progress w free t).left

  stands : (t : ℕ) → Consecutive (here t) (progress w free t).left
  unfolding progress
  stands zero = front_consecutive 0 (chain w) (chain_consecutive w)
  stands (suc t) = after_consecutive w (progress w free t).left (progress w free t).done (free t) (on_its_way t) (stands t)

  -- what a job has had and has to come is its size
  pub had-and-to_come : (i : ℕ) → i < job_count w → (t : ℕ) →
      sum_to (share_in w free i) t + to_come w i (progress w free t).left (progress w free t).done ≡ (job_of w i).size
  unfolding sum_to progress
  had-and-to_come i b zero = omega (arith, fresh-to_come w i (chain w) (chain_live w sized), chain-size w sized i b)
  had-and-to_come i b (suc t) =
      omega (
        arith,
        had-and-to_come i b t,
        after-to_come w i b (progress w free t).left (progress w free t).done (free t) (on_its_way t),
      )

  -- no job gets more than its size, and each has it when no pseudo-job is left
  pub placed-within-size : (i t : ℕ) → i < job_count w → sum_to (share_in w free i) t ≤ (job_of w i).size
  placed-within-size i t b = omega (arith, had-and-to_come i b t)

  pub placed_exactly : (i t : ℕ) → i < job_count w → (progress w free t).left ≡ [] → sum_to (share_in w free i) t ≡ (job_of w i).size
  placed_exactly i t b e =
      let none : to_come w i (progress w free t).left (progress w free t).done ≡ 0 = rw e (unfold to_come in refl) in
      omega (arith, had-and-to_come i b t)

  -- the jobs of the flow use together what the flow is given
  pub placed-together : (t : ℕ) → sum_to (λ i. share_in w free i t) (job_count w) ≡ given_in w free t
  placed-together t = shares-given w (progress w free t).left (progress w free t).done (free t) (on_its_way t)

  pub placed-within-cap : (i t : ℕ) → i < job_count w → share_in w free i t ≤ (job_of w i).cap
  placed-within-cap i t b =
      le_trans (share-within-front w i b (progress w free t).left (progress w free t).done (free t) (on_its_way t))
      (take-within-cap w i (sized.cap_positive i b) (here t))

  -- a job that runs has each predecessor complete
  pub placed-in_order : (i k t : ℕ) → i < job_count w → k < i → precedes w k i ≡ true → 0 < share_in w free i t → sum_to (share_in w free k) t ≡ (job_of w k).size
  placed-in_order i k t b l e h =
      let started : start_of w i ≤ here t =
      take_only-from_start w i (here t)
      (le_trans h (share-within-front w i b (progress w free t).left (progress w free t).done (free t) (on_its_way t))) in
      let over : to_come w k (progress w free t).left (progress w free t).done ≡ 0 =
      nothing-to_come w k (here t) (progress w free t).left (progress w free t).done (stands t)
      (λ v g. take-from_end w k v (omega (arith, predecessor-ends_by_start w k i l e))) in
      omega (arith, had-and-to_come k (omega arith) t)

  -- no more than is free
  pub placed-within-free : (i t : ℕ) → i < job_count w → share_in w free i t ≤ free t
  placed-within-free i t b =
      omega (
        arith,
        le-sum (λ k. share_in w free k t) (job_count w) i b,
        placed-together t,
        given_in-le-free w free t,
      )

  pub placed-keeps : (usable : ℕ → Bool) → ((t : ℕ) → 0 < free t → usable t ≡ true) → Keeps w usable (share_in w free)
  placed-keeps usable only = record {
    capped = placed-within-cap;
    in_usable = λ i t b h. only t (le_trans h (placed-within-free i t b));
    in_order = λ i k t b l e h. omega (arith, placed-in_order i k t b l e h);
  }
