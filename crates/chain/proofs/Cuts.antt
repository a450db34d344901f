-- The next cut: the least of the slots for which the jobs' takes stay is the width of the first run. The jobs are
-- counted in one after another; a run is as wide as all of them allow, and where it ends before the path one of them
-- changes. Assumes nothing.
use mathlib.Core.Path.{◌≡◌, refl, sym, ap, ◌∙◌}
use mathlib.Core.Logic.{◌⊎◌, inl, inr}
use mathlib.Core.Bool.{true, false}
use mathlib.Core.List.{List, [], ◌∷◌}
use Prim.Native.Nat.{ℕ, zero, suc, ◌+◌, ◌*◌, ◌-◌, ◌≤◌, ◌<◌, min}
use native.Mathlib.Numerals.{add-one}
use native.Mathlib.Omega.{arith}
use lib.ListN.{length, set}
use lib.Dec.{ltb}
use borrow.Author.Tests.{lt-ltb, le-ltb}
use Rattle.std.specs.Prelude.{if◌then◌else◌}
use Rattle.rules.specs.Walks.{bit, sum_to}
use Rattle.rules.specs.Book.{Flow, job_count, job_of}
use Rattle.rules.specs.Ideal.{last_take, start_of, end_of, path, take_of}
use Rattle.rules.specs.PseudoJobs.{unchanged, runs, chain, rate}
use Rattle.rules.proofs.Laws.Division.{lt-or_ge}
use Rattle.rules.proofs.Laws.Walks.{last_or}
use Rattle.rules.proofs.Laws.Sums.{sum-nothing}
use Rattle.rules.proofs.Chains.Ideal.{Sized, duration-positive, end_is_start_plus-duration, take-before_start, take-from_end, take-positive}
use Rattle.rules.proofs.Chains.PseudoJobs.{unchanged_where-all_are, changed_where-one_is, run_step, chain_length}
use Rattle.chain.specs.declared.Run.{Run}
use Rattle.chain.specs.Runs.{take_between, NextChange, FirstRun, PartsOf, RunAt, walk}
use Rattle.chain.proofs.Parts.{sum-stays, parts-few, parts_of-none, parts_of-next, parts_of-rest}

-- ---- one job, by its values
module _ (w : Flow) (i start end last cap : ℕ) (es : start ≡ start_of w i) (ee : end ≡ end_of w i) (el : last ≡ last_take (job_of w i)) (ec : cap ≡ (job_of w i).cap) where
  -- the take is that of the rules
  pub take_by-values : (u : ℕ) → take_between start end last cap u ≡ take_of w i u
  unfolding take_between take_of
  take_by-values u = rw (es, ee, el, ec) refl

  -- and so is its next change
  pub change_by-values : (t limit n : ℕ) → NextChange (take_between start end last cap) t limit n → NextChange (take_of w i) t limit n
  change_by-values t limit n c =
      record {
        some = c.some;
        within = c.within;
        same = λ u h. sym (take_by-values (t + u)) ∙ (c.same u h ∙ take_by-values t);
        changes = λ h q. c.changes h (take_by-values (t + n) ∙ (q ∙ sym (take_by-values t)));
      }

-- ---- all jobs
-- what is known of the run at ideal slot t when n jobs are counted in
pub record RunSoFar (w : Flow) (t n width s : ℕ) (names takes : List ℕ) (parts : ℕ) : Type 0 where
  pub listed : PartsOf (λ i. take_of w i t) n names takes parts
  pub rate : s ≡ sum_to (λ i. take_of w i t) n
  pub some : 0 < width
  pub within : t + width ≤ path w
  pub same : (i : ℕ) → i < n → (u : ℕ) → u < width → take_of w i (t + u) ≡ take_of w i t
  pub changes : t + width < path w → (i : ℕ) × (i < n) × (take_of w i (t + width) ≡ take_of w i t → ⊥)

module _ (w : Flow) (t : ℕ) where
  -- where no job but the ended ones is counted in, the run may last to the path
  pub ended-so_far : (n p : ℕ) (names takes : List ℕ) → p ≡ path w → t < p → ((i : ℕ) → i < n → end_of w i ≤ t) → RunSoFar w t n (p - t) 0 names takes 0
  ended-so_far n p names takes e h ended =
      record {
        listed = parts_of-none (λ i. take_of w i t) n names takes (λ i l. take-from_end w i t (ended i l));
        rate = sym (sum-nothing (λ i. take_of w i t) n (λ i l. take-from_end w i t (ended i l)));
        some = omega arith;
        within = omega arith;
        same = λ i l u b. take-from_end w i (t + u) (omega (arith, ended i l)) ∙ sym (take-from_end w i t (ended i l));
        changes = λ l. absurd (omega arith);
      }

  -- at most one part for each job
  pub parts-so_far : (n width s parts : ℕ) (names takes : List ℕ) → RunSoFar w t n width s names takes parts → parts ≤ n
  parts-so_far n width s parts names takes so_far = omega (arith, so_far.listed.count, parts-few (λ i. take_of w i t) n)

  -- one more job shortens the run to where its take changes
  pub one-more-job : (n width r s v parts : ℕ) (names takes : List ℕ) → parts < length names → parts < length takes →
      RunSoFar w t n width s names takes parts → v ≡ take_of w n t → NextChange (take_of w n) t width r →
      RunSoFar w t (n + 1) r (s + v) (set names parts n) (set takes parts v) (parts + bit (ltb 0 v))
  unfolding sum_to
  one-more-job n width r s v parts names takes room-names room-takes so_far ev next =
      record {
        listed = parts_of-next (λ i. take_of w i t) n v parts names takes room-names room-takes ev so_far.listed;
        rate = rw (add-one n) (omega (arith, so_far.rate));
        some = next.some;
        within = omega (arith, next.within, so_far.within);
        same = λ i h. last_or i n (rw add-one at h) (λ q u b. rw q (next.same u b)) (λ b u k. so_far.same i b u (omega (arith, next.within)));
        changes = λ h. go h (lt-or_ge r width);
      }
    where
      go : t + r < path w → (r < width) ⊎ (width ≤ r) → (i : ℕ) × (i < n + 1) × (take_of w i (t + r) ≡ take_of w i t → ⊥)
      go h (inl b) = (n, omega arith, next.changes b)
      go h (inr b) =
          let e : width ≡ r = omega (arith, next.within) in
          let k = so_far.changes (omega arith) in
          (k.0, omega (arith, k.1), λ q. k.2 (ap (λ (d : ℕ). take_of w k.0 (t + d)) e ∙ q))

  -- where none of the jobs from n on has begun, the run lasts to the first of their starts at most
  pub none-begun : (n width s parts first r : ℕ) (names takes : List ℕ) → Sized w → n ≤ job_count w → t < first →
      ((k : ℕ) → n ≤ k → k < job_count w → first ≤ start_of w k) → (k : ℕ) × (n ≤ k) × (k < job_count w) × (start_of w k ≡ first) →
      r ≡ min width (first - t) → RunSoFar w t n width s names takes parts → RunSoFar w t (job_count w) r s names takes parts
  none-begun n width s parts first r names takes sized h begun later (k, from, in-flow, begins) er so_far =
      record {
        listed = parts_of-rest (λ i. take_of w i t) n (job_count w) parts names takes h (λ i a b. nothing i a b t begun) so_far.listed;
        rate = so_far.rate ∙ sym (sum-stays (λ i. take_of w i t) n (job_count w) h (λ i a b. nothing i a b t begun));
        some = omega (arith, so_far.some);
        within = omega (arith, so_far.within);
        same = λ i l u b. go i l u b (lt-or_ge i n);
        changes = λ l. change l (lt-or_ge (first - t) width);
      }
    where
      nothing : (i : ℕ) → n ≤ i → i < job_count w → (u : ℕ) → u < first → take_of w i u ≡ 0
      nothing i a b u l = take-before_start w i u (omega (arith, later i a b))

      go : (i : ℕ) → i < job_count w → (u : ℕ) → u < r → (i < n) ⊎ (n ≤ i) → take_of w i (t + u) ≡ take_of w i t
      go i l u b (inl e) = so_far.same i e u (omega arith)
      go i l u b (inr e) = nothing i e l (t + u) (omega arith) ∙ sym (nothing i e l t begun)

      works : 0 < take_of w k (start_of w k)
      works =
          let pos = sized.cap_positive k in-flow in
          take-positive w k pos (start_of w k) (omega arith)
          (omega (arith, end_is_start_plus-duration w k, duration-positive (job_of w k) pos (sized.size_positive k in-flow)))

      change : t + r < path w → (first - t < width) ⊎ (width ≤ first - t) → (i : ℕ) × (i < job_count w) × (take_of w i (t + r) ≡ take_of w i t → ⊥)
      change l (inl b) =
          let e : t + r ≡ start_of w k = omega arith in
          (k, in-flow, λ q. omega (arith, q, ap (take_of w k) e, works, nothing k from in-flow t begun))
      change l (inr b) =
          let e : width ≡ r = omega arith in
          let c = so_far.changes (omega arith) in
          (c.0, omega (arith, c.1), λ q. c.2 (ap (λ (d : ℕ). take_of w c.0 (t + d)) e ∙ q))

  -- with all jobs counted in the run is the first one
  first_run : (width s parts : ℕ) (names takes : List ℕ) → RunSoFar w t (job_count w) width s names takes parts → FirstRun w t width
  first_run zero s parts names takes so_far = absurd (omega (arith, so_far.some))
  first_run (suc m) s parts names takes so_far = record { some = so_far.some; within = so_far.within; step = step }
    where
      next-slot : (i j : ℕ) → take_of w i (t + j + 1) ≡ take_of w i (t + suc j)
      next-slot i j = let e : t + j + 1 ≡ t + suc j = omega arith in ap (take_of w i) e

      stays : (j : ℕ) → j < m → unchanged w (t + j) ≡ true
      stays j h = unchanged_where-all_are w (t + j) (λ i l. so_far.same i l j (omega arith) ∙ sym (next-slot i j ∙ so_far.same i l (suc j) (omega arith)))

      ends : (suc m ≡ path w - t → ⊥) → unchanged w (t + m) ≡ false
      ends ne =
          let k = so_far.changes (go (lt-or_ge (t + suc m) (path w))) in
          changed_where-one_is w k.0 (t + m) k.1 (λ q. k.2 (sym (next-slot k.0 m) ∙ (sym q ∙ so_far.same k.0 k.1 m (omega arith))))
        where
          go : (t + suc m < path w) ⊎ (path w ≤ t + suc m) → t + suc m < path w
          go (inl h) = h
          go (inr h) = absurd (ne (omega (arith, so_far.within)))

      step : runs w (path w - t) t ≡ record { first = t; width = suc m } ∷ runs w (path w - (t + suc m)) (t + suc m)
      step =
          let a : m + 1 ≡ suc m = omega arith in
          let b : path w - t - suc m ≡ path w - (t + suc m) = omega arith in
          rw (a, b) at (run_step w m (path w - t) t (omega (arith, so_far.within)) stays ends)

  -- .. with its parts and its rate
  pub all-jobs : (width s parts : ℕ) (names takes : List ℕ) → RunSoFar w t (job_count w) width s names takes parts →
      RunAt w t names takes (record { width = width; rate = s; parts = parts })
  unfolding rate
  all-jobs width s parts names takes so_far =
      record { parts = so_far.listed; rate = so_far.rate; run = first_run width s parts names takes so_far }

-- ---- what a run is
-- a run has at most one part for each job
pub parts-counted : (w : Flow) (t : ℕ) (names takes : List ℕ) (r : Run) → RunAt w t names takes r → r.parts ≤ job_count w
parts-counted w t names takes r at_cut = omega (arith, at_cut.parts.count, parts-few (λ i. take_of w i t) (job_count w))

-- ---- the walk from cut to cut
past-path : (w : Flow) (t : ℕ) → path w ≤ t → runs w (path w - t) t ≡ []
unfolding runs
past-path w t h = let z : path w - t ≡ 0 = omega arith in rw z refl

-- where the width of each first run is known, the walk meets the specification's runs
pub walk_is-runs : (w : Flow) (width : ℕ → ℕ) → ((t : ℕ) → t < path w → FirstRun w t (width t)) → (n t : ℕ) → length (runs w (path w - t) t) ≤ n →
    walk width (path w) n t ≡ runs w (path w - t) t
unfolding walk
walk_is-runs w width first zero t most = go (lt-or_ge t (path w))
  where
    go : (t < path w) ⊎ (path w ≤ t) → [] ≡ runs w (path w - t) t
    go (inl h) = absurd (omega (arith, most, ap length (first t h).step))
    go (inr h) = sym (past-path w t h)
walk_is-runs w width first (suc n) t most = go (lt-or_ge t (path w)) (walk_is-runs w width first n (t + width t))
  where
    go : (t < path w) ⊎ (path w ≤ t) →
        (length (runs w (path w - (t + width t)) (t + width t)) ≤ n → walk width (path w) n (t + width t) ≡ runs w (path w - (t + width t)) (t + width t)) →
        (if ltb t (path w) then record { first = t; width = width t } ∷ walk width (path w) n (t + width t) else []) ≡ runs w (path w - t) t
    go (inl h) ih = rw (lt-ltb t (path w) h, ih (omega (arith, most, ap length (first t h).step))) (sym (first t h).step)
    go (inr h) ih = rw (le-ltb t (path w) h) (sym (past-path w t h))

-- the walk from ideal slot 0 on is the chain, in at most 2 × n steps
pub walk_is-chain : (w : Flow) → Sized w → (width : ℕ → ℕ) → ((t : ℕ) → t < path w → FirstRun w t (width t)) → walk width (path w) (2 * job_count w) 0 ≡ chain w
unfolding chain
walk_is-chain w sized width first =
    let z : path w - 0 ≡ path w = omega arith in
    let most : length (runs w (path w - 0) 0) ≤ 2 * job_count w = rw z (chain_length w sized) in
    walk_is-runs w width first (2 * job_count w) 0 most ∙ ap (λ (n : ℕ). runs w n 0) z

-- walking a flow from 0 by the widths of `run_at` gives exactly the chain, in at most 2 × n steps
pub walk_by-runs_is-chain : (w : Flow) → Sized w → (names takes : ℕ → List ℕ) (r : ℕ → Run) →
    ((t : ℕ) → t < path w → RunAt w t (names t) (takes t) (r t)) → walk (λ t. (r t).width) (path w) (2 * job_count w) 0 ≡ chain w
walk_by-runs_is-chain w sized names takes r each = walk_is-chain w sized (λ t. (r t).width) (λ t h. (each t h).run)
