-- Theorem 6 of document 001 in whole slots: a flow that the greedy placing leaves unfinished after twice its deadline shows that no schedule of
-- it and the flows before it is on time. On time, the path fits before the deadline and so does the area; the bound on the placing says that
-- work is left for less time than both together. Assumes nothing.
use mathlib.Core.Path.{◌≡◌, ap}
use Prim.Native.Nat.{ℕ, suc, ◌+◌, ◌*◌, ◌/◌, ◌≤◌, ◌<◌}
use mathlib.Core.Bool.{Bool, true}
use native.Mathlib.Nat.{mul-le-mul_left, lt-suc_self, le_of_eq}
use native.Mathlib.Omega.{arith}
use Rattle.rules.specs.Walks.{sum_to, count_to}
use Rattle.rules.specs.Book.{Flow}
use Rattle.rules.specs.Ideal.{path}
use Rattle.rules.proofs.Laws.Walks.{last_or}
use Rattle.rules.proofs.Chains.Ideal.{Sized}
use Rattle.rules.proofs.Placing.Greedy.{units_left_at, placing_bound, divided_bound}
use Rattle.rules.proofs.Chains.PseudoJobs.{chain_live, chain_widths, chain-works}
use Rattle.rules.proofs.Placing.Necessity.{flow_work, works_up_to, OnTime, path_necessary, area_necessary}

-- flow k of a sequence, where a schedule of it and the flows before it is on time: its path fits its usable slots before the deadline, and the work of all of
-- them fits the slots before it that are open
module _ (P k : ℕ) (φ : ℕ → Flow) (usable : ℕ → ℕ → Bool) (opened : ℕ → Bool) (deadline : ℕ → ℕ)
    (inside : (n t : ℕ) → n < suc k → usable n t ≡ true → opened t ≡ true) (order : (n : ℕ) → n < k → deadline n ≤ deadline k)
    (σ : ℕ → ℕ → ℕ → ℕ) (on : OnTime P (suc k) φ usable deadline σ) where
  pub path-fits : Sized (φ k) → path (φ k) ≤ count_to (usable k) (deadline k)
  path-fits sized = path_necessary (φ k) sized (usable k) (σ k) (on.keeps k (lt-suc_self k)) (deadline k) (on.complete k (lt-suc_self k))

  pub area-fits : works_up_to φ (suc k) ≤ P * count_to opened (deadline k)
  area-fits =
      area_necessary P (suc k) φ usable deadline σ on opened inside (deadline k) (λ n l. last_or n k l (λ e. le_of_eq (ap deadline e)) (λ m. order n m))

-- flow k of a sequence, placed with free t processors free in slot t: in its usable slots, all that the flows before it, busy t in slot t, leave
module _ (P k : ℕ) (φ : ℕ → Flow) (usable : ℕ → ℕ → Bool) (free busy : ℕ → ℕ) (sized : Sized (φ k))
    (rest-free : (t : ℕ) → usable k t ≡ true → P ≤ busy t + free t) (before : (t : ℕ) → sum_to busy t ≤ works_up_to φ k) where
  -- while work is left: path and area bound the usable slots that have passed
  pub area_bound : (t : ℕ) → 0 < units_left_at (φ k) free t → P * suc (count_to (usable k) t) < P * path (φ k) + works_up_to φ (suc k)
  unfolding sum_to flow_work
  area_bound t h =
      omega (
        arith,
        placing_bound (φ k) free (chain_live (φ k) sized) P (usable k) busy rest-free t h,
        before t,
        ap (λ (x : ℕ). P * x) (chain_widths (φ k)),
        chain-works (φ k) sized,
      )

  -- the same as a quote: the flow ends within its path and the area of the flows up to it, in usable slots
  pub quote_bound : 0 < P → (t : ℕ) → 0 < units_left_at (φ k) free t → count_to (usable k) t < path (φ k) + works_up_to φ (suc k) / P
  quote_bound pos t h = divided_bound P (count_to (usable k) t) (path (φ k)) (works_up_to φ (suc k)) pos (area_bound t h)

  -- T comes when as many usable slots have passed as the flow has before its deadline and as are open before it, together
  pub refusal : (T : ℕ) (opened : ℕ → Bool) (deadline : ℕ → ℕ) →
      ((n t : ℕ) → n < suc k → usable n t ≡ true → opened t ≡ true) →
      ((n : ℕ) → n < k → deadline n ≤ deadline k) →
      count_to opened (deadline k) + count_to (usable k) (deadline k) ≤ count_to (usable k) T →
      0 < units_left_at (φ k) free T →
      (σ : ℕ → ℕ → ℕ → ℕ) → OnTime P (suc k) φ usable deadline σ → ⊥
  refusal T opened deadline inside order twice left σ on =
      omega (
        arith,
        area-fits P k φ usable opened deadline inside order σ on,
        area_bound T left,
        mul-le-mul_left P (path-fits P k φ usable opened deadline inside order σ on sized),
        mul-le-mul_left P twice,
      )
