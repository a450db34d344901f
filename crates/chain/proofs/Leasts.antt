-- The least of a list's numbers from each index on, found from the last index downwards. Assumes nothing.
use mathlib.Core.Path.{◌≡◌, refl, ap, ◌∙◌}
use mathlib.Core.List.{List}
use mathlib.Core.Logic.{◌⊎◌, inl, inr, ⊎_elim}
use Prim.Native.Nat.{ℕ, suc, ◌≤◌, ◌<◌, min}
use native.Mathlib.Nat.{eq-or-lt_of_le, le_refl}
use native.Mathlib.Omega.{arith}
use lib.ListN.{length, get_or, set, length-set}
use lib.Seq.{get_or-set_same, get_or-set_other}
use Rattle.rules.proofs.Laws.Division.{lt-or_ge}
use Rattle.chain.specs.Runs.{LeastFrom}

-- a list as long as another, which has at each index from k to n the least from there on; v is that at index k, and
-- 4,294,967,295 where k is n
pub record LeastsFrom (l : List ℕ) (n k v : ℕ) (before leasts : List ℕ) : Type 0 where
  pub size : length leasts ≡ length before
  pub within : k ≤ n
  pub none : k ≡ n → v ≡ 4294967295
  pub held : k < n → LeastFrom l n k v
  pub each : (i : ℕ) → k ≤ i → i < n → LeastFrom l n i (get_or leasts i 0)

-- no index has one yet
pub leasts-none : (l : List ℕ) (n : ℕ) (leasts : List ℕ) → LeastsFrom l n n 4294967295 leasts leasts
leasts-none l n leasts = record {
  size = refl;
  within = le_refl n;
  none = λ e. refl;
  held = λ h. absurd (omega arith);
  each = λ i h g. absurd (omega arith);
}

-- one index lower
module _ (l : List ℕ) (n m k v r : ℕ) (first leasts : List ℕ) (em : m ≡ suc k) (before : LeastsFrom l n m v first leasts) (fits : get_or l k 0 ≤ 4294967295)
    (er : r ≡ min (get_or l k 0) v) where
  least_lower : LeastFrom l n k r
  least_lower = record {
    within = λ i h g. ⊎_elim (λ e. omega (arith, ap (λ (j : ℕ). get_or l j 0) e)) (λ o. omega (arith, (before.held (omega arith)).within i (omega arith) g)) (eq-or-lt_of_le h);
    attained = go (lt-or_ge v (get_or l k 0)) (eq-or-lt_of_le before.within);
  }
    where
      go : (v < get_or l k 0) ⊎ (get_or l k 0 ≤ v) → (m ≡ n) ⊎ (m < n) → (i : ℕ) × (k ≤ i) × (i < n) × (get_or l i 0 ≡ r)
      go (inl o) (inl e) = absurd (omega (arith, before.none e))
      go (inl o) (inr h) = let w = (before.held h).attained in (w.0, omega (arith, w.1), w.2, omega (arith, w.3))
      go (inr o) _ = (k, le_refl k, omega (arith, before.within), omega arith)

  pub leasts_lower : k < length first → LeastsFrom l n k r first (set leasts k r)
  leasts_lower room = record {
    size = length-set leasts k r ∙ before.size;
    within = omega (arith, before.within);
    none = λ e. absurd (omega (arith, before.within));
    held = λ h. least_lower;
    each = λ i h g.
        ⊎_elim
        (λ e. rw (← e, get_or-set_same leasts k r 0 (rw before.size room)) least_lower)
        (λ o. rw (get_or-set_other leasts k i r 0 (λ q. omega arith)) (before.each i (omega arith) g))
        (eq-or-lt_of_le h);
  }
