-- The jobs that need not be looked at any more, since they have ended: they stay so, and become more from cut to cut.
-- Assumes nothing.
use mathlib.Core.Logic.{◌⊎◌, inl, inr}
use mathlib.Core.List.{List}
use Prim.Native.Nat.{ℕ, ◌≤◌, ◌<◌}
use native.Mathlib.Nat.{not-suc-le-zero}
use native.Mathlib.Omega.{arith}
use lib.ListN.{length, get_or}
use Rattle.rules.proofs.Laws.Division.{lt-or_ge}
use Rattle.chain.specs.declared.IdealJob.{IdealJob}
use Rattle.chain.specs.Alone.{no_ideal, EndedTo}

pub ended-to-none : (jobs : List IdealJob) (t : ℕ) → EndedTo jobs 0 t
ended-to-none jobs t = record { within = omega arith; ended = λ i l. absurd (not-suc-le-zero l) }

pub ended-to-more : (jobs : List IdealJob) (from t r : ℕ) → EndedTo jobs from t →
    (r ≤ length jobs) × (from ≤ r) × ((i : ℕ) → from ≤ i → i < r → (get_or jobs i no_ideal).end ≤ t) → EndedTo jobs r t
ended-to-more jobs from t r below more = record { within = more.0; ended = λ i l. go i l (lt-or_ge i from) }
  where
    go : (i : ℕ) → i < r → (i < from) ⊎ (from ≤ i) → (get_or jobs i no_ideal).end ≤ t
    go i l (inl b) = below.ended i b
    go i l (inr b) = more.2 i b l

pub ended-to-later : (jobs : List IdealJob) (from t u : ℕ) → t ≤ u → EndedTo jobs from t → EndedTo jobs from u
ended-to-later jobs from t u l below = record { within = below.within; ended = λ i b. omega (arith, below.ended i b) }
