-- Rule 1 by quotient and rest: with rest 0 a job lasts the quotient and takes its cap in its last slot, else it lasts
-- one slot more and takes the rest there. Assumes nothing.
use mathlib.Core.Path.{◌≡◌, refl, ap, sym, ◌∙◌}
use Prim.Native.Nat.{ℕ, zero, suc, ◌+◌, ◌*◌, ◌-◌, ◌<◌, ◌≤◌}
use native.Mathlib.Omega.{arith}
use Rattle.rules.specs.Ideal.{quotient_up, duration, last_take}
use Rattle.rules.proofs.Laws.Division.{quotient_up-mul, quotient_up-eq}
use Rattle.chain.specs.Jobs.{job_with, LastsAs}

-- the last take, where the duration is known
last-take_at : (n c p k : ℕ) → duration (job_with n c p) ≡ suc k → last_take (job_with n c p) ≡ n - k * c
unfolding last_take
last-take_at n c p k e = rw e (let q : suc k - 1 ≡ k = omega arith in rw q refl)

-- a job that lasts k slots and takes its cap in the last
pub lasts_even : (n c p k : ℕ) → 1 ≤ n → 1 ≤ c → k * c ≡ n → LastsAs (job_with n c p) (record { slots = k; last = c })
unfolding duration
lasts_even n c p zero some pos e = absurd (omega arith)
lasts_even n c p (suc k) some pos e =
    let d : quotient_up n c ≡ suc k = ap (λ (m : ℕ). quotient_up m c) (sym e) ∙ quotient_up-mul (suc k) pos in
    record { slots = sym d; last = omega (arith, last-take_at n c p k d) }

-- a job that lasts k + 1 slots and takes the rest r in the last
pub lasts_uneven : (n c p k r : ℕ) → 1 ≤ r → r < c → k * c + r ≡ n → LastsAs (job_with n c p) (record { slots = k + 1; last = r })
unfolding duration
lasts_uneven n c p k r some less e =
    let d : quotient_up n c ≡ suc k = quotient_up-eq n k (omega arith) (omega arith) (omega arith) in
    record { slots = omega arith; last = omega (arith, last-take_at n c p k d) }
