-- What a test found is told with where it was found: which fault a mapped refusal is of. Assumes nothing.
use mathlib.Core.Path.{◌≡◌, refl, subst}
use native.Mathlib.Omega.{arith}
use Rattle.std.proofs.Common.{Ok, Err, Result, MatchResult, IsErrAnd, is_ok}
use Rattle.rules.specs.declared.Fault.{Fault}
use Rattle.rules.specs.declared.Refusal.{Refusal}
use Rattle.rules.specs.Faults.{fault_number}
use Rattle.book.specs.Records.{number_by}

-- a refusal that was made of what a test found
pub told : {T : Type 0} (Q : Fault → Refusal → Type 0) (found : Result T Fault) (r : Result T Refusal) →
    MatchResult found (λ x. r ≡ Ok x) (λ e. IsErrAnd r (Q e)) → (x : Refusal) → r ≡ Err x → (e : Fault) × (fault_number e ≡ number_by found) × Q e x
told Q (Ok y) r cases x is = grind (arith, is, cases)
told Q (Err e) r cases x is = (e, refl, subst (λ q. IsErrAnd q (Q e)) is cases)

-- a test that passed
pub passed : {T : Type 0} (found : Result T Fault) (r : Result T Refusal) → is_ok r ≡ is_ok found → (x : T) → r ≡ Ok x → number_by found ≡ 0
passed (Ok y) r same x is = refl
passed (Err e) r same x is = grind (arith, is, same)
