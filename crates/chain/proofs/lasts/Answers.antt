-- `chain::lasts` meets its contract: the two laws of `Durations`, one for each arm, with the quotient and what its
-- product with the cap leaves of the size. Assumes nothing.
use native.Mathlib.Nat.{div-mul-le_self, lt-div-mul-add, div-le_self}
use native.Mathlib.Omega.{arith}
use Rattle.chain.proofs.Durations.{lasts_even, lasts_uneven}
use Rattle.chain.proofs.lasts.Goals as goal

pub overflow_sub-rest : goal.overflow_sub-rest
overflow_sub-rest c = let a = c.args in omega (arith, div-mul-le_self a.size a.cap)

pub overflow_mul-rest : goal.overflow_mul-rest
overflow_mul-rest c = let a = c.args in omega (arith, div-mul-le_self a.size a.cap)

pub returns-then-rest-eq0 : goal.returns-then-rest-eq0
returns-then-rest-eq0 c p = let a = c.args in lasts_even _ _ p _ (omega arith) (omega arith) (omega (arith, div-mul-le_self a.size a.cap))

pub overflow_add-result : goal.overflow_add-result
overflow_add-result c = let a = c.args in omega (arith, div-le_self a.size a.cap)

pub returns-else-rest-eq0 : goal.returns-else-rest-eq0
returns-else-rest-eq0 c p =
    let a = c.args in
    lasts_uneven
    _
    _
    p
    _
    _
    (omega arith)
    (omega (arith, lt-div-mul-add {a = a.size} {b = a.cap} (omega arith)))
    (omega (arith, div-mul-le_self a.size a.cap))
