-- `lent::put_digits` meets its contract, by recursion: the call below puts the digits of a tenth, and the last digit comes
-- after them. Assumes nothing.
use Prim.Native.Nat.{◌-◌, ◌/◌}
use native.Mathlib.Omega.{arith}
use Rattle.plan_text.proofs.Pieces.{digits_last, digits-single, digits_more, digits_most}
use Rattle.plan_text.proofs.LentText.{put-after, put_as, put-length}
use Rattle.plan_text.proofs.lent.+put_digits.Goals as goal

pub returns-then-n-eq0 : goal.returns-then-n-eq0
returns-then-n-eq0 t c =
    let a = c.args in
    put_as (digits_last a.n a.x c.if-n-eq0.true) c.put_digit.ensures

pub returns-then-x-lt10 : goal.returns-then-x-lt10
returns-then-x-lt10 t c =
    let a = c.args in
    put_as (digits-single a.n a.x c.if-x-lt10.true) c.put_digit-then-x-lt10.ensures

pub put_digit-requires-2 : goal.put_digit-requires-2
put_digit-requires-2 t c =
    let a = c.args in
    omega (arith, put-length c.put_digits-next.ensures, digits_most (a.n - 1) (a.x / 10))

pub returns : goal.returns
returns t c =
    let a = c.args in
    put_as (digits_more a.n a.x (omega arith) c.if-x-lt10.false) (put-after c.put_digits-next.ensures c.put_digit-2.ensures)
