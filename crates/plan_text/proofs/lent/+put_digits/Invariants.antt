-- The measure of `lent::put_digits`: the digits that may stand before the last. Assumes nothing.
use Rattle.plan_text.proofs.lent.+put_digits.Given as goal

abbrev pub decreases-put_digits : goal.decreases-put_digits
decreases-put_digits l = l.n
