-- `lent::put_number` meets its contract: the word's bytes, and the number's digits after them. Assumes nothing.
use Rattle.plan_text.proofs.LentText.{put-after}
use Rattle.plan_text.proofs.lent.put_number.Goals as goal

pub returns : goal.returns
returns c = put-after c.put_word-next.ensures c.put_decimal.ensures
