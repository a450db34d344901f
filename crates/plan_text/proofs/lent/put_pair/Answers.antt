-- `lent::put_pair` meets its contract: two words with their numbers and the end of the line, each after the one before.
-- A number takes at most ten bytes, so that the room asked for is enough. Assumes nothing.
use native.Mathlib.Omega.{arith}
use Rattle.rules.specs.Fields.{bytes_of}
use Rattle.plan_text.proofs.LentText.{put-pair_line, number-room}
use Rattle.plan_text.proofs.lent.put_pair.Goals as goal

pub put_number-after_second-requires : goal.put_number-after_second-requires
put_number-after_second-requires c =
    let a = c.args in
    omega (arith, number-room a.first.now a.x c.put_number-after_first.ensures)

pub put_word-requires : goal.put_word-requires
put_word-requires c =
    let a = c.args in
    let one = number-room a.first.now a.x c.put_number-after_first.ensures in
    let two = number-room a.second.now a.y c.put_number-after_second.ensures in
    omega arith

pub returns : goal.returns
unfolding bytes_of
returns c =
    let a = c.args in
    put-pair_line a.first.now a.x a.second.now a.y c.put_number-after_first.ensures c.put_number-after_second.ensures c.put_word.ensures
