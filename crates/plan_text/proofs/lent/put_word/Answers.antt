-- `lent::put_word` meets its contract: a part that is written over is stored byte by byte. Assumes nothing.
use mathlib.Core.Path.{refl}
use lib.ListN.{length}
use Rattle.book.proofs.Stores.{stored}
use Rattle.plan_text.proofs.lent.put_word.Goals as goal

pub returns : goal.returns
returns c =
    let a = c.args in
    record {
      stored = stored a.out.now a.at (length a.word.now) a.word.now c.copy_from_slice.new.self c.requires refl c.copy_from_slice.ensures.after;
      offset_after_is = refl;
    }
