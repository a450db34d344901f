-- `bytes::clear` meets its contract: the bytes of the slots are filled with zero, and the others are as they were. Assumes nothing.
use Rattle.rules.specs.Limits.{slots}
use Rattle.book.proofs.Stores.{filled}
use Rattle.book.proofs.bytes.clear.Goals as goal

pub returns : goal.returns
returns c = filled c.args.work.now c.fill.new.self slots c.requires (c.fill.ensures.after (λ y e. e))
