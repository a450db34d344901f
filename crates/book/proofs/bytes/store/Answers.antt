-- `bytes::store` meets its contract. Assumes nothing.
use mathlib.Core.Path.{refl}
use lib.ListN.{length}
use Rattle.book.proofs.Stores.{stored}
use Rattle.book.proofs.bytes.store.Goals as goal

pub returns : goal.returns
returns c = let a = c.args in stored a.s.now a.at (length a.bytes.now) a.bytes.now c.copy_from_slice.new.self c.requires refl c.copy_from_slice.ensures.after
