-- `row::Row::write` meets its contract. The two written fields and the two stores between them are the row's bytes (`row_stores`).
-- Assumes nothing.
use native.Mathlib.Omega.{arith}
use mathlib.Core.Path.{ap, ◌∙◌}
use Prim.Native.Nat.{ℕ, ◌+◌}
use mathlib.Core.List.{List}
use lib.ListN.{set}
use lib.Seq.{sets}
use Rattle.rules.specs.Fields.{bytes_of}
use Rattle.book.proofs.Stores.{row_stores, stores-length}
use lib.ListN.{length-set}
use Rattle.book.proofs.row.Row.write.Goals as goal

pub bounds-s-at : goal.bounds-s-at
bounds-s-at c =
    let a = c.args in
    omega (arith, stores-length a.s.now a.at (bytes_of 2 a.self.slot) c.write.ensures)

pub bounds-s-at-2 : goal.bounds-s-at-2
bounds-s-at-2 c =
    let a = c.args in
    simp length-set (omega (arith, stores-length a.s.now a.at (bytes_of 2 a.self.slot) c.write.ensures))

pub write-requires-2 : goal.write-requires-2
write-requires-2 c =
    let a = c.args in
    simp length-set (omega (arith, stores-length a.s.now a.at (bytes_of 2 a.self.slot) c.write.ensures))

pub returns : goal.returns
returns c =
    let a = c.args in
    c.write-2.ensures
    ∙ ap (λ (l : List ℕ). sets (set (set l (a.at + 2) a.self.flow) (a.at + 3) a.self.job) (a.at + 4) (bytes_of 2 a.self.processors))
    c.write.ensures
    ∙ row_stores a.s.now a.at a.self.slot a.self.flow a.self.job a.self.processors (omega arith) (omega arith)
