-- A piece of text put into a lent slice, and the pieces of a line. Assumes nothing.
use Rattle.std.specs.Prelude.{◌≡◌, ℕ, ◌+◌, List, ◌++◌, length}
use Rattle.std.proofs.lemmas.List.Edits.{sets}
use Rattle.rules.specs.Text.{decimal, word_end}

-- the slice holds the piece from `at` on, and `next` is the offset after it
pub record TextPut (before : List ℕ) (at : ℕ) (piece after : List ℕ) (next : ℕ) : Type 0 where
  pub stored : after ≡ sets before at piece
  pub offset_after_is : next ≡ at + length piece

-- two words, each with the number after it, and the end of the line
abbrev pub pair_line : List ℕ → ℕ → List ℕ → ℕ → List ℕ
pair_line first x second y = first ++ decimal x ++ second ++ decimal y ++ word_end

-- room for one line, whichever it is
abbrev pub longest_line : ℕ
longest_line = 64
