-- A book that is cut in service order ("Words of demand 3"). Assumes nothing.
use Rattle.std.specs.Prelude.{ℕ, ◌+◌, Bool, List, [], ◌∷◌, eqb, if◌then◌else◌}
use Rattle.rules.specs.Walks.{count_to, any_to}
use Rattle.rules.specs.Book.{Flow, Book}
use Rattle.rules.specs.Service.{served_at}

-- flow f is among the first k flows in service order
unfoldable pub among_first : Book → ℕ → ℕ → Bool
among_first b k f = any_to (λ n. eqb (served_at b n) f) k

-- of these flows, numbered from f on, those that pass a test
unfoldable pub keep_flows : (ℕ → Bool) → ℕ → List Flow → List Flow
keep_flows q f [] = []
keep_flows q f (w ∷ ws) = if q f then w ∷ keep_flows q (f + 1) ws else keep_flows q (f + 1) ws

-- "Cut after its first k flows in service order, k from 0 to all of them, it keeps those flows in book order"; "a book that is cut keeps its calendar"
-- (02, Req 07)
unfoldable pub cut : Book → ℕ → Book
cut b k = record { processors = b.processors; flows = keep_flows (among_first b k) 0 b.flows; calendar = b.calendar }

-- the number that flow f of the whole book has in the cut one: so many flows that are kept stand before it in the book
unfoldable pub number_in_cut : Book → ℕ → ℕ → ℕ
number_in_cut b k f = count_to (among_first b k) f
