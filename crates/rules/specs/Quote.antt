-- The finish to quote for a flow before anything is planned (document 02, Req 08), and a book with flows appended. Assumes nothing.
use Rattle.std.specs.Prelude.{ℕ, ◌+◌, ◌/◌, List, ◌++◌}
use Rattle.rules.specs.Walks.{sum_to}
use Rattle.rules.specs.Calendar.{open_before}
use Rattle.rules.specs.Book.{Flow, Book, flow_of}
use Rattle.rules.specs.Ideal.{path}
use Rattle.rules.specs.PseudoJobs.{chain, work, sum_over}
use Rattle.rules.specs.Service.{served_at}
use Rattle.rules.specs.Finish.{up_to_named}

-- the work of a flow: that of its pseudo-jobs by rule 3, added
unfoldable pub work_of : Flow → ℕ
work_of w = sum_over (work w) (chain w)

-- "the work of all flows up to and including it in service order"
unfoldable pub work_up_to : Book → ℕ → ℕ
work_up_to b f = sum_to (λ n. work_of (flow_of b (served_at b n))) (up_to_named b f)

-- "three numbers added: the open slots before its release, its path, and the work of all flows up to and including it in service order divided by P,
-- rounded down". ("quote" is document 02's word)
unfoldable pub quote : Book → ℕ → ℕ
quote b f = open_before b.calendar (flow_of b f).release + path (flow_of b f) + work_up_to b f / b.processors

-- "flows appended at the end of the book"
abbrev pub appended : Book → List Flow → Book
appended b more = record { processors = b.processors; flows = b.flows ++ more; calendar = b.calendar }
