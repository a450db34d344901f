-- What the routines on one job answer, in the specification's words: its slots and its last take, and the start and
-- the end that the ends of lower jobs give. Assumes nothing.
use Rattle.std.specs.Prelude.{◌≡◌, List, [], ◌∷◌, ◌++◌, ℕ, zero, suc, ◌+◌, get_or, if◌then◌else◌}
use Rattle.rules.specs.Walks.{max_to}
use Rattle.rules.specs.Book.{Job, has_bit}
use Rattle.rules.specs.Ideal.{duration, last_take}
use Rattle.chain.specs.declared.Lasting.{Lasting}

-- a job of this size and cap
abbrev pub job_with : ℕ → ℕ → ℕ → Job
job_with size cap predecessors = record { size = size; cap = cap; predecessors = predecessors }

-- how long a job lasts, and what it takes in its last slot
pub record LastsAs (j : Job) (r : Lasting) : Type 0 where
  pub slots : r.slots ≡ duration j
  pub last : r.last ≡ last_take j

-- the largest end among the predecessors below n
unfoldable pub start_among : ℕ → List ℕ → ℕ → ℕ
start_among predecessors ends n = max_to (λ k. if has_bit predecessors k then get_or ends k 0 else 0) n

-- the ends of the jobs below n, by the jobs' predecessors and durations, by recursion on the job number
unfoldable pub ends_by : List ℕ → List ℕ → ℕ → List ℕ
ends_by predecessors durations zero = []
ends_by predecessors durations (suc i) =
    let ends = ends_by predecessors durations i in
    ends ++ (start_among (get_or predecessors i 0) ends i + get_or durations i 0) ∷ []
