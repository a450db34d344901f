-- Rules 1 and 2: a flow on endless processors, in ideal slots. Assumes nothing.
use Rattle.std.specs.Prelude.{ℕ, zero, suc, ◌+◌, ◌*◌, ◌-◌, ◌/◌, ◌||◌, List, [], ◌∷◌, ◌++◌, get_or, ltb, leb, eqb, if◌then◌else◌}
use Rattle.rules.specs.Walks.{max_to}
use Rattle.rules.specs.Book.{Job, Flow, job_count, job_of, precedes}

-- n divided by d, rounded up
unfoldable pub quotient_up : ℕ → ℕ → ℕ
quotient_up n d = (n + (d - 1)) / d

-- rule 1: "A job lasts its size divided by its cap, rounded up."
unfoldable pub duration : Job → ℕ
duration j = quotient_up j.size j.cap

-- rule 1: "It takes its cap in each slot but perhaps the last, which takes the rest."
unfoldable pub last_take : Job → ℕ
last_take j = j.size - (duration j - 1) * j.cap

-- rule 2: "the start of a job is the largest end among its predecessors, or 0 if it has none"; `ends` are the ends of the jobs below i
unfoldable pub start_after : Flow → ℕ → List ℕ → ℕ
start_after w i ends = max_to (λ k. if precedes w k i then get_or ends k 0 else 0) i

-- the ends of the jobs below n, by recursion on the job number: a job ends its duration after its start
unfoldable pub ends_below : Flow → ℕ → List ℕ
ends_below w zero = []
ends_below w (suc i) = let ends = ends_below w i in ends ++ (start_after w i ends + duration (job_of w i)) ∷ []

unfoldable pub start_of : Flow → ℕ → ℕ
start_of w i = start_after w i (ends_below w i)

unfoldable pub end_of : Flow → ℕ → ℕ
end_of w i = start_of w i + duration (job_of w i)

-- rule 2: "The path of a flow is its largest end." It is the critical path.
unfoldable pub path : Flow → ℕ
path w = max_to (end_of w) (job_count w)

-- rules 1 and 2: what job i takes in ideal slot u
unfoldable pub take_of : Flow → ℕ → ℕ → ℕ
take_of w i u =
    if ltb u (start_of w i) || leb (end_of w i) u then 0
    else if eqb (u + 1) (end_of w i) then last_take (job_of w i)
    else (job_of w i).cap
