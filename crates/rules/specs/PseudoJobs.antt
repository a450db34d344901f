-- Rule 3: the chain of pseudo-jobs of a flow ("pseudo-job" is document 01's word). Assumes nothing.
use Rattle.std.specs.Prelude.{ℕ, zero, suc, ◌+◌, ◌*◌, Bool, List, [], ◌∷◌, eqb, if◌then◌else◌}
use Rattle.rules.specs.Walks.{sum_to, all_to}
use Rattle.rules.specs.Book.{Flow, job_count}
use Rattle.rules.specs.Ideal.{take_of, path}

-- "Each run is a pseudo-job: width w": a run of ideal slots, from its first on
pub record PseudoJob : Type 0 where
  pub first : ℕ
  pub width : ℕ

-- "every job's take is unchanged" from ideal slot u to the next
unfoldable pub unchanged : Flow → ℕ → Bool
unchanged w u = all_to (λ i. eqb (take_of w i u) (take_of w i (u + 1))) (job_count w)

-- slot u before the runs from slot u + 1 on: it lengthens the first of them, or is a run of its own
unfoldable pub prepend : Flow → ℕ → List PseudoJob → List PseudoJob
prepend w u [] = record { first = u; width = 1 } ∷ []
prepend w u (p ∷ ps) =
    if unchanged w u then record { first = u; width = p.width + 1 } ∷ ps
    else record { first = u; width = 1 } ∷ p ∷ ps

-- the maximal runs of the n ideal slots from u on
unfoldable pub runs : Flow → ℕ → ℕ → List PseudoJob
runs w zero u = []
runs w (suc n) u = prepend w u (runs w n (u + 1))

-- "Cut 0 to the path into maximal runs of slots in which every job's take is unchanged."
unfoldable pub chain : Flow → List PseudoJob
chain w = runs w (path w) 0

-- "rate r (the sum of the takes)"
unfoldable pub rate : Flow → PseudoJob → ℕ
rate w p = sum_to (λ i. take_of w i p.first) (job_count w)

-- "work w × r"
unfoldable pub work : Flow → PseudoJob → ℕ
work w p = p.width * rate w p

-- what pseudo-jobs have together: the sum of a number of each
unfoldable pub sum_over : (PseudoJob → ℕ) → List PseudoJob → ℕ
sum_over g [] = 0
sum_over g (p ∷ ps) = g p + sum_over g ps
