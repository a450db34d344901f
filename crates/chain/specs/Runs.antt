-- What a job takes by its start and end, how long its take stays, and the run that begins at an ideal slot: the first
-- of the specification's runs from there on. Assumes nothing.
use Rattle.std.specs.Prelude.{◌≡◌, ◌||◌, List, [], ◌∷◌, ℕ, zero, suc, ◌+◌, ◌-◌, ◌≤◌, ◌<◌, get_or, ltb, leb, eqb, if◌then◌else◌}
use Rattle.rules.specs.Walks.{count_to}
use Rattle.rules.specs.Book.{Flow, job_count}
use Rattle.rules.specs.Ideal.{path, take_of}
use Rattle.rules.specs.PseudoJobs.{PseudoJob, runs, rate}
use Rattle.chain.specs.declared.Run.{Run}

-- v is the least of the numbers that a list has from index i to index n
pub record LeastFrom (l : List ℕ) (n i v : ℕ) : Type 0 where
  pub within : (k : ℕ) → i ≤ k → k < n → v ≤ get_or l k 0
  pub attained : (k : ℕ) × (i ≤ k) × (k < n) × (get_or l k 0 ≡ v)

-- what a job takes in ideal slot u, by its start, its end, its last take and its cap
unfoldable pub take_between : ℕ → ℕ → ℕ → ℕ → ℕ → ℕ
take_between start end last cap u =
    if ltb u start || leb end u then 0
    else if eqb (u + 1) end then last
    else cap

-- a take stays as it is for n slots from slot t on, and then changes, or n is the limit
pub record NextChange (take : ℕ → ℕ) (t limit n : ℕ) : Type 0 where
  pub some : 0 < n
  pub within : n ≤ limit
  pub same : (u : ℕ) → u < n → take (t + u) ≡ take t
  pub changes : n < limit → take (t + n) ≡ take t → ⊥

-- the run of this width that begins at ideal slot t is the first of the runs from there on
pub record FirstRun (w : Flow) (t width : ℕ) : Type 0 where
  pub some : 0 < width
  pub within : t + width ≤ path w
  pub step : runs w (path w - t) t ≡ record { first = t; width = width } ∷ runs w (path w - (t + width)) (t + width)

-- how many of the jobs below n take something
unfoldable pub parts_below : (ℕ → ℕ) → ℕ → ℕ
parts_below take n = count_to (λ i. ltb 0 (take i)) n

-- the jobs below n that take something, by their numbers, and what they take: each stands behind as many as there are
-- before it
pub record PartsOf (take : ℕ → ℕ) (n : ℕ) (names takes : List ℕ) (parts : ℕ) : Type 0 where
  pub count : parts ≡ parts_below take n
  pub name : (i : ℕ) → i < n → 0 < take i → get_or names (parts_below take i) 0 ≡ i
  pub amount : (i : ℕ) → i < n → 0 < take i → get_or takes (parts_below take i) 0 ≡ take i

-- the pseudo-job that begins at ideal slot t, with its parts and its rate
pub record RunAt (w : Flow) (t : ℕ) (names takes : List ℕ) (r : Run) : Type 0 where
  pub parts : PartsOf (λ i. take_of w i t) (job_count w) names takes r.parts
  pub rate : r.rate ≡ rate w (record { first = t; width = r.width })
  pub run : FirstRun w t r.width

-- the walk from ideal slot t on, of at most n steps: each run begins where the one before it ends
unfoldable pub walk : (ℕ → ℕ) → ℕ → ℕ → ℕ → List PseudoJob
walk width path zero t = []
walk width path (suc n) t = if ltb t path then record { first = t; width = width t } ∷ walk width path n (t + width t) else []
