-- Rules 4 to 6: placing slot by slot, rows by units, infeasible books. Assumes nothing.
use Rattle.std.specs.Prelude.{ℕ, zero, suc, ◌+◌, ◌-◌, min, List, [], ◌∷◌, ◌++◌, take, drop, replicate, eqb, if◌then◌else◌}
use Rattle.rules.specs.Walks.{bit, join_from}
use Rattle.rules.specs.Calendar.{slot_after}
use Rattle.rules.specs.Book.{Flow, Book, flow_count, job_count, flow_of, usable, twice_deadline}
use Rattle.rules.specs.Ideal.{take_of}
use Rattle.rules.specs.PseudoJobs.{PseudoJob, chain, rate, work}
use Rattle.rules.specs.Service.{served_at}
use Rattle.rules.specs.Rows.{Row, row_for, used_in}

-- ---- rule 5: the units of a pseudo-job, in the order of their numbers; a unit is given as its job
-- one slot of the run: "within it by job number, each job having its take"
unfoldable pub slot_units : Flow → PseudoJob → List ℕ
slot_units w p = join_from (λ i. replicate (take_of w i p.first) i) (job_count w) 0

-- "the units are numbered one slot of the run after another"
unfoldable pub units : Flow → PseudoJob → List ℕ
units w p = join_from (λ s. slot_units w p) p.width 0

-- how many of these units are job i's
unfoldable pub units_of : ℕ → List ℕ → ℕ
units_of i [] = 0
units_of i (k ∷ ks) = bit (eqb k i) + units_of i ks

-- "Each real slot uses the next units in that order": what job i has of the n units after the first `done`
unfoldable pub share : Flow → PseudoJob → ℕ → ℕ → ℕ → ℕ
share w p i done n = units_of i (take n (drop done (units w p)))

-- ---- rule 4: a flow on its way
-- the pseudo-jobs not finished, the first of them the current one, and the units of that one that are done
pub record Progress : Type 0 where
  pub left : List PseudoJob
  pub done : ℕ

-- "In each slot the current pseudo-job gets the least of its rate, its remaining work and the processors still free."
unfoldable pub given : Flow → PseudoJob → ℕ → ℕ → ℕ
given w p done free = min (rate w p) (min (work w p - done) free)

-- "A slot serves one pseudo-job of a flow; the next begins one slot later at the earliest."
unfoldable pub after_slot : Flow → List PseudoJob → ℕ → ℕ → Progress
after_slot w [] done free = record { left = []; done = done }
after_slot w (p ∷ ps) done free =
    let now = done + given w p done free in
    if eqb now (work w p) then record { left = ps; done = 0 } else record { left = p ∷ ps; done = now }

-- the rows of flow f in slot t
unfoldable pub slot_rows : Flow → ℕ → ℕ → List PseudoJob → ℕ → ℕ → List Row
slot_rows w f t [] done free = []
slot_rows w f t (p ∷ ps) done free = join_from (λ i. row_for t f i (share w p i done (given w p done free))) (job_count w) 0

-- "each from slot 0": a flow's progress after the first t slots, with free u processors still free for it in slot u
unfoldable pub progress : Flow → (ℕ → ℕ) → ℕ → Progress
progress w free zero = record { left = chain w; done = 0 }
progress w free (suc t) = let g = progress w free t in after_slot w g.left g.done (free t)

-- the rows of flow f in the first n slots
unfoldable pub flow_rows : Flow → ℕ → (ℕ → ℕ) → ℕ → List Row
flow_rows w f free n = join_from (λ t. let g = progress w free t in slot_rows w f t g.left g.done (free t)) n 0

-- "the processors still free" in slot t for flow f, beside the rows of the flows before; none in a slot that it may not use
unfoldable pub free_processors : Book → ℕ → List Row → ℕ → ℕ
free_processors b f rows t = if usable b (flow_of b f) t then b.processors - used_in rows t else 0

-- ---- rule 6
-- the slots in which a flow has to be finished: "a flow unfinished when that many open slots from slot 0 have passed is infeasible" (02, Req 07). With no
-- windows slot 2 × deadline − 1 is the last of them.
unfoldable pub slots_for : Book → Flow → ℕ
slots_for b w = slot_after b.calendar (twice_deadline b w)

-- all rows in the order of the table, or the flow that makes the book infeasible
pub data Plan : Type 0 where
  planned : List Row → Plan
  infeasible : ℕ → Plan

-- "A flow not finished after slot 2 × deadline − 1 makes the book infeasible", with twice the deadline in open slots (02, Req 07)
abbrev pub settled : ℕ → List PseudoJob → List Row → Plan
settled f [] rows = planned rows
settled f (p ∷ ps) rows = infeasible f

-- flow f beside the rows of the flows before
unfoldable pub place_flow : Book → ℕ → List Row → Plan
place_flow b f rows =
    settled f (progress (flow_of b f) (free_processors b f rows) (slots_for b (flow_of b f))).left
    (rows ++ flow_rows (flow_of b f) f (free_processors b f rows) (slots_for b (flow_of b f)))

abbrev pub then_place : Plan → (List Row → Plan) → Plan
then_place (planned rows) next = next rows
then_place (infeasible f) next = infeasible f

-- "Flows are placed in service order": the first k of them
unfoldable pub place_first : Book → ℕ → Plan
place_first b zero = planned []
place_first b (suc k) = then_place (place_first b k) (place_flow b (served_at b k))

unfoldable pub plan : Book → Plan
plan b = place_first b (flow_count b)

-- the rows of a plan
abbrev pub rows_of : Plan → List Row
rows_of (planned rows) = rows
rows_of (infeasible f) = []
