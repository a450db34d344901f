-- A job that has a row already is released and lacks no predecessor: its first row passed 19, and what a predecessor
-- has in earlier slots does not shrink as rows are added and slots go on. So release and predecessors are asked at a
-- job's first row alone. Assumes nothing.
use mathlib.Core.Path.{◌≡◌, refl, sym, ap, ◌∙◌}
use mathlib.Core.Bool.{Bool, true, false, ◌&&◌, and-eq-true_iff}
use Prim.Native.Nat.{ℕ, ◌+◌, ◌≤◌, ◌<◌}
use mathlib.Core.List.{List}
use native.Mathlib.Omega.{arith}
use lib.ListN.{length, get_or, take, length-take}
use lib.Seq.{get_or-take, take-take}
use lib.Dec.{ltb, eqb}
use borrow.Author.Tests.{eqb-true, ltb-true, lt-ltb, le-ltb}
use Rattle.rules.specs.Verdicts.{Pass}
use Rattle.std.specs.Prelude.{if◌then◌else◌}
use Rattle.rules.specs.Answers.{first_fault}
use Rattle.rules.specs.Book.{Book, flow_of, job_of, precedes}
use Rattle.rules.specs.Rows.{Row, is_of, total_of, done_before, finish_of}
use Rattle.rules.specs.Check.{no_row, before_release, lacks_predecessor, row_fault}
use Rattle.rules.proofs.Laws.Faults.{fault-pass}
use Rattle.rules.proofs.Rows.RowSums.{sum_where_mono, sum_where_met, sum_where-take, finish-above}
use Rattle.rules.proofs.Rows.Rising.{in-at}
use Rattle.rules.proofs.Tables.TablePasses.{PredecessorsDone, RowPasses, row-passes, none_lacks}

-- more rows and later slots: no less
done_grows : (rows : List Row) (j f k s t : ℕ) → s ≤ t → done_before (take j rows) f k s ≤ done_before rows f k t
unfolding done_before
done_grows rows j f k s t h =
    omega (
      arith,
      sum_where-take (λ r. is_of f k r && ltb r.slot s) rows j,
      sum_where_mono (λ r. is_of f k r && ltb r.slot s) (λ r. is_of f k r && ltb r.slot t) rows (λ r. one (is_of f k r) r.slot r.processors),
    )
  where
    one : (c : Bool) (u n : ℕ) → (if c && ltb u s then n else 0) ≤ (if c && ltb u t then n else 0)
    one false u n = omega arith
    one true u n = go (ltb u s) refl
      where
        go : (d : Bool) → ltb u s ≡ d → (if d then n else 0) ≤ (if ltb u t then n else 0)
        go false e = omega arith
        go true e = rw (lt-ltb u t (omega (arith, ltb-true u s e))) (omega arith)

module _ (b : Book) (opened : ℕ → Bool) (rows : List Row) (row : ℕ) (within : row ≤ length rows) (passed : first_fault (row_fault b opened rows) row ≡ Pass)
    (r : Row) (latest : finish_of (take row rows) r.flow ≤ r.slot + 1) where
  -- from an earlier row of the job
  module _ (q : Row) (j : ℕ) (below : j < row) (is-q : get_or rows j no_row ≡ q) (same_flow : q.flow ≡ r.flow) (slot : q.slot ≤ r.slot) where
    q-passes : RowPasses b opened rows j
    q-passes = row-passes b opened rows j (fault-pass (row_fault b opened rows) row passed j below)

    by-earlier-release : before_release b r ≡ false
    unfolding before_release
    by-earlier-release =
        let from : (flow_of b q.flow).release ≤ q.slot = rw is-q at q-passes.released in
        le-ltb r.slot (flow_of b r.flow).release (omega (arith, from, slot, ap (λ f. (flow_of b f).release) same_flow))

    by-earlier-row : q.job ≡ r.job → lacks_predecessor b (take row rows) r ≡ false
    unfolding PredecessorsDone
    by-earlier-row same-job =
        let passes : PredecessorsDone b (take j rows) q = rw is-q at q-passes.predecessors_done in
        let less : take j (take row rows) ≡ take j rows = take-take j row rows (omega arith) in
        none_lacks b (take row rows) r (λ k l p.
        let has : (job_of (flow_of b q.flow) k).size ≤ done_before (take j rows) q.flow k q.slot =
        passes k (omega arith) (ap (λ i. precedes (flow_of b q.flow) k i) same-job ∙ ap (λ f. precedes (flow_of b f) k r.job) same_flow ∙ p) in
        omega (
          arith,
          has,
          ap (λ f. (job_of (flow_of b f) k).size) same_flow,
          ap (λ f. done_before (take j rows) f k q.slot) same_flow,
          ap (λ s. done_before s r.flow k q.slot) less,
          done_grows (take row rows) j r.flow k q.slot r.slot slot,
        ))

  pub started : 0 < total_of (take row rows) r.flow r.job → (before_release b r ≡ false) × (lacks_predecessor b (take row rows) r ≡ false)
  unfolding total_of
  started h =
      let met = sum_where_met (λ q. is_of r.flow r.job q) (take row rows) h in
      let q = met.0 in
      let of = (and-eq-true_iff (eqb q.flow r.flow) (eqb q.job r.job)).0 met.2 in
      let same_flow : q.flow ≡ r.flow = eqb-true q.flow r.flow of.0 in
      let at = in-at no_row met.1 in
      let below : at.0 < row = omega (arith, at.1, length-take row rows) in
      let is-q = sym (get_or-take row rows at.0 no_row below) ∙ at.2 in
      let slot : q.slot ≤ r.slot = omega (arith, finish-above (take row rows) r.flow q met.1 same_flow) in
      (by-earlier-release q at.0 below is-q same_flow slot, by-earlier-row q at.0 below is-q same_flow slot (eqb-true q.job r.job of.1))
