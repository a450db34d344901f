-- The tally of a flow that has no rows yet, and the tally as one row of the flow more is counted. A total grows by the
-- row's processors. A job is complete from the slot after the one in which its total reaches its size: rows of a flow
-- stand in no falling order of slots, so before a later slot it has its total, and in the slot itself it still had
-- less. Assumes nothing.
use mathlib.Core.Path.{◌≡◌, refl, sym, ap, ◌∙◌}
use Prim.Native.Nat.{ℕ, ◌+◌, ◌≤◌, ◌<◌}
use mathlib.Core.Bool.{Bool, true, false}
use mathlib.Core.Logic.{◌⊎◌, inl, inr}
use mathlib.Core.List.{List, [], ◌∷◌, ◌++◌}
use native.Mathlib.Nat.{add-zero}
use native.Mathlib.Omega.{arith}
use lib.ListN.{get_or, set, length-set}
use Rattle.std.proofs.lemmas.List.{length-map}
use lib.Dec.{ltb, leb}
use borrow.Author.Tests.{lt-ltb, le-ltb, eq-eqb, ne_eqb, ltb-true, ltb-false, leb-true, leb-false}
use Rattle.std.specs.Prelude.{if◌then◌else◌, Option, Some, None}
use Rattle.rules.specs.Walks.{sum_to}
use Rattle.rules.specs.Limits.{slots}
use Rattle.rules.specs.Book.{Book, flow_count, job_count, flow_of, job_of, InRange}
use Rattle.rules.specs.Rows.{Row, is_of, total_of, done_before, finish_of}
use Rattle.rules.proofs.Reading.Caps.{used_in-range}
use Rattle.rules.proofs.Laws.Division.{lt-or_ge}
use Rattle.rules.proofs.Laws.Walks.{after-set}
use Rattle.rules.proofs.Rows.RowsSoFar.{total-last, done-last, finish-last, done_is-total}
use Rattle.rules.proofs.Rows.RowSums.{done-le-total, sum-schedule}
use Rattle.table_check.specs.Tests.{not_yet, ready_after}
use Rattle.table_check.specs.declared.row.JobState.{JobState}
use Rattle.table_check.proofs.Jobs.{held_count, after_stored}
use Rattle.table_check.specs.Tally.{totals_of, readies_of, JobsLoaded, FlowTally}
use Rattle.table_check.proofs.SoFar.{finish-here}

-- ---- no row of the flow
done-at_start : (so_far : List Row) (f i : ℕ) → done_before so_far f i 0 ≡ 0
unfolding sum_to
done-at_start so_far f i = sym (sum-schedule so_far f i 0)

pub total-none : (so_far : List Row) (f i : ℕ) → finish_of so_far f ≡ 0 → total_of so_far f i ≡ 0
total-none so_far f i e = sym (done_is-total so_far f i 0 (omega arith)) ∙ done-at_start so_far f i

pub tally-none : (b : Book) (f : ℕ) (so_far : List Row) → InRange b → f < flow_count b → finish_of so_far f ≡ 0 → {jobs : List JobState} →
    JobsLoaded b f jobs → FlowTally b f so_far (totals_of jobs) (readies_of jobs)
tally-none b f so_far range h e {jobs = jobs} loaded = record {
  totals_long = length-map jobs _ ∙ held_count loaded.held;
  ready_long = length-map jobs _ ∙ held_count loaded.held;
  total = λ i l. loaded.no_total i l ∙ sym (total-none so_far f i e);
  complete = λ i t l m n.
      lt-ltb (done_before so_far f i t) (job_of (flow_of b f) i).size
      (omega (arith, ((used_in-range range f h).each_job i l).size_least, done-le-total so_far f i t, total-none so_far f i e))
      ∙ sym (ap (not_yet t) (loaded.not_complete i l));
}

-- ---- one row of the flow more
-- a job's completeness before slot t, where its total goes from `before` to `before + p` by a row in a slot at or
-- before t
ready_decides : (ready : Option ℕ) (before p size slot t done later : ℕ) → slot ≤ t → done ≤ before →
    (t ≤ slot → later ≡ done) → (slot < t → later ≡ before + p) → (slot < t → done ≡ before) → ltb done size ≡ not_yet t ready →
    ltb later size ≡ not_yet t (ready_after ready before (before + p) size slot)
unfolding ready_after
ready_decides ready before p size slot t done later h m in-it past was now =
    go (ltb (before + p) size) refl (leb size before) refl (lt-or_ge slot t)
  where
    go : (u : Bool) → ltb (before + p) size ≡ u → (v : Bool) → leb size before ≡ v → (slot < t) ⊎ (t ≤ slot) →
        ltb later size ≡ not_yet t (if ltb (before + p) size then ready else if leb size before then ready else Some (slot + 1))
    go true e v d (inl k) =
        let short = ltb-true (before + p) size e in
        rw e (lt-ltb later size (omega (arith, past k)) ∙ sym (lt-ltb done size (omega (arith, was k))) ∙ now)
    go true e v d (inr k) = rw (e, in-it k) now
    go false e true d (inl k) =
        let full = leb-true size before d in
        rw (e, d) (le-ltb later size (omega (arith, past k)) ∙ sym (le-ltb done size (omega (arith, was k))) ∙ now)
    go false e true d (inr k) = rw (e, d, in-it k) now
    go false e false d (inl k) =
        rw (e, d) (le-ltb later size (omega (arith, ltb-false (before + p) size e, past k)) ∙ sym (le-ltb t (slot + 1) (omega arith)))
    go false e false d (inr k) =
        rw (e, d) (lt-ltb later size (omega (arith, leb-false size before d, in-it k)) ∙ sym (lt-ltb t (slot + 1) (omega arith)))

module _ (b : Book) (f : ℕ) (so_far : List Row) (r : Row) (own : r.flow ≡ f) where
  of_job : (i : ℕ) → r.job ≡ i → is_of f i r ≡ true
  of_job i e = rw (eq-eqb r.flow f own, eq-eqb r.job i e) refl

  of_other : (i : ℕ) → (r.job ≡ i → ⊥) → is_of f i r ≡ false
  of_other i n = rw (eq-eqb r.flow f own, ne_eqb r.job i n) refl

  total_here : total_of (so_far ++ r ∷ []) f r.job ≡ total_of so_far f r.job + r.processors
  total_here = total-last so_far r f r.job ∙ rw (of_job r.job refl) refl

  total-there : (i : ℕ) → (r.job ≡ i → ⊥) → total_of (so_far ++ r ∷ []) f i ≡ total_of so_far f i
  total-there i n = total-last so_far r f i ∙ rw (of_other i n) (add-zero (total_of so_far f i))

  done-there : (i t : ℕ) → (r.job ≡ i → ⊥) → done_before (so_far ++ r ∷ []) f i t ≡ done_before so_far f i t
  done-there i t n = done-last so_far r f i t ∙ rw (of_other i n) (add-zero (done_before so_far f i t))

  done_in_it : (t : ℕ) → t ≤ r.slot → done_before (so_far ++ r ∷ []) f r.job t ≡ done_before so_far f r.job t
  done_in_it t h = done-last so_far r f r.job t ∙ rw (of_job r.job refl, le-ltb r.slot t h) (add-zero (done_before so_far f r.job t))

  module _ (latest : finish_of so_far f ≤ r.slot + 1) where
    done-past : (t : ℕ) → r.slot < t → done_before (so_far ++ r ∷ []) f r.job t ≡ total_of so_far f r.job + r.processors
    done-past t h = done_is-total (so_far ++ r ∷ []) f r.job t (omega (arith, finish-here so_far r f own latest)) ∙ total_here

    module _ (totals : List ℕ) (ready : List (Option ℕ)) (tally : FlowTally b f so_far totals ready) (few : r.job < 64) (job_in : r.job < job_count (flow_of b f))
        (size : ℕ) (size_is : size ≡ (job_of (flow_of b f) r.job).size) where
      abbrev totals' : List ℕ
      totals' = set totals r.job (get_or totals r.job 0 + r.processors)

      abbrev ready_from : Option ℕ
      ready_from = ready_after (get_or ready r.job None) (get_or totals r.job 0) (get_or totals r.job 0 + r.processors) size r.slot

      abbrev ready' : List (Option ℕ)
      ready' = set ready r.job ready_from

      total-next : (i : ℕ) → i < job_count (flow_of b f) → get_or totals' i 0 ≡ total_of (so_far ++ r ∷ []) f i
      total-next =
          after-set (λ i v. i < job_count (flow_of b f) → v ≡ total_of (so_far ++ r ∷ []) f i) totals r.job _ (omega (arith, tally.totals_long))
          (λ h. ap (λ (n : ℕ). n + r.processors) (tally.total r.job job_in) ∙ sym total_here)
          (λ i other h. tally.total i h ∙ sym (total-there i (λ e. other (sym e))))

      complete-here : (t : ℕ) → r.slot ≤ t → t < slots →
          ltb (done_before (so_far ++ r ∷ []) f r.job t) (job_of (flow_of b f) r.job).size ≡ not_yet t ready_from
      complete-here t h l =
          rw (tally.total r.job job_in, size_is)
          (ready_decides (get_or ready r.job None) (total_of so_far f r.job) r.processors (job_of (flow_of b f) r.job).size r.slot t
          (done_before so_far f r.job t) (done_before (so_far ++ r ∷ []) f r.job t) h (done-le-total so_far f r.job t)
          (done_in_it t) (done-past t) (λ k. done_is-total so_far f r.job t (omega arith))
          (tally.complete r.job t job_in (omega arith) l))

      complete-next : (i t : ℕ) → i < job_count (flow_of b f) → finish_of (so_far ++ r ∷ []) f ≤ t + 1 → t < slots →
          ltb (done_before (so_far ++ r ∷ []) f i t) (job_of (flow_of b f) i).size ≡ not_yet t (get_or ready' i None)
      complete-next =
          after_stored
          (λ i v. (t : ℕ) → i < job_count (flow_of b f) → finish_of (so_far ++ r ∷ []) f ≤ t + 1 → t < slots →
          ltb (done_before (so_far ++ r ∷ []) f i t) (job_of (flow_of b f) i).size ≡ not_yet t v) ready r.job ready_from None (omega (arith, tally.ready_long))
          (λ t h m l. complete-here t (omega (arith, finish-here so_far r f own latest)) l)
          (λ i other t h m l. rw (done-there i t (λ e. other (sym e))) (tally.complete i t h (omega (arith, finish-last so_far r f)) l))

      pub tally-next : FlowTally b f (so_far ++ r ∷ []) totals' ready'
      tally-next = record {
        totals_long = length-set totals r.job _ ∙ tally.totals_long;
        ready_long = length-set ready r.job _ ∙ tally.ready_long;
        total = total-next;
        complete = complete-next;
      }

-- ---- other flows
pub total-others : (so_far : List Row) (r : Row) (g i : ℕ) → (r.flow ≡ g → ⊥) → total_of (so_far ++ r ∷ []) g i ≡ total_of so_far g i
total-others so_far r g i n = total-last so_far r g i ∙ rw (ne_eqb r.flow g n) (add-zero (total_of so_far g i))
