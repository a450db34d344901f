-- 20, 21 and the late flows, turn by turn, and that what the walk handed back gives those of the table. Assumes
-- nothing.
use mathlib.Core.Path.{◌≡◌, refl, sym, ap, ◌∙◌}
use Prim.Native.Nat.{ℕ, ◌+◌, ◌≤◌, ◌<◌}
use mathlib.Core.List.{List}
use native.Mathlib.Numerals.{add-one}
use native.Mathlib.Omega.{arith}
use lib.ListN.{length, get_or, take}
use Rattle.std.specs.Prelude.{Option}
use Rattle.std.proofs.lemmas.List.{take-map, length-take-le, get_or-map, get_or-take}
use lib.Dec.{ltb, eqb}
use mathlib.Core.Bool.{Bool, true, false, not}
use Rattle.std.specs.List.{position, position_or_len}
use Rattle.std.proofs.lemmas.List.Sums.{fails_before_first, passes_at_first}
use borrow.Author.Tests.{eq-eqb, ne_eqb, eqb-true, eqb-false, ltb-true, ltb-false, not-true, not-false}
use Rattle.rules.specs.Verdicts.{Verdict, Pass, Refused}
use Rattle.std.specs.Prelude.{if◌then◌else◌}
use Rattle.rules.specs.Answers.{first_fault}
use Rattle.rules.specs.Book.{Book, Job, flow_count, job_count, flow_of, job_of, InRange}
use Rattle.rules.specs.Rows.{Row, total_of, late_flows}
use Rattle.rules.specs.Table.{finish_in}
use Rattle.rules.specs.Check.{total_fault, finish_fault}
use Rattle.rules.proofs.Laws.Faults.{all_pass, not-pass, fault_stop, fault-next, fault_ext}
use Rattle.table_check.specs.declared.row.JobState.{JobState}
use Rattle.table_check.specs.declared.walk.FlowEnd.{FlowEnd}
use Rattle.table_check.specs.Tests.{mismatch_fault}
use Rattle.table_check.specs.Tally.{totals_of, JobsHeld}
use Rattle.table_check.specs.Walk.{flow_totals, Closed, total_fault_by, mismatches_of, finishes_of, without_rows, mismatches_fault, finish_fault_by}
use Rattle.table_check.proofs.Jobs.{blank, total_at, held_count, held_record}
use Rattle.book.specs.Late.{late_among}
use Rattle.book.proofs.LateFlows.{late-among}

-- ---- walks in the values of a loop
module _ (g : ℕ → Verdict) where
  pub none_walked : first_fault g 0 ≡ Pass
  unfolding first_fault
  none_walked = refl

  pub one_walked : (k : ℕ) → first_fault g k ≡ Pass → g k ≡ Pass → first_fault g (k + 1) ≡ Pass
  one_walked k e d = rw add-one (fault-next g k e d)

  pub all_walked : (k n : ℕ) → k ≤ n → n ≤ k → first_fault g k ≡ Pass → first_fault g n ≡ Pass
  all_walked k n h l e = let same : n ≡ k = omega arith in ap (first_fault g) same ∙ e

  pub stopped : (k n m f j : ℕ) → k < n → first_fault g k ≡ Pass → g k ≡ Refused m f j → first_fault g n ≡ Refused m f j
  stopped k n m f j h e d = fault_stop g n k (Refused m f j) h (not-pass m f j) e d

-- whether a job's total differs from its size
abbrev pub unmet : JobState → Bool
unmet j = not (eqb j.total j.job.size)

-- ---- a flow is closed: by the first job whose total differs from its size, or by none
module _ {b : Book} {f : ℕ} {jobs : List JobState} (held : JobsHeld b f jobs) where
  size_at : (i : ℕ) → (get_or jobs i blank).job.size ≡ (job_of (flow_of b f) i).size
  size_at i = ap (λ (j : Job). j.size) (held_record held i)

  pub total_right : (i : ℕ) → (get_or jobs i blank).total ≡ (get_or jobs i blank).job.size → total_fault_by b f (totals_of jobs) i ≡ Pass
  unfolding total_fault_by
  total_right i e = rw (eq-eqb _ _ (total_at jobs i ∙ e ∙ size_at i)) refl

  pub total_wrong : (i : ℕ) → ((get_or jobs i blank).total ≡ (get_or jobs i blank).job.size → ⊥) → total_fault_by b f (totals_of jobs) i ≡ Refused 20 f i
  unfolding total_fault_by
  total_wrong i n = rw (ne_eqb _ _ (λ e. n (sym (total_at jobs i) ∙ e ∙ sym (size_at i)))) refl

  -- the first of these whose total differs is the first fault, and where there is none all pass
  pub first-unmet : (m : Option ℕ) → m ≡ position unmet jobs → mismatch_fault f m ≡ first_fault (total_fault_by b f (totals_of jobs)) (job_count (flow_of b f))
  first-unmet m m-is = go (ltb (position_or_len unmet jobs) (length jobs)) refl
    where
      met : (k : ℕ) → k < position_or_len unmet jobs → total_fault_by b f (totals_of jobs) k ≡ Pass
      met k l = total_right k (eqb-true _ _ (not-false _ (fails_before_first unmet jobs k blank l)))

      go : (t : Bool) → ltb (position_or_len unmet jobs) (length jobs) ≡ t →
          mismatch_fault f m ≡ first_fault (total_fault_by b f (totals_of jobs)) (job_count (flow_of b f))
      go true d =
          rw (m-is, d)
          (sym (stopped _ (position_or_len unmet jobs) _ 20 f (position_or_len unmet jobs) (omega (arith, ltb-true _ _ d, held_count held))
          (all_pass _ (position_or_len unmet jobs) (λ k l. met k l))
          (total_wrong (position_or_len unmet jobs) (eqb-false _ _ (not-true _ (passes_at_first unmet jobs blank (ltb-true _ _ d)))))))
      go false d =
          rw (m-is, d)
          (sym (all_pass _ (job_count (flow_of b f)) (λ k l. met k (omega (arith, ltb-false _ _ d, held_count held)))))

module _ (table finish : List ℕ) (f v : ℕ) (v-is : v ≡ finish_in table f) where
  pub finish_right : v ≡ get_or finish f 0 → finish_fault_by table finish f ≡ Pass
  unfolding finish_fault_by
  finish_right e = rw (eq-eqb (finish_in table f) (get_or finish f 0) (sym v-is ∙ e)) refl

  pub finish_wrong : (v ≡ get_or finish f 0 → ⊥) → finish_fault_by table finish f ≡ Refused 21 f 255
  unfolding finish_fault_by
  finish_wrong n = rw (ne_eqb (finish_in table f) (get_or finish f 0) (λ e. n (v-is ∙ e))) refl

-- ---- a flow that is kept, in the code's values
module _ (ends : List FlowEnd) (f : ℕ) (d : FlowEnd) (inside : f < length ends) where
  pub mismatch_at : get_or (mismatches_of ends) f without_rows ≡ (get_or ends f d).mismatch
  mismatch_at = get_or-map (λ (e : FlowEnd). e.mismatch) ends f d without_rows inside

  pub finish_at : get_or (finishes_of ends) f 0 ≡ (get_or ends f d).finish
  finish_at = get_or-map (λ (e : FlowEnd). e.finish) ends f d 0 inside

-- ---- the totals of a flow give its verdict
pub flow-totals : (b : Book) (f : ℕ) (so_far : List Row) (totals : List ℕ) →
    ((i : ℕ) → i < job_count (flow_of b f) → get_or totals i 0 ≡ total_of so_far f i) →
    first_fault (total_fault_by b f totals) (job_count (flow_of b f)) ≡ flow_totals b so_far f
unfolding flow_totals total_fault_by total_fault
flow-totals b f so_far totals total =
    fault_ext (total_fault_by b f totals) (total_fault b so_far f) (job_count (flow_of b f))
    (λ i l. ap (λ (n : ℕ). if eqb n (job_of (flow_of b f) i).size then Pass else Refused 20 f i) (total i l))

-- ---- the table's own
-- of each of the first n flows, what the code holds
module _ (ends : List FlowEnd) (n f : ℕ) (h : f < n) where
  mismatch-front : get_or (mismatches_of (take n ends)) f without_rows ≡ get_or (mismatches_of ends) f without_rows
  mismatch-front =
      ap (λ (l : List (Option ℕ)). get_or l f without_rows) (sym (take-map (λ (e : FlowEnd). e.mismatch) n ends)) ∙ get_or-take n (mismatches_of ends) f without_rows h

  finish-front : get_or (finishes_of (take n ends)) f 0 ≡ get_or (finishes_of ends) f 0
  finish-front = ap (λ (l : List ℕ). get_or l f 0) (sym (take-map (λ (e : FlowEnd). e.finish) n ends)) ∙ get_or-take n (finishes_of ends) f 0 h

module _ (b : Book) (range : InRange b) (rows : List Row) (ends : List FlowEnd) (closed : Closed b rows ends) where
  pub mismatches-same : mismatches_fault (mismatches_of ends) (flow_count b)
      ≡ first_fault (λ f. first_fault (total_fault b rows f) (job_count (flow_of b f))) (flow_count b)
  unfolding mismatches_fault flow_totals
  mismatches-same =
      fault_ext (λ f. mismatch_fault f (get_or (mismatches_of ends) f without_rows))
      (λ f. first_fault (total_fault b rows f) (job_count (flow_of b f))) (flow_count b) (λ f h. closed.mismatch_of f h)

  pub finishes-same : (table : List ℕ) → first_fault (finish_fault_by table (finishes_of ends)) (flow_count b)
      ≡ first_fault (finish_fault table rows) (flow_count b)
  unfolding finish_fault_by finish_fault
  finishes-same table =
      fault_ext (finish_fault_by table (finishes_of ends)) (finish_fault table rows) (flow_count b)
      (λ f h. ap (λ (t : ℕ). if eqb (finish_in table f) t then Pass else Refused 21 f 255) (closed.finish_of_is f (omega (arith, range.flows_most))))

  pub late-same : late_among b (finishes_of ends) ≡ late_flows b rows
  late-same = late-among b rows (finishes_of ends) (λ f h. closed.finish_of_is f (omega (arith, range.flows_most)))

  -- of the ends of the book's flows alone
  module _ (n : ℕ) (n-is : n ≡ flow_count b) (enough : n ≤ length ends) where
    pub mismatches-taken : mismatches_fault (mismatches_of (take n ends)) (length (take n ends))
        ≡ first_fault (λ f. first_fault (total_fault b rows f) (job_count (flow_of b f))) (flow_count b)
    unfolding mismatches_fault
    mismatches-taken =
        ap (first_fault _) (length-take-le n ends enough ∙ n-is)
        ∙ fault_ext (λ f. mismatch_fault f (get_or (mismatches_of (take n ends)) f without_rows))
        (λ f. mismatch_fault f (get_or (mismatches_of ends) f without_rows)) (flow_count b)
        (λ f h. ap (mismatch_fault f) (mismatch-front ends n f (omega (arith, n-is))))
        ∙ mismatches-same

    pub finishes-taken : (table : List ℕ) → first_fault (finish_fault_by table (finishes_of (take n ends))) (length (take n ends))
        ≡ first_fault (finish_fault table rows) (flow_count b)
    unfolding finish_fault_by
    finishes-taken table =
        ap (first_fault _) (length-take-le n ends enough ∙ n-is)
        ∙ fault_ext (finish_fault_by table (finishes_of (take n ends))) (finish_fault_by table (finishes_of ends)) (flow_count b)
        (λ f h. ap (λ (t : ℕ). if eqb (finish_in table f) t then Pass else Refused 21 f 255) (finish-front ends n f (omega (arith, n-is))))
        ∙ finishes-same table
