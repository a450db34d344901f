-- What is known of rows that pass: no slot is used beyond P, a job has at most 4,096 in each slot, and the order tells
-- of a row that may come next that its flow has no row in a later slot and its job none in its slot, and of a flow all
-- of whose rows may come next that it has none yet. One row more at a time. Assumes nothing.
use mathlib.Core.Path.{◌≡◌, refl, sym, ap, ◌∙◌, subst}
use Prim.Native.Nat.{ℕ, zero, suc, ◌+◌, ◌*◌, ◌≤◌, ◌<◌}
use mathlib.Core.Bool.{Bool, true, false, ◌&&◌, and-eq-true_iff}
use mathlib.Core.List.{List, [], ◌∷◌, ◌++◌}
use native.Mathlib.Omega.{arith}
use lib.ListN.{length, get_or, take}
use lib.Seq.{take-suc}
use lib.Dec.{ltb, eqb}
use borrow.Author.Tests.{lt-ltb, eq-eqb, ne_eqb, ltb-true, eqb-true, eqb-false, leb-true}
use Rattle.rules.specs.Verdicts.{Pass}
use Rattle.std.specs.Prelude.{if◌then◌else◌}
use Rattle.rules.specs.Answers.{first_fault}
use Rattle.rules.specs.Book.{Book, InRange}
use Rattle.rules.specs.Rows.{Row, sum_where, used_in, is_of, total_of, done_before, finish_of}
use Rattle.rules.specs.Check.{no_row, row_fault}
use Rattle.rules.proofs.Reading.Caps.{used_in-range}
use Rattle.rules.proofs.Laws.Faults.{both-pass, fault-pass}
use Rattle.rules.proofs.Rows.RowsSoFar.{total-last, done-last, finish-last}
use Rattle.rules.proofs.Rows.RowSums.{done-le-total}
use Rattle.rules.proofs.Tables.TablePasses.{RowPasses, row-passes}
use Rattle.rules.proofs.Tables.AcceptedRows.{use_kept}
use Rattle.table_check.specs.Tests.{service_key, ranks, row_key, least_key}
use Rattle.table_check.proofs.Keys.{KeyFits, key_fits, rises_key, key-slots, key-slots-less}

-- ---- one row more, of any rows
-- what a row adds to finish and totals, of its flow and of the others
pub finish-here : (so_far : List Row) (r : Row) (f : ℕ) → r.flow ≡ f → finish_of so_far f ≤ r.slot + 1 → finish_of (so_far ++ r ∷ []) f ≡ r.slot + 1
finish-here so_far r f e h = finish-last so_far r f ∙ rw (eq-eqb r.flow f e) (omega arith)

pub finish-there : (so_far : List Row) (r : Row) (f : ℕ) → (r.flow ≡ f → ⊥) → finish_of (so_far ++ r ∷ []) f ≡ finish_of so_far f
finish-there so_far r f n = finish-last so_far r f ∙ rw (ne_eqb r.flow f n) (omega arith)

-- ---- rows that pass
pub record SoFar (b : Book) (rows : List Row) (k : ℕ) : Type 0 where
  pub used : (t : ℕ) → used_in (take k rows) t ≤ b.processors
  pub few : (f i t : ℕ) → done_before (take k rows) f i t ≤ 4096 * t
  -- a row that may come next stands in no earlier slot than the rows of its flow
  pub rising : (r : Row) → KeyFits r → least_key b rows k ≤ row_key b r → finish_of (take k rows) r.flow ≤ r.slot + 1
  -- its job has nothing in its slot yet
  pub earlier : (r : Row) → KeyFits r → least_key b rows k ≤ row_key b r →
      done_before (take k rows) r.flow r.job r.slot ≡ total_of (take k rows) r.flow r.job
  -- a flow whose rows may all come next has none yet
  pub fresh : (f : ℕ) → least_key b rows k ≤ service_key b f * ranks → finish_of (take k rows) f ≡ 0

module _ (b : Book) (opened : ℕ → Bool) (range : InRange b) (rows : List Row) where
  fits : (k : ℕ) → RowPasses b opened rows k → KeyFits (get_or rows k no_row)
  fits k p = key_fits b (get_or rows k no_row) range p.slot_in p.flow_in_is p.job_in

  passed : (k : ℕ) → first_fault (row_fault b opened rows) k ≡ Pass → (j : ℕ) → j < k → RowPasses b opened rows j
  passed k e j l = row-passes b opened rows j (fault-pass (row_fault b opened rows) k e j l)

  -- the rows that pass rise by their keys
  key-least : (k : ℕ) → first_fault (row_fault b opened rows) k ≡ Pass → RowPasses b opened rows k → least_key b rows k ≤ row_key b (get_or rows k no_row)
  key-least k e p =
      leb-true (least_key b rows k) (row_key b (get_or rows k no_row))
      (sym (rises_key b rows k (λ j l. fits j (passed k e j l)) (fits k p)) ∙ p.comes_after)

  module _ (k : ℕ) (more : k < length rows) (p : RowPasses b opened rows k) (after : least_key b rows k ≤ row_key b (get_or rows k no_row)) (was : SoFar b rows k) where
    abbrev r : Row
    r = get_or rows k no_row

    one : take (suc k) rows ≡ take k rows ++ r ∷ []
    one = take-suc rows k no_row more

    few-next : (f i t : ℕ) → done_before (take (suc k) rows) f i t ≤ 4096 * t
    few-next f i t = rw (one, done-last (take k rows) r f i t) (go (is_of f i r) refl (ltb r.slot t) refl)
      where
        go : (u : Bool) → is_of f i r ≡ u → (v : Bool) → ltb r.slot t ≡ v → done_before (take k rows) f i t + (if u && v then r.processors else 0) ≤ 4096 * t
        go false e v d = omega (arith, was.few f i t)
        go true e false d = omega (arith, was.few f i t)
        go true e true d =
            let of = (and-eq-true_iff (eqb r.flow f) (eqb r.job i)).0 e in
            let same : done_before (take k rows) f i r.slot ≡ total_of (take k rows) f i =
            rw (eqb-true r.flow f of.0, eqb-true r.job i of.1) at (was.earlier r (fits k p) after) in
            omega (
              arith,
              ltb-true r.slot t d,
              done-le-total (take k rows) f i t,
              same,
              was.few f i r.slot,
              p.cap_kept,
              ((used_in-range range r.flow p.flow_in_is).each_job r.job p.job_in).cap_most,
              range.processors_most,
            )

    earlier-next : (q : Row) → KeyFits q → suc (row_key b r) ≤ row_key b q →
        done_before (take (suc k) rows) q.flow q.job q.slot ≡ total_of (take (suc k) rows) q.flow q.job
    earlier-next q fit l =
        rw (one, done-last (take k rows) r q.flow q.job q.slot, total-last (take k rows) r q.flow q.job)
        (go (is_of q.flow q.job r) refl)
      where
        go : (u : Bool) → is_of q.flow q.job r ≡ u →
            done_before (take k rows) q.flow q.job q.slot + (if u && ltb r.slot q.slot then r.processors else 0)
            ≡ total_of (take k rows) q.flow q.job + (if u then r.processors else 0)
        go false e = ap (λ (n : ℕ). n + 0) (was.earlier q fit (omega arith))
        go true e =
            let of = (and-eq-true_iff (eqb r.flow q.flow) (eqb r.job q.job)).0 e in
            let less : r.slot < q.slot = key-slots-less b r q (eqb-true r.flow q.flow of.0) (eqb-true r.job q.job of.1) l in
            rw (lt-ltb r.slot q.slot less) (ap (λ (n : ℕ). n + r.processors) (was.earlier q fit (omega arith)))

    last : finish_of (take k rows) r.flow ≤ r.slot + 1
    last = was.rising r (fits k p) after

    rising-next : (q : Row) → KeyFits q → suc (row_key b r) ≤ row_key b q → finish_of (take (suc k) rows) q.flow ≤ q.slot + 1
    rising-next q fit l = rw one (go (eqb r.flow q.flow) refl)
      where
        go : (t : Bool) → eqb r.flow q.flow ≡ t → finish_of (take k rows ++ r ∷ []) q.flow ≤ q.slot + 1
        go true e =
            let same = eqb-true r.flow q.flow e in
            rw (finish-here (take k rows) r q.flow same (subst (λ g. finish_of (take k rows) g ≤ r.slot + 1) same last))
            (omega (arith, key-slots b r q (fits k p) fit same l))
        go false e =
            rw (finish-there (take k rows) r q.flow (eqb-false r.flow q.flow e)) (was.rising q fit (omega arith))

    fresh-next : (f : ℕ) → suc (row_key b r) ≤ service_key b f * ranks → finish_of (take (suc k) rows) f ≡ 0
    unfolding row_key
    fresh-next f l =
        rw one
        (finish-there (take k rows) r f (λ e. omega (arith, ap (λ g. service_key b g * ranks) e)) ∙ was.fresh f (omega arith))

  pub so_far_lem : (k : ℕ) → k ≤ length rows → first_fault (row_fault b opened rows) k ≡ Pass → SoFar b rows k
  unfolding first_fault least_key used_in total_of done_before finish_of sum_where
  so_far_lem zero h e = record {
    used = λ t. omega arith;
    few = λ f i t. omega arith;
    earlier = λ r fit l. refl;
    rising = λ r fit l. omega arith;
    fresh = λ f l. refl;
  }
  so_far_lem (suc k) h e =
      let both = both-pass (first_fault (row_fault b opened rows) k) (row_fault b opened rows k) e in
      let p = row-passes b opened rows k both.1 in
      let was = so_far_lem k (omega arith) both.0 in
      let after = key-least k both.0 p in
      record {
        used = λ t. use_kept b opened rows t (suc k) h (passed (suc k) e);
        few = few-next k h p after was;
        earlier = earlier-next k h p after was;
        rising = rising-next k h p after was;
        fresh = fresh-next k h p after was;
      }
