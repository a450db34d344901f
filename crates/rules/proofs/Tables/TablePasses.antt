-- What the table check tests, as facts: of each row, of the totals and of the finishes, and the other way round; and that a calendar only turns tables down.
-- Each test of a chain of refusals is taken apart by `test-passed`, each walk by `fault-pass`; where the facts hold, every test passes.
-- Assumes nothing.
use mathlib.Core.Path.{◌≡◌, refl, sym, ◌∙◌}
use Prim.Native.Nat.{ℕ, ◌+◌, ◌≤◌, ◌<◌}
use mathlib.Core.Bool.{Bool, true, false, ◌&&◌, ◌||◌, true≢false}
use mathlib.Core.List.{List, []}
use native.Mathlib.Omega.{arith}
use lib.ListN.{length, take, get_or}
use lib.Dec.{leb, eqb}
use borrow.Author.Tests.{ltb-false, leb-false, eqb-false, eqb-true, le-ltb, lt-leb, eq-eqb, ne_eqb, not-false}
use Rattle.rules.specs.Verdicts.{Verdict, Pass, Refused}
use Rattle.rules.specs.Answers.{none, ◌and_then◌, first_fault}
use Rattle.rules.specs.Limits.{slots}
use Rattle.rules.specs.Calendar.{Calendar, is_open}
use Rattle.rules.specs.Book.{Book, with_calendar, flow_count, job_count, flow_of, job_of, precedes}
use Rattle.rules.specs.Rows.{Row, used_in, total_of, done_before, finish_of}
use Rattle.rules.specs.Table.{finish_in}
use Rattle.rules.specs.Check.{no_row, rises, before_release, lacks_predecessor, row_fault, total_fault, finish_fault, table_rows, table_head_fault, table_fault}
use Rattle.rules.proofs.Laws.Walks.{any_none, any_false}
use Rattle.rules.proofs.Laws.Faults.{both-pass, fault-pass, all_pass}
use Rattle.rules.proofs.Reading.Passing.{test-passed, must_hold, neither_true}
use Rattle.rules.proofs.Reading.SameUse.{with-same, faults-same}
use Rattle.rules.proofs.Placing.Usable.{always_open}

-- ---- a row
-- each predecessor of the row's job has its size in earlier slots, by the rows so far
unfoldable pub PredecessorsDone : Book → List Row → Row → Type 0
PredecessorsDone b so_far r =
    (k : ℕ) → k < r.job → precedes (flow_of b r.flow) k r.job ≡ true →
    (job_of (flow_of b r.flow) k).size ≤ done_before so_far r.flow k r.slot

-- row r, after the rows so far, passes 15 to 19 and 25, with these slots open
pub record RowPasses (b : Book) (opened : ℕ → Bool) (rows : List Row) (k : ℕ) : Type 0 where
  pub slot_in : (get_or rows k no_row).slot < slots
  pub flow_in_is : (get_or rows k no_row).flow < flow_count b
  pub job_in : (get_or rows k no_row).job < job_count (flow_of b (get_or rows k no_row).flow)
  pub takes : 0 < (get_or rows k no_row).processors
  pub slot_open : opened (get_or rows k no_row).slot ≡ true
  pub comes_after : rises b rows k ≡ true
  pub cap_kept : (get_or rows k no_row).processors ≤ (job_of (flow_of b (get_or rows k no_row).flow) (get_or rows k no_row).job).cap
  pub processors_kept : used_in (take k rows) (get_or rows k no_row).slot + (get_or rows k no_row).processors ≤ b.processors
  pub released : (flow_of b (get_or rows k no_row).flow).release ≤ (get_or rows k no_row).slot
  pub predecessors_done : PredecessorsDone b (take k rows) (get_or rows k no_row)

pub lacks-none : (b : Book) (so_far : List Row) (r : Row) → lacks_predecessor b so_far r ≡ false → PredecessorsDone b so_far r
unfolding lacks_predecessor PredecessorsDone
lacks-none b so_far r e k l p =
    ltb-false (done_before so_far r.flow k r.slot) (job_of (flow_of b r.flow) k).size (second _ _ p (any_none _ r.job e k l))
  where
    second : (x y : Bool) → x ≡ true → (x && y) ≡ false → y ≡ false
    second true y p e = e
    second false y p e = absurd (true≢false (sym p))

pub none_lacks : (b : Book) (so_far : List Row) (r : Row) → PredecessorsDone b so_far r → lacks_predecessor b so_far r ≡ false
unfolding lacks_predecessor PredecessorsDone
none_lacks b so_far r h =
    any_false _ r.job
    (λ k l. each (precedes (flow_of b r.flow) k r.job)
    (λ p. le-ltb (done_before so_far r.flow k r.slot) (job_of (flow_of b r.flow) k).size (h k l p)))
  where
    each : {y : Bool} (x : Bool) → (x ≡ true → y ≡ false) → (x && y) ≡ false
    each true h = h refl
    each false h = refl

positive : (n : ℕ) → (n ≡ 0 → ⊥) → 0 < n
positive n h = omega arith

-- what 15 leaves of a row
pub in-book_of : (b : Book) (r : Row) →
    (leb slots r.slot || leb (flow_count b) r.flow || leb (job_count (flow_of b r.flow)) r.job || eqb r.processors 0) ≡ false →
    (r.slot < slots) × (r.flow < flow_count b) × (r.job < job_count (flow_of b r.flow)) × (0 < r.processors)
in-book_of b r e =
    let takes = neither_true _ _ e in
    let job = neither_true _ _ takes.0 in
    let flow = neither_true _ _ job.0 in (
      leb-false slots r.slot flow.0,
      leb-false (flow_count b) r.flow flow.1,
      leb-false (job_count (flow_of b r.flow)) r.job job.1,
      positive r.processors (eqb-false r.processors 0 takes.1),
    )

-- "25 when a row uses a shut slot, between 15 and 16" (02, Req 07): a row in range that uses one is 25, wherever it stands in the order
pub shut_is_25 : (b : Book) (opened : ℕ → Bool) (rows : List Row) (k : ℕ) →
    (get_or rows k no_row).slot < slots → (get_or rows k no_row).flow < flow_count b → (get_or rows k no_row).job < job_count (flow_of b (get_or rows k no_row).flow) →
    0 < (get_or rows k no_row).processors → opened (get_or rows k no_row).slot ≡ false →
    row_fault b opened rows k ≡ Refused 25 (get_or rows k no_row).flow (get_or rows k no_row).job
unfolding row_fault
shut_is_25 b opened rows k slot flow job some shut =
    let r = get_or rows k no_row in
    rw (
      lt-leb slots r.slot slot,
      lt-leb (flow_count b) r.flow flow,
      lt-leb (job_count (flow_of b r.flow)) r.job job,
      ne_eqb r.processors 0 (λ e. omega (arith, some)),
      shut,
    ) refl

pub row-passes : (b : Book) (opened : ℕ → Bool) (rows : List Row) (k : ℕ) → row_fault b opened rows k ≡ Pass → RowPasses b opened rows k
unfolding row_fault before_release
row-passes b opened rows k pass =
    let r = get_or rows k no_row in
    let range = test-passed _ 15 r.flow r.job _ pass in
    let shut = test-passed _ 25 r.flow r.job _ range.1 in
    let order = test-passed _ 16 r.flow r.job _ shut.1 in
    let cap = test-passed _ 17 r.flow r.job _ order.1 in
    let used = test-passed _ 18 r.flow r.job _ cap.1 in
    let begun = test-passed _ 19 r.flow r.job _ used.1 in
    let done = neither_true _ _ begun.0 in
    let inside = in-book_of b r range.0 in
    record {
      slot_in = inside.0;
      flow_in_is = inside.1;
      job_in = inside.2;
      takes = inside.3;
      slot_open = not-false (opened r.slot) shut.0;
      comes_after = not-false (rises b rows k) order.0;
      cap_kept = ltb-false (job_of (flow_of b r.flow) r.job).cap r.processors cap.0;
      processors_kept = ltb-false b.processors (used_in (take k rows) r.slot + r.processors) used.0;
      released = ltb-false r.slot (flow_of b r.flow).release done.0;
      predecessors_done = lacks-none b (take k rows) r done.1;
    }

pub passes-row : (b : Book) (opened : ℕ → Bool) (rows : List Row) (k : ℕ) → RowPasses b opened rows k → row_fault b opened rows k ≡ Pass
unfolding row_fault before_release
passes-row b opened rows k p =
    let r = get_or rows k no_row in
    rw (
      lt-leb slots r.slot p.slot_in,
      lt-leb (flow_count b) r.flow p.flow_in_is,
      lt-leb (job_count (flow_of b r.flow)) r.job p.job_in,
      ne_eqb r.processors 0 (λ e. omega (arith, p.takes)),
      p.slot_open,
      p.comes_after,
      le-ltb (job_of (flow_of b r.flow) r.job).cap r.processors p.cap_kept,
      le-ltb b.processors (used_in (take k rows) r.slot + r.processors) p.processors_kept,
      le-ltb r.slot (flow_of b r.flow).release p.released,
      none_lacks b (take k rows) r p.predecessors_done,
    ) refl

-- ---- all rows, and the totals
pub record RowsPass (b : Book) (rows : List Row) : Type 0 where
  pub each_row : (k : ℕ) → k < length rows → RowPasses b (is_open b.calendar) rows k
  pub totals : (f i : ℕ) → f < flow_count b → i < job_count (flow_of b f) → total_of rows f i ≡ (job_of (flow_of b f) i).size

-- ---- the table
pub record TablePasses (b : Book) (s : List ℕ) : Type 0 where
  pub head_passes : table_head_fault b s ≡ Pass
  pub rows_pass : RowsPass b (table_rows b s)
  pub finishes : (f : ℕ) → f < flow_count b → finish_in s f ≡ finish_of (table_rows b s) f

total-passes : (b : Book) (rows : List Row) (f i : ℕ) → total_fault b rows f i ≡ Pass → total_of rows f i ≡ (job_of (flow_of b f) i).size
unfolding total_fault
total-passes b rows f i pass =
    eqb-true (total_of rows f i) (job_of (flow_of b f) i).size (must_hold _ 20 f i pass)

passes-total : (b : Book) (rows : List Row) (f i : ℕ) → total_of rows f i ≡ (job_of (flow_of b f) i).size → total_fault b rows f i ≡ Pass
unfolding total_fault
passes-total b rows f i e = rw (eq-eqb (total_of rows f i) (job_of (flow_of b f) i).size e) refl

finish-passes : (s : List ℕ) (rows : List Row) (f : ℕ) → finish_fault s rows f ≡ Pass → finish_in s f ≡ finish_of rows f
unfolding finish_fault
finish-passes s rows f pass = eqb-true (finish_in s f) (finish_of rows f) (must_hold _ 21 f none pass)

passes-finish : (s : List ℕ) (rows : List Row) (f : ℕ) → finish_in s f ≡ finish_of rows f → finish_fault s rows f ≡ Pass
unfolding finish_fault
passes-finish s rows f e = rw (eq-eqb (finish_in s f) (finish_of rows f) e) refl

module _ (b : Book) (s : List ℕ) where
  abbrev rows : List Row
  rows = table_rows b s

  abbrev opened : ℕ → Bool
  opened = is_open b.calendar

  abbrev pub rows_fault : Verdict
  rows_fault = first_fault (row_fault b opened rows) (length rows)

  abbrev pub job_faults : ℕ → Verdict
  job_faults f = first_fault (total_fault b rows f) (job_count (flow_of b f))

  abbrev pub totals_fault : Verdict
  totals_fault = first_fault job_faults (flow_count b)

  abbrev pub finishes_fault : Verdict
  finishes_fault = first_fault (finish_fault s rows) (flow_count b)

  -- a table that is not turned down
  pub table_passes : table_fault b s ≡ Pass → TablePasses b s
  unfolding table_fault
  table_passes pass =
      let head = both-pass (table_head_fault b s) (rows_fault and_then totals_fault and_then finishes_fault) pass in
      let walk = both-pass rows_fault (totals_fault and_then finishes_fault) head.1 in
      let ends = both-pass totals_fault finishes_fault walk.1 in
      record {
        head_passes = head.0;
        rows_pass = record {
          each_row = λ k l. row-passes b opened rows k (fault-pass (row_fault b opened rows) (length rows) walk.0 k l);
          totals = λ f i l m.
              total-passes b rows f i
              (fault-pass (total_fault b rows f) (job_count (flow_of b f)) (fault-pass job_faults (flow_count b) ends.0 f l) i m);
        };
        finishes = λ f l. finish-passes s rows f (fault-pass (finish_fault s rows) (flow_count b) ends.1 f l);
      }

  pub passes-table : TablePasses b s → table_fault b s ≡ Pass
  unfolding table_fault
  passes-table p =
      rw (
        p.head_passes,
        all_pass (row_fault b opened rows) (length rows) (λ k l. passes-row b opened rows k (p.rows_pass.each_row k l)),
        all_pass job_faults (flow_count b)
            (λ f l. all_pass (total_fault b rows f) (job_count (flow_of b f)) (λ i m. passes-total b rows f i (p.rows_pass.totals f i l m))),
        all_pass (finish_fault s rows) (flow_count b) (λ f l. passes-finish s rows f (p.finishes f l)),
      ) refl

-- ---- a table that is accepted with a calendar is accepted without
-- a row that passes does so where every slot is open
open_row : (b : Book) (opened other : ℕ → Bool) → ((t : ℕ) → other t ≡ true) → (rows : List Row) (k : ℕ) →
    row_fault b opened rows k ≡ Pass → row_fault b other rows k ≡ Pass
open_row b opened other all rows k pass =
    let p = row-passes b opened rows k pass in
    passes-row b other rows k
    (record {
      slot_in = p.slot_in;
      flow_in_is = p.flow_in_is;
      job_in = p.job_in;
      takes = p.takes;
      slot_open = all (get_or rows k no_row).slot;
      comes_after = p.comes_after;
      cap_kept = p.cap_kept;
      processors_kept = p.processors_kept;
      released = p.released;
      predecessors_done = p.predecessors_done;
    })

pub accepted-without : (c : Calendar) (b : Book) (s : List ℕ) → table_fault (with_calendar c b) s ≡ Pass → b.calendar ≡ [] → table_fault b s ≡ Pass
unfolding table_fault
accepted-without c b s pass without =
    let o = with_calendar c b in
    let other = is_open b.calendar in
    let all = rows o s in
    let head = both-pass (table_head_fault o s) (rows_fault o s and_then totals_fault o s and_then finishes_fault o s) pass in
    let walk = both-pass (rows_fault o s) (totals_fault o s and_then finishes_fault o s) head.1 in
    let opened_rows : first_fault (row_fault o other all) (length all) ≡ Pass =
    all_pass (row_fault o other all) (length all)
    (λ k l. open_row o (is_open c) other (λ t. always_open b t without) all k (fault-pass (row_fault o (is_open c) all) (length all) walk.0 k l)) in
    sym (faults-same o b (with-same c b) other other refl s) ∙ rw (head.0, opened_rows) walk.1
