-- Rows that pass the check are those of a valid schedule, and the rows of every valid schedule within the slots pass.
-- The first: each row keeps its cap, its flow's release and the open slots; the use of a slot grows row by row and never passes P; a job's rows before a slot
-- sum to what it has before that slot; a predecessor has its size by the rows so far, so it has it by all rows, which have no more. The second:
-- rows so far are fewer than all rows, except of one flow in earlier slots, where they are all rows, since the rows of a flow stand by slot.
-- Assumes nothing.
use mathlib.Core.Path.{◌≡◌, refl, sym, ap, ◌∙◌, subst}
use mathlib.Core.Logic.{◌⊎◌, inl, inr}
use mathlib.Core.Bool.{Bool, true, false, ◌&&◌, and-false, true≢false}
use Prim.Native.Nat.{ℕ, zero, suc, ◌+◌, ◌≤◌, ◌<◌}
use native.Mathlib.Omega.{arith}
use mathlib.Core.List.Memᴰ
use mathlib.Core.List.{List, ◌∷◌, ◌++◌}
use lib.ListN.{length, take, drop, get_or}
use lib.Seq.{take-length, split_at}
use lib.Dec.{ltb, eqb}
use borrow.Author.Tests.{eqb-true, le-ltb, eq-eqb}
use Rattle.rules.specs.Walks.{sum_to}
use Rattle.rules.specs.Limits.{slots}
use Rattle.rules.specs.Calendar.{is_open}
use Rattle.rules.specs.Book.{Book, flow_count, job_count, flow_of, job_of, precedes, usable, InRange}
use Rattle.rules.specs.Rows.{Row, sum_where, used_in, is_of, total_of, done_before}
use Rattle.rules.specs.Schedule.{Schedule, every_flow, IsJob, in_use, Valid, InSlots, schedule_of, schedule_rows}
use Rattle.rules.specs.Check.{no_row}
use Rattle.rules.proofs.Reading.Caps.{used_in-range}
use Rattle.rules.proofs.Laws.Division.{lt-or_ge}
use Rattle.rules.proofs.Laws.Bits.{bit_below}
use Rattle.rules.proofs.Laws.Sums.{sum_ext, sum_quiet}
use Rattle.rules.proofs.Rows.Rising.{◌∈◌, at_in, in-at, Rising, rising-after}
use Rattle.rules.proofs.Rows.RowOrder.{Before, before-slot, rises-rising, rising-rises}
use Rattle.rules.proofs.Rows.RowSums.{IsAt, counted_true, counted_false, sum_where-append, sum_where-none, sum_where-next, sum_where-take, schedule-none, schedule_met, sum-schedule, total_by, done-le-total, used-in_use}
use Rattle.rules.proofs.Rows.ScheduleRows.{IsRow, row_is-job, rising-schedule, schedule-rows-rising, schedule-rows_in, rows_of-schedule, valid-within, schedule_of-rows}
use Rattle.rules.proofs.Placing.Usable.{usable_open, released, usable-from, given-usable}
use Rattle.rules.proofs.Tables.TablePasses.{PredecessorsDone, RowPasses, RowsPass}

-- a predecessor is a job with a lower number
pub predecessor-below : (b : Book) → InRange b → (f i k : ℕ) → f < flow_count b → i < job_count (flow_of b f) → precedes (flow_of b f) k i ≡ true → k < i
predecessor-below b range f i k l m p =
    bit_below (job_of (flow_of b f) i).predecessors i k ((used_in-range range f l).each_job i m).predecessors_below p

-- the first rows have no more than all rows
done-take : (rows : List Row) (n f i t : ℕ) → done_before (take n rows) f i t ≤ done_before rows f i t
unfolding done_before
done-take rows n f i t = sum_where-take (λ r. is_of f i r && ltb r.slot t) rows n

-- where a row of job i of flow f stands in slot t, its predecessor k has its size in earlier slots
done_at : (b : Book) (r : Row) (f i t : ℕ) → IsAt f i t r → (so_far : List Row) (k : ℕ) → k < i → precedes (flow_of b f) k i ≡ true →
    PredecessorsDone b so_far r → (job_of (flow_of b f) k).size ≤ done_before so_far f k t
unfolding PredecessorsDone
done_at b r f i t at-r so_far k below p h =
    rw (at-r.of_flow, at-r.of_slot) at (h k (rw at-r.of_job below) (rw (at-r.of_flow, at-r.of_job) p))

-- the use of a slot never passes P
pub use_kept : (b : Book) (opened : ℕ → Bool) (rows : List Row) (t k : ℕ) → k ≤ length rows → ((j : ℕ) → j < k → RowPasses b opened rows j) →
    used_in (take k rows) t ≤ b.processors
unfolding used_in sum_where
use_kept b opened rows t zero l pass = omega arith
use_kept b opened rows t (suc k) l pass =
    go (eqb (get_or rows k no_row).slot t) refl (use_kept b opened rows t k (omega arith) (λ j h. pass j (omega arith)))
  where
    r : Row
    r = get_or rows k no_row

    in-slot : Row → Bool
    in-slot q = eqb q.slot t

    go : (c : Bool) → eqb r.slot t ≡ c → sum_where in-slot (take k rows) ≤ b.processors → sum_where in-slot (take (suc k) rows) ≤ b.processors
    go true e ih =
        let there : r.slot ≡ t = eqb-true r.slot t e in
        let kept : sum_where in-slot (take k rows) + r.processors ≤ b.processors = rw there at (pass k (omega arith)).processors_kept in
        omega (arith, sum_where-next in-slot rows k no_row l, counted_true in-slot r e)
    go false e ih = omega (arith, sum_where-next in-slot rows k no_row l, counted_false in-slot r e)

-- ---- rows that pass are those of a valid schedule
module _ (b : Book) (range : InRange b) (rows : List Row) (pass : RowsPass b rows) where
  -- what is said of every position of the list is said of every row
  row-at : {r : Row} → r ∈ rows → (k : ℕ) × RowPasses b (is_open b.calendar) rows k × (get_or rows k no_row ≡ r)
  row-at m = let w = in-at no_row m in (w.0, pass.each_row w.0 w.1, w.2)

  pub passing-is_row : (r : Row) → r ∈ rows → IsRow b r
  passing-is_row r m =
      let w = row-at m in
      subst (IsRow b) w.2
      (record { in_book = record { flow_in_is = w.1.flow_in_is; job_in = w.1.job_in }; slot_in = w.1.slot_in; takes = w.1.takes })

  pub passing-rising : Rising (Before b) rows
  passing-rising = rises-rising b rows (λ k l. (pass.each_row k l).comes_after)

  -- the rows that pass are those of the schedule that they state
  pub passing-rows : rows ≡ schedule_rows b (schedule_of rows)
  passing-rows = rows_of-schedule b rows passing-rising passing-is_row

  only-jobs : (f i t : ℕ) (r : Row) → r ∈ rows → IsAt f i t r → IsJob b every_flow f i
  only-jobs f i t r m at-r =
      let known = (passing-is_row r m).in_book in
      record {
        flow_among = refl;
        flow_in_is = omega (arith, known.flow_in_is, at-r.of_flow);
        job_in = rw (at-r.of_flow, at-r.of_job) at known.job_in;
      }

  row-cap : {r : Row} → r ∈ rows → r.processors ≤ (job_of (flow_of b r.flow) r.job).cap
  row-cap m =
      let w = row-at m in
      subst (λ q. q.processors ≤ (job_of (flow_of b q.flow) q.job).cap) w.2 w.1.cap_kept

  cap_kept : (f i t : ℕ) → schedule_of rows f i t ≤ (job_of (flow_of b f) i).cap
  cap_kept f i t = go (lt-or_ge 0 (schedule_of rows f i t))
    where
      go : (0 < schedule_of rows f i t) ⊎ (schedule_of rows f i t ≤ 0) → schedule_of rows f i t ≤ (job_of (flow_of b f) i).cap
      go (inl l) =
          let w = schedule_met rows f i t l in
          let at-r = w.2 in
          let kept = rw (at-r.of_flow, at-r.of_job) at (row-cap w.1) in
          let stated = rw (at-r.of_flow, at-r.of_job, at-r.of_slot) at (rising-schedule b rows passing-rising w.0 w.1) in
          omega (arith, kept, stated)
      go (inr l) = omega arith

  pub passing_use : (t : ℕ) → used_in rows t ≤ b.processors
  passing_use t = rw (← take-length rows) (use_kept b (is_open b.calendar) rows t (length rows) (omega arith) pass.each_row)

  slot_in : (f i t : ℕ) → slots ≤ t → schedule_of rows f i t ≡ 0
  slot_in f i t l = schedule-none rows f i t (λ r m at-r. omega (arith, (passing-is_row r m).slot_in, at-r.of_slot))

  predecessor-done : (f i k t : ℕ) → IsJob b every_flow f i → precedes (flow_of b f) k i ≡ true → 0 < schedule_of rows f i t →
      sum_to (schedule_of rows f k) t ≡ (job_of (flow_of b f) k).size
  predecessor-done f i k t j p l =
      let w = schedule_met rows f i t l in
      let v = row-at w.1 in
      let below = predecessor-below b range f i k j.flow_in_is j.job_in p in
      let done =
      done_at b w.0 f i t w.2 (take v.0 rows) k below p
      (subst (PredecessorsDone b (take v.0 rows)) v.2 v.1.predecessors_done) in
      omega (
        arith,
        done,
        done-take rows v.0 f k t,
        done-le-total rows f k t,
        sum-schedule rows f k t,
        pass.totals f k j.flow_in_is (omega (arith, below, j.job_in)),
      )

  row-usable : {r : Row} → r ∈ rows → usable b (flow_of b r.flow) r.slot ≡ true
  row-usable m =
      let w = row-at m in
      subst (λ q. usable b (flow_of b q.flow) q.slot ≡ true) w.2
      (usable-from b (flow_of b (get_or rows w.0 no_row).flow) (get_or rows w.0 no_row).slot w.1.slot_open w.1.released)

  nothing-unusable : (f i t : ℕ) → usable b (flow_of b f) t ≡ false → schedule_of rows f i t ≡ 0
  nothing-unusable f i t none =
      schedule-none rows f i t
      (λ r m at-r.
      let can = rw (at-r.of_flow, at-r.of_slot) at (row-usable m) in
      true≢false (sym can ∙ none))

  pub passing-valid : Valid b every_flow (schedule_of rows)
  passing-valid = record {
    no_others = λ f i t n. schedule-none rows f i t (λ r m at-r. n (only-jobs f i t r m at-r));
    caps = λ f i t j. cap_kept f i t;
    together = λ t. rw (← used-in_use b rows t (λ r m. (passing-is_row r m).in_book)) (passing_use t);
    horizon = slots;
    nothing_after = slot_in;
    sizes = λ f i j. sum-schedule rows f i slots ∙ total_by rows f i slots (λ r m. (passing-is_row r m).slot_in) ∙ pass.totals f i j.flow_in_is j.job_in;
    precedence = predecessor-done;
    in_usable = λ f i t j. nothing-unusable f i t;
  }

  pub passing_in-slots : InSlots (schedule_of rows)
  unfolding InSlots
  passing_in-slots = slot_in

-- ---- the rows so far
-- with its own row they use no more of a slot than all rows
used-so_far : (rows : List Row) (k : ℕ) → k < length rows →
    used_in (take k rows) (get_or rows k no_row).slot + (get_or rows k no_row).processors ≤ used_in rows (get_or rows k no_row).slot
unfolding used_in
used-so_far rows k l =
    let r = get_or rows k no_row in
    let in-slot : Row → Bool = λ q. eqb q.slot r.slot in
    omega (arith, sum_where-next in-slot rows k no_row l, sum_where-take in-slot rows (suc k), counted_true in-slot r (eq-eqb r.slot r.slot refl))

-- of the row's flow in earlier slots they are all rows
done-so_far : (b : Book) (rows : List Row) → Rising (Before b) rows → (k : ℕ) → k < length rows → (i : ℕ) →
    done_before (take k rows) (get_or rows k no_row).flow i (get_or rows k no_row).slot ≡ done_before rows (get_or rows k no_row).flow i (get_or rows k no_row).slot
unfolding done_before Rising
done-so_far b rows rising k l i =
    omega (
      arith,
      ap (sum_where earlier) split,
      sum_where-append earlier (take k rows) (r ∷ drop (suc k) rows),
      sum_where-none earlier (r ∷ drop (suc k) rows) (λ x m. go x (eqb x.flow r.flow) refl (Memᴰ.cases_cons m)),
    )
  where
    r : Row
    r = get_or rows k no_row

    earlier : Row → Bool
    earlier x = is_of r.flow i x && ltb x.slot r.slot

    split : rows ≡ take k rows ++ r ∷ drop (suc k) rows
    split = split_at rows k no_row l

    later : Rising (Before b) (r ∷ drop (suc k) rows)
    later = rising-after (Before b) (take k rows) (r ∷ drop (suc k) rows) (subst (Rising (Before b)) split rising)

    not_earlier : (x : Row) → x.flow ≡ r.flow → (x ≡ r) ⊎ (x ∈ drop (suc k) rows) → r.slot ≤ x.slot
    not_earlier x e (inl s) = omega (arith, ap (λ q. q.slot) s)
    not_earlier x e (inr m) = before-slot b r x (later.0 x m) (sym e)

    go : (x : Row) (c : Bool) → eqb x.flow r.flow ≡ c → (x ≡ r) ⊎ (x ∈ drop (suc k) rows) → earlier x ≡ false
    go x true e m = rw (le-ltb x.slot r.slot (not_earlier x (eqb-true x.flow r.flow e) m)) (and-false (is_of r.flow i x))
    go x false e m = rw e refl

-- ---- the rows of a valid schedule within the slots pass
module _ (b : Book) (range : InRange b) (σ : Schedule) (valid : Valid b every_flow σ) (within : InSlots σ) where
  abbrev rows : List Row
  rows = schedule_rows b σ

  stated : (f i t : ℕ) → schedule_of rows f i t ≡ σ f i t
  stated = schedule_of-rows b σ (valid-within b σ valid within)

  slot_of : (r : Row) → r ∈ rows → r.slot < slots
  slot_of r m = (schedule-rows_in b σ r m).is_row.slot_in

  -- what the rows of a job sum to before a slot is what the schedule gives
  done-given : (f i t : ℕ) → done_before rows f i t ≡ sum_to (σ f i) t
  done-given f i t = sym (sum-schedule rows f i t) ∙ sum_ext (schedule_of rows f i) (σ f i) t (λ u l. stated f i u)

  used-given : (t : ℕ) → used_in rows t ≡ in_use b σ t
  unfolding in_use
  used-given t =
      used-in_use b rows t (λ r m. (schedule-rows_in b σ r m).is_row.in_book)
      ∙ sum_ext (λ f. sum_to (λ i. schedule_of rows f i t) (job_count (flow_of b f))) (λ f. sum_to (λ i. σ f i t) (job_count (flow_of b f))) (flow_count b)
      (λ f l. sum_ext (λ i. schedule_of rows f i t) (λ i. σ f i t) (job_count (flow_of b f)) (λ i m. stated f i t))

  total-given : (f i : ℕ) → IsJob b every_flow f i → total_of rows f i ≡ (job_of (flow_of b f) i).size
  unfolding InSlots
  total-given f i j =
      let by_slots = sum_quiet (σ f i) slots valid.horizon (λ t l. within f i t l) in
      let by-horizon = sum_quiet (σ f i) valid.horizon slots (λ t l. valid.nothing_after f i t l) in
      omega (arith, total_by rows f i slots slot_of, done-given f i slots, valid.sizes f i j)

  row-passes : (k : ℕ) → k < length rows → RowPasses b (is_open b.calendar) rows k
  unfolding PredecessorsDone
  row-passes k l =
      let r = get_or rows k no_row in
      let o = schedule-rows_in b σ r (at_in rows k no_row l) in
      let j = row_is-job b r o.is_row.in_book in
      let given-some : 0 < σ r.flow r.job r.slot = omega (arith, o.given_there, o.is_row.takes) in
      let can = given-usable b every_flow σ valid r.flow r.job r.slot j given-some in
      record {
        slot_in = o.is_row.slot_in;
        flow_in_is = j.flow_in_is;
        job_in = j.job_in;
        takes = o.is_row.takes;
        slot_open = usable_open b (flow_of b r.flow) r.slot can;
        comes_after = rising-rises b rows (schedule-rows-rising b σ) k l;
        cap_kept = omega (arith, o.given_there, valid.caps r.flow r.job r.slot j);
        processors_kept = omega (arith, used-so_far rows k l, used-given r.slot, valid.together r.slot);
        released = released b (flow_of b r.flow) r.slot can;
        predecessors_done = λ i m p.
            omega (
              arith,
              done-so_far b rows (schedule-rows-rising b σ) k l i,
              done-given r.flow i r.slot,
              valid.precedence r.flow r.job i r.slot j p given-some,
            );
      }

  pub valid-passes : RowsPass b rows
  valid-passes = record {
    each_row = row-passes;
    totals = λ f i l m. total-given f i (record { flow_among = refl; flow_in_is = l; job_in = m });
  }
