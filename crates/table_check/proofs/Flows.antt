-- The walk flow by flow: a flow is closed by the totals that its rows leave; between two flows every flow is closed,
-- and the next row is another flow's than the last one, so that service order alone tells whether it comes after it.
-- Assumes nothing.
use mathlib.Core.Path.{◌≡◌, refl, sym, ap, ◌∙◌}
use Prim.Native.Nat.{ℕ, suc, ◌+◌, ◌*◌, ◌≤◌, ◌<◌}
use mathlib.Core.Bool.{Bool}
use mathlib.Core.Logic.{◌⊎◌, inl, inr}
use mathlib.Core.List.{List, []}
use native.Mathlib.Omega.{arith}
use lib.ListN.{length, get_or, take, set, replicate, length-set, length-replicate, get_or-replicate}
use lib.Seq.{take_all}
use Rattle.std.specs.Prelude.{if◌then◌else◌, map, Option, Ok, Err}
use Rattle.std.proofs.lemmas.List.{length-map, map-set, get_or-map}
use lib.Dec.{leb, eqb}
use borrow.Author.Tests.{le-leb, lt-leb, leb-true, ne_eqb}
use Rattle.rules.specs.declared.Fault.{Fault}
use Rattle.rules.specs.declared.Fault.TheVariants as fault
use Rattle.rules.specs.declared.Refusal.{Refusal}
use Rattle.rules.specs.Verdicts.{Pass, Refused}
use Rattle.rules.specs.Faults.{fault_number, refusal_at}
use Rattle.rules.specs.Limits.{slots, work_bytes}
use Rattle.rules.specs.Answers.{first_fault}
use Rattle.rules.specs.Book.{Book, flow_count, job_count, flow_of, job_of, InRange}
use Rattle.rules.specs.Reading.{book_of, book_fault}
use Rattle.rules.specs.Rows as rules
use Rattle.rules.specs.Rows.{sum_where, total_of, finish_of, work_used, work_zero}
use Rattle.rules.specs.Table.{table_head, row_length, row_at}
use Rattle.rules.specs.Check.{no_row, table_rows, table_head_fault, row_fault, total_fault}
use Rattle.rules.proofs.Reading.Caps.{used_in-range}
use Rattle.rules.proofs.Laws.Division.{lt-or_ge}
use Rattle.rules.proofs.Laws.Faults.{not-pass, fault_stop, fault_ext}
use Rattle.rules.proofs.Reading.Passing.{pass_in-range}
use Rattle.rules.proofs.Rows.WorkArea.{used-none, used-over-cleared, cleared-twice, cleared-length}
use Rattle.book.specs.declared.row.Row.{Row}
use Rattle.table_check.specs.declared.row.JobState.{JobState}
use Rattle.table_check.specs.declared.walk.Stop.{Stop}
use Rattle.table_check.specs.declared.walk.FlowEnd.{FlowEnd}
use Rattle.table_check.specs.declared.walk.FlowStop.{FlowStop}
use Rattle.book.specs.Rows.{row_from}
use Rattle.table_check.specs.Tests.{service_key, rank_of, ranks, row_key, least_key, standing_number, mismatch_fault}
use Rattle.table_check.specs.Tally.{totals_of, rows_to, Reached}
use Rattle.table_check.specs.Walk.{rows_fault, flow_totals, FlowBegins, WentOn, RowsWalked, FlowWalked, Ready, mismatches_of, finishes_of, without_rows, Closed, TableWalked}
use Rattle.table_check.proofs.TableRows.{rows_to_lem, more_rows, row_read, no-more_rows}
use Rattle.table_check.proofs.Keys.{KeyFits, service-apart, rank_below}
use Rattle.table_check.proofs.RowFaults.{StandingPassed, flow_unknown, standing_fault, standing-passed}
use Rattle.table_check.proofs.TestNumbers.{fault_some}
use Rattle.table_check.proofs.Finals.{unmet, first-unmet, none_walked, stopped, flow-totals}
use Rattle.table_check.proofs.Jobs.{after_stored}
use Rattle.std.specs.List.{position}

-- ---- a flow is closed
pub flow-closed : {b : Book} {opened : ℕ → Bool} {table before after : List ℕ} {f from : ℕ} {jobs : List JobState} {mismatch : Option ℕ} {w : Stop} →
    RowsWalked b opened table f from before after jobs (Ok w) → mismatch ≡ position unmet jobs →
    FlowWalked b opened table f from before after (Ok (record { next = w.next; end = record { mismatch = mismatch; finish = w.finish } }))
flow-closed {b} {table = table} {f = f} {jobs = jobs} {w = w} walked mismatch-is = record {
  cleared = walked.cleared;
  stopped = tt;
  went = walked.went;
  mismatch = first-unmet walked.held _ mismatch-is ∙ flow-totals b f (take (rows_to b w.next) (table_rows b table)) (totals_of jobs) walked.total;
}

-- ---- between two flows
-- after k rows, all of which pass: every flow is closed, and the next row is another flow's than the last one, whose
-- service key is below `least`
pub record Between (book : List ℕ) (opened : ℕ → Bool) (table : List ℕ) (flows : ℕ) (work₀ work : List ℕ) (ends : List FlowEnd)
    (least at k : ℕ) : Type 0 where
  pub passes : book_fault book ≡ Pass
  pub flows_are : flows ≡ flow_count (book_of book)
  pub headed : table_head_fault (book_of book) table ≡ Pass
  pub room : work_bytes ≤ length work
  pub work_kept : length work ≡ length work₀
  pub cleared : work_zero slots work ≡ work_zero slots work₀
  pub long : length ends ≡ 64
  pub reached : Reached (book_of book) opened table k at work
  pub closed : Closed (book_of book) (take k (table_rows (book_of book) table)) ends
  pub least_high : least_key (book_of book) (table_rows (book_of book) table) k ≤ least * ranks
  pub least_low : least * ranks < least_key (book_of book) (table_rows (book_of book) table) k + ranks
  pub another : (g : ℕ) → g < 64 → k < length (table_rows (book_of book) table) → (get_or (table_rows (book_of book) table) k no_row).flow ≡ g →
      suc (service_key (book_of book) g) ≡ least → ⊥

-- without rows every flow has its mismatch at job 0
abbrev no_rows : FlowEnd
no_rows = record { mismatch = without_rows; finish = 0 }

closed_none : (b : Book) → InRange b → Closed b [] (replicate 64 no_rows)
unfolding flow_totals total_fault total_of finish_of sum_where
closed_none b range = record {
  mismatch_of = λ f h.
      let few : f < 64 = omega (arith, range.flows_most) in
      let some : 0 < job_count (flow_of b f) = (used_in-range range f h).jobs_least in
      let wrong : total_fault b [] f 0 ≡ Refused 20 f 0 =
      rw (ne_eqb 0 (job_of (flow_of b f) 0).size (λ e. omega (arith, ((used_in-range range f h).each_job 0 some).size_least))) refl in
      ap (mismatch_fault f) (end_none f few (λ (e : FlowEnd). e.mismatch) without_rows)
      ∙ sym (stopped (total_fault b [] f) 0 (job_count (flow_of b f)) 20 f 0 some (none_walked _) wrong);
  finish_of_is = λ f h. end_none f h (λ (e : FlowEnd). e.finish) 0;
}
  where
    end_none : (f : ℕ) → f < 64 → {X : Type 0} (part : FlowEnd → X) (d : X) → get_or (map part (replicate 64 no_rows)) f d ≡ part no_rows
    end_none f h part d =
        get_or-map part (replicate {A = FlowEnd} 64 no_rows) f no_rows d (omega (arith, length-replicate {A = FlowEnd} 64 no_rows))
        ∙ ap part (get_or-replicate {A = FlowEnd} 64 f no_rows no_rows h)

module _ {book table entry work : List ℕ} (passes : book_fault book ≡ Pass) {flows : ℕ} (flows-are : flows ≡ flow_count (book_of book)) (ready : Ready book table entry) (from : work ≡ work_zero slots entry) where
  again : work_zero slots work ≡ work
  again = ap (work_zero slots) from ∙ cleared-twice slots entry ∙ sym from

  first-at : 8 + 2 * flows ≡ table_head (book_of book) + row_length * 0
  first-at = omega (arith, flows-are)

  module _ {opened : ℕ → Bool} where
    none-reached : Reached (book_of book) opened table 0 (8 + 2 * flows) work
    unfolding first_fault
    none-reached = record {
      at_is = first-at;
      within = omega arith;
      passed = refl;
      use_of = sym (used-none slots work ∙ again);
    }

    between_none : Between book opened table flows work work (replicate 64 no_rows) 0 (8 + 2 * flows) 0
    unfolding least_key
    between_none = record {
      passes = passes;
      flows_are = flows-are;
      headed = ready.headed;
      room = omega (arith, ready.room, ap length from, cleared-length slots entry ready.room);
      work_kept = refl;
      cleared = refl;
      long = length-replicate {A = FlowEnd} 64 no_rows;
      reached = none-reached;
      closed = closed_none (book_of book) (pass_in-range book passes);
      least_high = omega arith;
      least_low = omega arith;
      another = λ g h l e d. omega arith;
    }

    pub between_first :
        Between book opened table flows work work (replicate 64 no_rows) 0 (8 + 2 * flows) (rows_to (book_of book) (8 + 2 * flows))
    between_first = rw (rows_to_lem (book_of book) (8 + 2 * flows) 0 first-at) between_none

module _ {book : List ℕ} {opened : ℕ → Bool} {table : List ℕ} {flows : ℕ} {work₀ work : List ℕ} {ends : List FlowEnd} {least at k : ℕ}
    (between : Between book opened table flows work₀ work ends least at k) where
  abbrev b : Book
  b = book_of book

  abbrev rows : List rules.Row
  rows = table_rows (book_of book) table

  range : InRange (book_of book)
  range = pass_in-range book between.passes

  pub flows-few : flows ≤ 64
  flows-few = omega (arith, between.flows_are, range.flows_most)

  -- a fault ends the walk
  module _ (entry : List ℕ) (from : work₀ ≡ work_zero slots entry) where
    entry-cleared : (after : List ℕ) → work_zero slots after ≡ work_zero slots work → work_zero slots after ≡ work_zero slots entry
    entry-cleared after e = e ∙ between.cleared ∙ ap (work_zero slots) from ∙ cleared-twice slots entry

    table_stops : {after : List ℕ} {e : Refusal} → Refused (fault_number e.fault) e.flow e.job ≡ rows_fault (book_of book) opened table →
        work_zero slots after ≡ work_zero slots work → TableWalked (book_of book) opened table entry after (Err e)
    table_stops {after} is c = record { verdict = is; cleared = entry-cleared after c; long = tt; closed = tt; area = tt }

    -- no row is left
    pub table-ends : length table ≤ at → TableWalked (book_of book) opened table entry work (Ok ends)
    unfolding rows_fault
    table-ends h =
        let all : k ≡ length rows = no-more_rows between.headed between.reached h in
        let whole : take k rows ≡ rows = take_all k rows (omega arith) in
        record {
          verdict = sym (ap (first_fault (row_fault b opened rows)) (sym all) ∙ between.reached.passed);
          cleared = entry-cleared work refl;
          long = between.long;
          closed = rw whole at between.closed;
          area =
              between.reached.use_of ∙ ap (λ (l : List rules.Row). work_used slots l work) whole ∙ sym (used-over-cleared slots rows work)
              ∙ ap (work_used slots rows) (entry-cleared work refl) ∙ used-over-cleared slots rows entry;
        }

  -- ---- the row that was read, the first of its flow
  module _ (here : at < length table) (r : Row) (read : row_from r ≡ row_at table at) {f : ℕ} (flow_is : f ≡ r.flow) where
    more : k < length (table_rows (book_of book) table)
    more = more_rows between.headed between.reached here

    row_here : get_or (table_rows (book_of book) table) k no_row ≡ row_from r
    row_here = row_read between.headed between.reached here read

    row_stops : (entry : List ℕ) → work₀ ≡ work_zero slots entry → {e : Refusal} →
        row_fault (book_of book) opened (table_rows (book_of book) table) k ≡ Refused (fault_number e.fault) e.flow e.job →
        TableWalked (book_of book) opened table entry work (Err e)
    unfolding rows_fault
    row_stops entry from {e} is =
        table_stops entry from
        (sym (fault_stop (row_fault b opened rows) (length rows) k _ more (not-pass (fault_number e.fault) e.flow e.job) between.reached.passed is)) refl

    pub unknown_stops : (entry : List ℕ) → work₀ ≡ work_zero slots entry → flows ≤ f →
        TableWalked (book_of book) opened table entry work (Err (refusal_at fault.RowRange r.flow r.job))
    unknown_stops entry from h = row_stops entry from (flow_unknown b opened rows k (row_from r) row_here (omega (arith, between.flows_are, flow_is)))

    module _ (in_book : f < flows) {jobs key n : ℕ} (jobs-read : jobs ≡ job_count (flow_of (book_of book) f))
        (key-read : key ≡ (flow_of (book_of book) f).deadline * 64 + r.flow)
        (n-is : n ≡ standing_number jobs (opened r.slot) least key (row_from r)) where
      flow_in_is : r.flow < flow_count (book_of book)
      flow_in_is = omega (arith, between.flows_are, flow_is)

      key_is : key ≡ service_key (book_of book) r.flow
      key_is =
          key-read ∙ ap (λ (d : ℕ). d * 64 + r.flow)
          (ap (λ (g : ℕ). (flow_of (book_of book) g).deadline) flow_is)

      order : KeyFits (row_from r) → leb (least_key (book_of book) (table_rows (book_of book) table) k) (row_key (book_of book) (row_from r)) ≡ leb least key
      unfolding row_key
      order fit = go (lt-or_ge key least)
        where
          go : (key < least) ⊎ (least ≤ key) →
              leb (least_key (book_of book) (table_rows (book_of book) table) k) (service_key (book_of book) r.flow * ranks + rank_of (row_from r)) ≡ leb least key
          go (inl l) =
              let apart : suc key ≡ least → ⊥ = λ e. between.another r.flow fit.flow_fits more (ap (λ (q : rules.Row). q.flow) row_here) (ap suc (sym key_is) ∙ e) in
              let far : suc key < least = go' (lt-or_ge (suc key) least) apart in
              lt-leb (least_key b rows k) (service_key b r.flow * ranks + rank_of (row_from r)) (omega (arith, key_is, between.least_low, rank_below (row_from r) fit)) ∙ sym (lt-leb least key l)
            where
              go' : (suc key < least) ⊎ (least ≤ suc key) → (suc key ≡ least → ⊥) → suc key < least
              go' (inl m) n = m
              go' (inr m) n = absurd (n (omega arith))
          go (inr l) = le-leb (least_key b rows k) (service_key b r.flow * ranks + rank_of (row_from r)) (omega (arith, key_is, between.least_high)) ∙ sym (le-leb least key l)

      n_right : n ≡ standing_number (job_count (flow_of (book_of book) r.flow)) (opened r.slot) least key (row_from r)
      n_right =
          n-is ∙ ap (λ (m : ℕ). standing_number m (opened r.slot) least key (row_from r))
          (jobs-read ∙ ap (λ (g : ℕ). job_count (flow_of (book_of book) g)) flow_is)

      pub standing_stops : (entry : List ℕ) → work₀ ≡ work_zero slots entry → {e : Fault} → fault_number e ≡ n →
          TableWalked (book_of book) opened table entry work (Err (refusal_at e r.flow r.job))
      standing_stops entry from {e} is =
          row_stops entry from
          (standing_fault b opened rows k (row_from r) row_here range between.reached.passed least key (fault_number e) order flow_in_is (is ∙ n_right) (fault_some e))

      -- the flow's rows come after those so far
      module _ (none : n ≡ 0) where
        standing : StandingPassed (book_of book) opened (table_rows (book_of book) table) k (row_from r)
        standing = standing-passed b opened rows k (row_from r) row_here range between.reached.passed least key n order flow_in_is n_right none

        key-least : least ≤ key
        key-least = leb-true least key (sym (order standing.fits) ∙ le-leb (least_key b rows k) (row_key b (row_from r)) standing.after_least)

        pub flow_begins : k ≡ rows_to (book_of book) at → FlowBegins book opened table work f at
        flow_begins k-is = record {
          headed = between.headed;
          room = between.room;
          reached = rw (← k-is) between.reached;
          more = rw (← k-is) more;
          own = rw (← k-is) (ap (λ (q : rules.Row). q.flow) row_here ∙ sym flow_is);
          ahead = rw (← k-is, flow_is, ← key_is) (omega (arith, between.least_high, key-least));
        }

  -- ---- the flow's rows were walked
  pub flow_stops : {f : ℕ} {after : List ℕ} {e : Refusal} → FlowWalked (book_of book) opened table f at work after (Err e) →
      (entry : List ℕ) → work₀ ≡ work_zero slots entry → TableWalked (book_of book) opened table entry after (Err e)
  flow_stops walked entry from = table_stops entry from walked.stopped walked.cleared

  -- and pass
  module _ {f : ℕ} {after : List ℕ} {w : FlowStop} (walked : FlowWalked (book_of book) opened table f at work after (Ok w)) where
    module _ (k-is : k ≡ rows_to (book_of book) at) (f-in : f < flow_count (book_of book)) where
      abbrev m : ℕ
      m = rows_to (book_of book) w.next

      went : WentOn (book_of book) opened table f k (rows_to (book_of book) w.next) w.next after w.end.finish
      went = rw k-is walked.went

      few : f < 64
      few = omega (arith, range.flows_most)

      mismatch-others : (g : ℕ) → (g ≡ f → ⊥) →
          flow_totals (book_of book) (take (rows_to (book_of book) w.next) (table_rows (book_of book) table)) g
          ≡ flow_totals (book_of book) (take k (table_rows (book_of book) table)) g
      unfolding flow_totals total_fault
      mismatch-others g n =
          fault_ext (total_fault b (take m rows) g) (total_fault b (take k rows) g) (job_count (flow_of b g))
          (λ i l. ap (λ (t : ℕ). if eqb t (job_of (flow_of b g) i).size then Pass else Refused 20 g i) (went.others_total g i n))

      mismatch-next : (g : ℕ) → g < flow_count (book_of book) →
          mismatch_fault g (get_or (mismatches_of (set ends f w.end)) g without_rows)
          ≡ flow_totals (book_of book) (take (rows_to (book_of book) w.next) (table_rows (book_of book) table)) g
      mismatch-next =
          rw (map-set (λ (e : FlowEnd). e.mismatch) ends f w.end)
          (after_stored (λ g v. g < flow_count b → mismatch_fault g v ≡ flow_totals b (take m rows) g) (mismatches_of ends) f w.end.mismatch without_rows
          (omega (arith, few, between.long, length-map ends (λ (e : FlowEnd). e.mismatch)))
          (λ h. walked.mismatch) (λ g other h. between.closed.mismatch_of g h ∙ sym (mismatch-others g other)))

      finish-next : (g : ℕ) → g < 64 →
          get_or (finishes_of (set ends f w.end)) g 0 ≡ finish_of (take (rows_to (book_of book) w.next) (table_rows (book_of book) table)) g
      finish-next =
          rw (map-set (λ (e : FlowEnd). e.finish) ends f w.end)
          (after_stored (λ g v. g < 64 → v ≡ finish_of (take m rows) g) (finishes_of ends) f w.end.finish 0
          (omega (arith, few, between.long, length-map ends (λ (e : FlowEnd). e.finish)))
          (λ h. went.finish_of_is) (λ g other h. between.closed.finish_of_is g h ∙ sym (went.others_finish g other)))

      another-next : (g : ℕ) → g < 64 → rows_to (book_of book) w.next < length (table_rows (book_of book) table) →
          (get_or (table_rows (book_of book) table) (rows_to (book_of book) w.next) no_row).flow ≡ g → service_key (book_of book) g ≡ service_key (book_of book) f → ⊥
      another-next g h l e d = service-apart b g f h few (λ same. went.another l (e ∙ same)) d

      pub between_next : {key : ℕ} → key ≡ service_key (book_of book) f → length after ≡ length work →
          Between book opened table flows work₀ after (set ends f w.end) (key + 1) w.next (rows_to (book_of book) w.next)
      between_next {key} key_is kept = record {
        passes = between.passes;
        flows_are = between.flows_are;
        headed = between.headed;
        room = omega (arith, between.room);
        work_kept = kept ∙ between.work_kept;
        cleared = walked.cleared ∙ between.cleared;
        long = length-set ends f w.end ∙ between.long;
        reached = went.reached;
        closed = record { mismatch_of = mismatch-next; finish_of_is = finish-next };
        least_high = omega (arith, went.last_high);
        least_low = omega (arith, went.last_low);
        another = λ g h l e d. another-next g h l e (omega arith);
      }

      pub goes_on : at < w.next
      goes_on = omega (arith, went.some, went.reached.at_is, between.reached.at_is)
