-- A row that has passed 15 to 18 and 25: 19 by its release and by the bits of its predecessors, room to count it, and
-- that the next turn begins with the row counted. Assumes nothing.
use mathlib.Core.Path.{◌≡◌, refl, sym, ap, ◌∙◌}
use Prim.Native.Nat.{ℕ, suc, ◌+◌, ◌*◌, ◌^◌, ◌≤◌, ◌<◌}
use mathlib.Core.Bool.{Bool, true, false, false≢true}
use mathlib.Core.Logic.{◌⊎◌, inl, inr}
use mathlib.Core.List.{List, [], ◌∷◌, ◌++◌}
use native.Mathlib.Nat.{div-one}
use native.Mathlib.Omega.{arith}
use lib.ListN.{length, get_or, take, drop}
use lib.Seq.{sets, length-sets, take-suc}
use lib.Dec.{ltb, leb}
use borrow.Author.Tests.{ltb-true, ltb-false, le-leb, lt-leb}
use Rattle.std.specs.Prelude.{Option, None}
use Rattle.rules.specs.Verdicts.{Refused}
use Rattle.rules.specs.Walks.{any_to, join_from}
use Rattle.rules.specs.Limits.{slots}
use Rattle.rules.specs.Fields.{bytes_of}
use Rattle.rules.specs.Book.{Book, Job, no_job, job_count, flow_of, job_of, has_bit}
use Rattle.rules.specs.Reading.{book_of}
use Rattle.rules.specs.Rows as rules
use Rattle.rules.specs.Rows.{used_in, finish_of, work_used, work_zero}
use Rattle.rules.specs.Check.{no_row, table_rows, before_release, lacks_predecessor, row_fault}
use Rattle.rules.proofs.Reading.Caps.{used_in-range}
use Rattle.rules.proofs.Laws.Division.{lt-or_ge}
use Rattle.rules.proofs.Laws.Faults.{fault-next}
use Rattle.rules.proofs.Laws.Walks.{any_true, any_false}
use Rattle.rules.proofs.Laws.Bits.{no-bit-left}
use Rattle.rules.proofs.Tables.TablePasses.{in-book_of}
use Rattle.rules.proofs.Rows.WorkArea.{used-row, used-rest, used-cleared}
use Rattle.book.specs.declared.row.Row.{Row}
use Rattle.table_check.specs.declared.row.JobState.{JobState}
use Rattle.table_check.specs.declared.row.Tested.{Tested}
use Rattle.book.specs.Promise.{job_from}
use Rattle.book.specs.Rows.{row_from}
use Rattle.std.proofs.lemmas.List.{length-map}
use Rattle.table_check.specs.Tests.{service_key, rank_of, ranks, row_key, least_key, lacks_at, asked_release, asked}
use Rattle.table_check.specs.Tally.{records_of, totals_of, readies_of, Countable, RowCounted, rows_to, Reached, FlowTally}
use Rattle.table_check.proofs.Jobs.{blank, total_at, held_job, held_record}
use Rattle.table_check.proofs.TableRows.{rows_to_lem}
use Rattle.table_check.proofs.Keys.{rank_below}
use Rattle.table_check.proofs.SoFar.{finish-here, finish-there}
use Rattle.table_check.proofs.Tallies.{tally-next, total-others}
use Rattle.table_check.proofs.Started.{started}
use Rattle.table_check.proofs.Turns.{Going, Turn, range, known}
use Rattle.table_check.proofs.RowFaults.{release_fault, lacks_fault, row-passes, lacks_by_ready}

-- the use of each slot does not depend on what the area was
used_self : (n : ℕ) (rows : List rules.Row) (area s : List ℕ) → s ≡ work_used n rows area → s ≡ work_used n rows s
unfolding work_used
used_self n rows area s e =
    e ∙ ap (λ d. join_from (λ t. bytes_of 2 (used_in rows t)) n 0 ++ d) (sym (used-rest n rows area) ∙ ap (drop (2 * n)) (sym e))

-- a bit that is not set lacks nothing
pub unset_lacks : (p m slot : ℕ) (ready : Option ℕ) → has_bit p m ≡ false → lacks_at p m slot ready ≡ false
unfolding lacks_at
unset_lacks p m slot ready e = rw e refl

no-bit : (p : ℕ) → p ≡ 0 → (m : ℕ) → has_bit p m ≡ false
no-bit p e m = no-bit-left p p 0 (sym (div-one p)) e m (omega arith)

-- two numbers compare as they do when both are moved on
shifted : (s m p : ℕ) → leb (suc (s + m)) (s + p) ≡ leb (m + 1) p
shifted s m p = go (lt-or_ge m p)
  where
    go : (m < p) ⊎ (p ≤ m) → leb (suc (s + m)) (s + p) ≡ leb (m + 1) p
    go (inl l) = le-leb (suc (s + m)) (s + p) (omega arith) ∙ sym (le-leb (m + 1) p (omega arith))
    go (inr l) = lt-leb (suc (s + m)) (s + p) (omega arith) ∙ sym (lt-leb (m + 1) p (omega arith))

module _ {book : List ℕ} {opened : ℕ → Bool} {table : List ℕ} {f : ℕ} {from : ℕ} {jobs : List JobState} {work : List ℕ}
    {least finish at k : ℕ} (going : Going book opened table f from jobs work least finish at k) where
  abbrev b : Book
  b = book_of book

  abbrev rows : List rules.Row
  rows = table_rows (book_of book) table

  module _ {r : Row} {t : Tested} (turn : Turn (book_of book) opened table f k (row_from r) t) where
    pub job_in : r.job < job_count (flow_of (book_of book) f)
    job_in = rw turn.own at (in-book_of b (row_from r) turn.standing.inside).2

    pub job_few : r.job < 64
    job_few = turn.standing.fits.job_fits

    pub slot_in : r.slot < slots
    slot_in = turn.standing.fits.slot_fits

    latest : finish_of (take k (table_rows (book_of book) table)) f ≤ r.slot + 1
    latest = rw turn.own at ((known going).rising (row_from r) turn.standing.fits turn.standing.after_least)

    abbrev predecessors : ℕ
    predecessors = (job_of (flow_of (book_of book) f) r.job).predecessors

    tests : lacks_predecessor (book_of book) (take k (table_rows (book_of book) table)) (row_from r)
        ≡ any_to (λ m. lacks_at (job_of (flow_of (book_of book) f) r.job).predecessors m r.slot (get_or (readies_of jobs) m None)) r.job
    tests = lacks_by_ready b f (take k rows) (totals_of jobs) (readies_of jobs) (row_from r) going.tally turn.own job_in slot_in latest

    predecessors-few : (job_of (flow_of (book_of book) f) r.job).predecessors < 2 ^ r.job
    predecessors-few = ((used_in-range (range going) f going.inside).each_job r.job job_in).predecessors_below

    -- once the job has a total, nothing is left of 19
    settled : 0 < get_or (totals_of jobs) r.job 0 →
        (before_release (book_of book) (row_from r) ≡ false) × (lacks_predecessor (book_of book) (take k (table_rows (book_of book) table)) (row_from r) ≡ false)
    settled some =
        started b opened rows k going.reached.within going.reached.passed (row_from r) (rw turn.own latest)
        (rw turn.own (omega (arith, some, going.tally.total r.job job_in)))

    -- the release and the bits, as they are asked of the job that is held
    pub asked_here : {i release : ℕ} → i ≡ r.job → release ≡ (flow_of (book_of book) f).release → {u : Bool} →
        asked_release (get_or jobs i blank).total release r.slot ≡ u → asked_release (get_or (totals_of jobs) r.job 0) (flow_of (book_of book) f).release r.slot ≡ u
    asked_here i-is release-is e = rw (total_at jobs r.job, ← release-is) (rw i-is at e)

    pub bits_here : {i bits : ℕ} → i ≡ r.job → bits ≡ asked (get_or jobs i blank).total (get_or jobs i blank).job.predecessors →
        bits ≡ asked (get_or (totals_of jobs) r.job 0) (job_of (flow_of (book_of book) f) r.job).predecessors
    bits_here i-is e = rw (total_at jobs r.job, ← ap (λ (j : Job). j.predecessors) (held_record going.held r.job)) (rw i-is at e)

    -- the release, as it is asked
    pub unreleased_stops : asked_release (get_or (totals_of jobs) r.job 0) (flow_of (book_of book) f).release r.slot ≡ true →
        row_fault (book_of book) opened (table_rows (book_of book) table) k ≡ Refused 19 r.flow r.job
    unfolding asked_release before_release
    unreleased_stops e = go (ltb 0 (get_or (totals_of jobs) r.job 0)) refl
      where
        go : (u : Bool) → ltb 0 (get_or (totals_of jobs) r.job 0) ≡ u → row_fault (book_of book) opened (table_rows (book_of book) table) k ≡ Refused 19 r.flow r.job
        go true d = absurd (false≢true (rw d at e))
        go false d = release_fault b opened rows k (row_from r) turn.row_is turn.standing turn.amount (rw turn.own (rw d at e))

    pub is-released : asked_release (get_or (totals_of jobs) r.job 0) (flow_of (book_of book) f).release r.slot ≡ false →
        before_release (book_of book) (row_from r) ≡ false
    unfolding asked_release before_release
    is-released e = go (ltb 0 (get_or (totals_of jobs) r.job 0)) refl
      where
        go : (u : Bool) → ltb 0 (get_or (totals_of jobs) r.job 0) ≡ u → before_release (book_of book) (row_from r) ≡ false
        go true d = (settled (ltb-true 0 (get_or (totals_of jobs) r.job 0) d)).0
        go false d = rw turn.own (rw d at e)

    -- the bits that are asked: those of the predecessors, or none where the job has a total
    module _ (bits : ℕ) (bits_are : bits ≡ asked (get_or (totals_of jobs) r.job 0) (job_of (flow_of (book_of book) f) r.job).predecessors) where
      first_or_none : ((bits ≡ 0) × (0 < get_or (totals_of jobs) r.job 0)) ⊎ (bits ≡ (job_of (flow_of (book_of book) f) r.job).predecessors)
      unfolding asked
      first_or_none = go (ltb 0 (get_or (totals_of jobs) r.job 0)) refl
        where
          go : (u : Bool) → ltb 0 (get_or (totals_of jobs) r.job 0) ≡ u →
              ((bits ≡ 0) × (0 < get_or (totals_of jobs) r.job 0)) ⊎ (bits ≡ (job_of (flow_of (book_of book) f) r.job).predecessors)
          go true e = inl (bits_are ∙ rw e refl, ltb-true 0 (get_or (totals_of jobs) r.job 0) e)
          go false e = inr (bits_are ∙ rw e refl)

      pub bits-few : bits < 2 ^ r.job
      bits-few = go first_or_none
        where
          go : ((bits ≡ 0) × (0 < get_or (totals_of jobs) r.job 0)) ⊎ (bits ≡ (job_of (flow_of (book_of book) f) r.job).predecessors) → bits < 2 ^ r.job
          go (inl none) = omega (arith, none.0, predecessors-few)
          go (inr all) = omega (arith, all, predecessors-few)

      -- a bit that is lacking
      pub lacks_stops : before_release (book_of book) (row_from r) ≡ false → (m : ℕ) → m < r.job → lacks_at bits m r.slot (get_or (readies_of jobs) m None) ≡ true →
          row_fault (book_of book) opened (table_rows (book_of book) table) k ≡ Refused 19 r.flow r.job
      lacks_stops released m h e = go first_or_none
        where
          go : ((bits ≡ 0) × (0 < get_or (totals_of jobs) r.job 0)) ⊎ (bits ≡ (job_of (flow_of (book_of book) f) r.job).predecessors) →
              row_fault (book_of book) opened (table_rows (book_of book) table) k ≡ Refused 19 r.flow r.job
          go (inl none) = absurd (false≢true (sym (unset_lacks bits m r.slot (get_or (readies_of jobs) m None) (no-bit bits none.0 m)) ∙ e))
          go (inr all) =
              lacks_fault b opened rows k (row_from r) turn.row_is turn.standing turn.amount released
              (tests ∙ any_true (λ m. lacks_at predecessors m r.slot (get_or (readies_of jobs) m None)) r.job m h (ap (λ (p : ℕ). lacks_at p m r.slot (get_or (readies_of jobs) m None)) (sym all) ∙ e))

      -- none is lacking: at the job's first row all were asked, and later none lacks since its first row was asked
      pub none_lacks : ((m : ℕ) → m < r.job → lacks_at bits m r.slot (get_or (readies_of jobs) m None) ≡ false) →
          lacks_predecessor (book_of book) (take k (table_rows (book_of book) table)) (row_from r) ≡ false
      none_lacks none = go first_or_none
        where
          go : ((bits ≡ 0) × (0 < get_or (totals_of jobs) r.job 0)) ⊎ (bits ≡ (job_of (flow_of (book_of book) f) r.job).predecessors) →
              lacks_predecessor (book_of book) (take k (table_rows (book_of book) table)) (row_from r) ≡ false
          go (inl some) = (settled some.1).1
          go (inr all) =
              tests ∙ any_false (λ m. lacks_at predecessors m r.slot (get_or (readies_of jobs) m None)) r.job (λ m h. ap (λ (p : ℕ). lacks_at p m r.slot (get_or (readies_of jobs) m None)) (sym all) ∙ none m h)

    pub countable : Countable jobs work t.used (row_from r)
    countable = record {
      job_in = omega (arith, job_in, ap length going.held.same, length-map jobs (λ (j : JobState). job_from j.job));
      slot_in = slot_in;
      room = going.room;
      use_fits = omega (arith, turn.used_is, ltb-false b.processors (used_in (take k rows) r.slot + r.processors) turn.amount.room_kept, (range going).processors_most);
      total_fits = omega (
        arith,
        going.tally.total r.job job_in,
        rw turn.own at ((known going).earlier (row_from r) turn.standing.fits turn.standing.after_least),
        (known going).few f r.job r.slot,
        slot_in,
        ltb-false b.processors (used_in (take k rows) r.slot + r.processors) turn.amount.room_kept,
        (range going).processors_most,
      );
    }

    -- the row passes, and it is counted
    module _ (released : before_release (book_of book) (row_from r) ≡ false)
        (none : lacks_predecessor (book_of book) (take k (table_rows (book_of book) table)) (row_from r) ≡ false)
        {jobs' : List JobState} {work' : List ℕ} (counted : RowCounted t.used (row_from r) jobs work jobs' work') where
      abbrev so_far : List rules.Row
      so_far = take k (table_rows (book_of book) table)

      one : take (suc k) (table_rows (book_of book) table) ≡ take k (table_rows (book_of book) table) ++ row_from r ∷ []
      one = rw (take-suc rows k no_row turn.more, turn.row_is) refl

      work_right : work' ≡ work_used slots (take k (table_rows (book_of book) table) ++ row_from r ∷ []) work
      work_right =
          counted.in_use ∙ rw turn.used_is
          (ap (λ (s : List ℕ). sets s (2 * r.slot) (bytes_of 2 (used_in so_far r.slot + r.processors))) going.reached.use_of
          ∙ sym (used-row slots so_far (row_from r) work slot_in))

      -- what lies past the slots of the work area stays
      pub cleared-next : (entry : List ℕ) → work_zero slots work ≡ work_zero slots entry → work_zero slots work' ≡ work_zero slots entry
      cleared-next entry kept = ap (work_zero slots) work_right ∙ used-cleared slots (so_far ++ row_from r ∷ []) work ∙ kept

      reached-next : Reached (book_of book) opened table (suc k) (at + 6) work'
      reached-next = record {
        at_is = omega (arith, going.reached.at_is);
        within = turn.more;
        passed = fault-next (row_fault b opened rows) k going.reached.passed (row-passes b opened rows k (row_from r) turn.row_is turn.standing turn.amount released none);
        use_of = rw one (used_self slots (so_far ++ row_from r ∷ []) work work' work_right);
      }

      tally_right : FlowTally (book_of book) f (take (suc k) (table_rows (book_of book) table)) (totals_of jobs') (readies_of jobs')
      tally_right =
          rw (one, counted.total, counted.complete)
          (tally-next b f so_far (row_from r) turn.own latest (totals_of jobs) (readies_of jobs) going.tally job_few job_in (get_or (records_of jobs) r.job no_job).size
          (ap (λ (j : Job). j.size) (held_job going.held r.job)))

      least_right : least_key (book_of book) (table_rows (book_of book) table) (suc k) ≡ suc (service_key (book_of book) f * ranks + rank_of (row_from r))
      unfolding least_key row_key
      least_right = rw (turn.row_is, turn.own) refl

      going-at : Going book opened table f from jobs' work' (rank_of (row_from r) + 1) (r.slot + 1) (at + 6) (suc k)
      going-at = record {
        passes = going.passes;
        inside = going.inside;
        held = record { same = counted.records ∙ going.held.same };
        table_fits = going.table_fits;
        headed = going.headed;
        room = omega (arith, going.room, ap length counted.in_use, length-sets work (2 * r.slot) (bytes_of 2 (t.used + r.processors)));
        first_more = going.first_more;
        first_own = going.first_own;
        since = omega (arith, going.since);
        reached = reached-next;
        tally = tally_right;
        order = λ p. rw least_right (shifted (service_key b f * ranks) (rank_of (row_from r)) p);
        others_total = λ g i n. rw one (total-others so_far (row_from r) g i (λ e. n (sym e ∙ turn.own))) ∙ going.others_total g i n;
        others_finish = λ g n. rw one (finish-there so_far (row_from r) g (λ e. n (sym e ∙ turn.own))) ∙ going.others_finish g n;
        finish_of_is = rw one (sym (finish-here so_far (row_from r) f turn.own latest));
        last_low = λ l. omega (arith, least_right);
        last_high = omega (arith, least_right, rank_below (row_from r) turn.standing.fits);
      }

      -- the next turn
      pub going_next : {rank : ℕ} → rank ≡ rank_of (row_from r) →
          Going book opened table f from jobs' work' (rank + 1) (r.slot + 1) (at + 6) (rows_to (book_of book) (at + 6))
      going_next e = rw (e, rows_to_lem b (at + 6) (suc k) reached-next.at_is) going-at
