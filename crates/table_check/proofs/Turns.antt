-- One turn of the walk over a flow's rows: what holds as it begins, that it holds at the flow's first row, and what the
-- tests 15 to 18 and 25 leave of the row that is read. Assumes nothing.
use mathlib.Core.Path.{◌≡◌, refl, sym, ap, ◌∙◌}
use Prim.Native.Nat.{ℕ, ◌+◌, ◌*◌, ◌≤◌, ◌<◌}
use mathlib.Core.Bool.{Bool, true, false}
use mathlib.Core.List.{List}
use native.Mathlib.Omega.{arith}
use lib.ListN.{length, get_or, take}
use lib.Dec.{leb, eqb}
use borrow.Author.Tests.{le-leb, eqb-true, eqb-false}
use Rattle.std.specs.Prelude.{Result, Ok, Err}
use Rattle.std.proofs.lemmas.Result.{IfOk-at_ok}
use Rattle.rules.specs.declared.Fault.{Fault}
use Rattle.rules.specs.Verdicts.{Pass, Refused}
use Rattle.rules.specs.Faults.{fault_number}
use Rattle.rules.specs.Limits.{slots, work_bytes}
use Rattle.rules.specs.Fields.{field}
use Rattle.rules.specs.Book.{Book, flow_count, job_count, flow_of, job_of, InRange}
use Rattle.rules.specs.Reading.{book_of, book_fault}
use Rattle.rules.specs.Rows as rules
use Rattle.rules.specs.Rows.{used_in, total_of, finish_of, work_zero}
use Rattle.rules.specs.Table.{row_at}
use Rattle.rules.specs.Check.{no_row, table_rows, table_head_fault, row_fault}
use Rattle.rules.proofs.Reading.Passing.{pass_in-range}
use Rattle.rules.proofs.Rows.WorkArea.{used_pair}
use Rattle.book.specs.declared.row.Row.{Row}
use Rattle.table_check.specs.declared.row.JobState.{JobState}
use Rattle.table_check.specs.declared.row.Tested.{Tested}
use Rattle.book.specs.Rows.{row_from}
use Rattle.book.specs.Records.{number_by}
use Rattle.table_check.specs.Tests.{service_key, rank_of, ranks, row_key, least_key, standing_number, amount_number, test_number}
use Rattle.table_check.specs.Tally.{totals_of, readies_of, JobsHeld, JobsLoaded, RowTested, rows_to, Reached, FlowTally}
use Rattle.table_check.specs.Walk.{FlowBegins}
use Rattle.table_check.proofs.TestNumbers.{first-stands, first_passes, first-none, fault_some}
use Rattle.table_check.proofs.TableRows.{more_rows, row_read}
use Rattle.table_check.proofs.Keys.{KeyFits}
use Rattle.table_check.proofs.SoFar.{SoFar, so_far_lem}
use Rattle.table_check.proofs.Tallies.{tally-none}
use Rattle.table_check.proofs.RowFaults.{StandingPassed, AmountPassed, standing_fault, standing-passed, amount_fault, amount-passed}

-- what holds as a turn begins, after k rows; the walk over the rows of the flow began at `from`
pub record Going (book : List ℕ) (opened : ℕ → Bool) (table : List ℕ) (f : ℕ) (from : ℕ) (jobs : List JobState) (work : List ℕ) (least finish at k : ℕ) :
    Type 0 where
  pub passes : book_fault book ≡ Pass
  pub inside : f < flow_count (book_of book)
  pub held : JobsHeld (book_of book) f jobs
  pub table_fits : length table < 18446744073709551616
  pub headed : table_head_fault (book_of book) table ≡ Pass
  pub room : work_bytes ≤ length work
  pub first_more : rows_to (book_of book) from < length (table_rows (book_of book) table)
  pub first_own : (get_or (table_rows (book_of book) table) (rows_to (book_of book) from) no_row).flow ≡ f
  pub since : rows_to (book_of book) from ≤ k
  pub reached : Reached (book_of book) opened table k at work
  pub tally : FlowTally (book_of book) f (take k (table_rows (book_of book) table)) (totals_of jobs) (readies_of jobs)
  -- ranks compare as keys do
  pub order : (p : ℕ) → leb (least_key (book_of book) (table_rows (book_of book) table) k) (service_key (book_of book) f * ranks + p) ≡ leb least p
  pub others_total : (g i : ℕ) → (g ≡ f → ⊥) →
      total_of (take k (table_rows (book_of book) table)) g i ≡ total_of (take (rows_to (book_of book) from) (table_rows (book_of book) table)) g i
  pub others_finish : (g : ℕ) → (g ≡ f → ⊥) →
      finish_of (take k (table_rows (book_of book) table)) g ≡ finish_of (take (rows_to (book_of book) from) (table_rows (book_of book) table)) g
  pub finish_of_is : finish ≡ finish_of (take k (table_rows (book_of book) table)) f
  pub last_low : rows_to (book_of book) from < k → service_key (book_of book) f * ranks < least_key (book_of book) (table_rows (book_of book) table) k
  pub last_high : least_key (book_of book) (table_rows (book_of book) table) k ≤ service_key (book_of book) f * ranks + ranks

-- what is known of row k, which is r, once 15 to 18 and 25 have passed
pub record Turn (b : Book) (opened : ℕ → Bool) (table : List ℕ) (f k : ℕ) (r : rules.Row) (t : Tested) : Type 0 where
  pub more : k < length (table_rows b table)
  pub row_is : get_or (table_rows b table) k no_row ≡ r
  pub own : r.flow ≡ f
  pub standing : StandingPassed b opened (table_rows b table) k r
  pub amount : AmountPassed b (take k (table_rows b table)) r
  pub used_is : t.used ≡ used_in (take k (table_rows b table)) r.slot
  pub size_is : t.size ≡ (job_of (flow_of b f) r.job).size

-- ---- the first turn
pub going-first : {book : List ℕ} {opened : ℕ → Bool} {table work : List ℕ} {f : ℕ} {from : ℕ} {jobs : List JobState} →
    book_fault book ≡ Pass → f < flow_count (book_of book) → FlowBegins book opened table work f from → JobsLoaded (book_of book) f jobs → length table < 18446744073709551616 →
    Going book opened table f from jobs work 0 0 from (rows_to (book_of book) from)
going-first {book} {opened} {table} {f = f} {from = from} passes inside begins loaded fits =
    let range = pass_in-range book passes in
    let k = rows_to (book_of book) from in
    let known = so_far_lem (book_of book) opened range (table_rows (book_of book) table) k begins.reached.within begins.reached.passed in
    let none = known.fresh f begins.ahead in
    record {
      passes = passes;
      inside = inside;
      held = loaded.held;
      table_fits = fits;
      headed = begins.headed;
      room = begins.room;
      first_more = begins.more;
      first_own = begins.own;
      since = omega arith;
      reached = begins.reached;
      tally = tally-none (book_of book) f (take k (table_rows (book_of book) table)) range inside none loaded;
      order = λ p.
          le-leb (least_key (book_of book) (table_rows (book_of book) table) k) (service_key (book_of book) f * ranks + p) (omega (arith, begins.ahead))
          ∙ sym (le-leb 0 p (omega arith));
      others_total = λ g i n. refl;
      others_finish = λ g n. refl;
      finish_of_is = sym none;
      last_low = λ l. absurd (omega arith);
      last_high = omega (arith, begins.ahead);
    }

module _ {book : List ℕ} {opened : ℕ → Bool} {table : List ℕ} {f : ℕ} {from : ℕ} {jobs : List JobState} {work : List ℕ} {least finish at k : ℕ}
    (going : Going book opened table f from jobs work least finish at k) where
  abbrev b : Book
  b = book_of book

  abbrev rows : List rules.Row
  rows = table_rows (book_of book) table

  pub range : InRange (book_of book)
  range = pass_in-range book going.passes

  pub known : SoFar (book_of book) (table_rows (book_of book) table) k
  known = so_far_lem b opened range rows k going.reached.within going.reached.passed

  -- ---- the row that was read
  module _ (here : at < length table) (r : Row) (read : row_from r ≡ row_at table at) where
    pub row_here : get_or (table_rows (book_of book) table) k no_row ≡ row_from r
    row_here = row_read going.headed going.reached here read

    module _ (own : r.flow ≡ f) {t : Result Tested Fault} (tested : RowTested (book_of book) opened f work least (row_from r) t) where
      flow_in_is : r.flow < flow_count (book_of book)
      flow_in_is = omega (arith, own, going.inside)

      by_rank : KeyFits (row_from r) → leb (least_key (book_of book) (table_rows (book_of book) table) k) (row_key (book_of book) (row_from r)) ≡ leb least (rank_of (row_from r))
      unfolding row_key
      by_rank fit = rw own (going.order (rank_of (row_from r)))

      abbrev first : ℕ
      first = standing_number (job_count (flow_of (book_of book) f)) (opened r.slot) least (rank_of (row_from r)) (row_from r)

      abbrev second : ℕ
      second = amount_number (job_of (flow_of (book_of book) f) r.job).cap (field 2 work (2 * r.slot)) (book_of book).processors (row_from r)

      first_right : standing_number (job_count (flow_of (book_of book) f)) (opened r.slot) least (rank_of (row_from r)) (row_from r)
          ≡ standing_number (job_count (flow_of (book_of book) r.flow)) (opened r.slot) least (rank_of (row_from r)) (row_from r)
      first_right = rw own refl

      number_is : number_by t ≡ test_number (book_of book) opened f (field 2 work (2 * r.slot)) least (row_from r)
      number_is = tested.number

      -- 15, 25 and 16 have passed
      module _ (none : standing_number (job_count (flow_of (book_of book) f)) (opened r.slot) least (rank_of (row_from r)) (row_from r) ≡ 0) where
        standing-row : StandingPassed (book_of book) opened (table_rows (book_of book) table) k (row_from r)
        standing-row =
            standing-passed b opened rows k (row_from r) row_here range going.reached.passed least (rank_of (row_from r)) first by_rank flow_in_is first_right none

        used_right : field 2 work (2 * r.slot) ≡ used_in (take k (table_rows (book_of book) table)) r.slot
        used_right =
            rw going.reached.use_of
            (used_pair slots (take k rows) work r.slot standing-row.fits.slot_fits (omega (arith, known.used r.slot, range.processors_most)))

        cap_right : (job_of (flow_of (book_of book) f) r.job).cap ≡ (job_of (flow_of (book_of book) r.flow) r.job).cap
        cap_right = rw own refl

      pub test_stops : (number_by t ≡ 0 → ⊥) → row_fault (book_of book) opened (table_rows (book_of book) table) k ≡ Refused (number_by t) r.flow r.job
      unfolding test_number
      test_stops n = go (eqb first 0) refl
        where
          go : (u : Bool) → eqb first 0 ≡ u → row_fault (book_of book) opened (table_rows (book_of book) table) k ≡ Refused (number_by t) r.flow r.job
          go true e =
              let none : first ≡ 0 = eqb-true first 0 e in
              amount_fault b opened rows k (row_from r) row_here (standing-row none) (field 2 work (2 * r.slot)) (job_of (flow_of (book_of book) f) r.job).cap
              (number_by t) (used_right none) (cap_right none) (number_is ∙ first_passes first second none) n
          go false e =
              standing_fault b opened rows k (row_from r) row_here range going.reached.passed least (rank_of (row_from r)) (number_by t) by_rank flow_in_is
              (number_is ∙ first-stands first second (eqb-false first 0 e) ∙ first_right) n

      pub test_refused : {e : Fault} → t ≡ Err e → row_fault (book_of book) opened (table_rows (book_of book) table) k ≡ Refused (fault_number e) r.flow r.job
      test_refused {e} is =
          let n : number_by t ≡ fault_number e = ap number_by is in
          rw n at (test_stops (λ z. fault_some e (sym n ∙ z)))

      pub turn_of : {x : Tested} → t ≡ Ok x → Turn (book_of book) opened table f k (row_from r) x
      unfolding test_number
      turn_of e =
          let passes : number_by t ≡ 0 = ap number_by e in
          let both = first-none first second (sym number_is ∙ passes) in
          record {
            more = more_rows going.headed going.reached here;
            row_is = row_here;
            own = own;
            standing = standing-row both.0;
            amount = amount-passed b opened rows k (row_from r) row_here (standing-row both.0) (field 2 work (2 * r.slot))
                (job_of (flow_of (book_of book) f) r.job).cap second (used_right both.0) (cap_right both.0) refl both.1;
            used_is = IfOk-at_ok (λ (x : Tested). x.used ≡ field 2 work (2 * r.slot)) e tested.used ∙ used_right both.0;
            size_is = IfOk-at_ok (λ (x : Tested). x.size ≡ (job_of (flow_of (book_of book) f) r.job).size) e tested.size;
          }
