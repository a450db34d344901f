-- The ways out of the walk over a flow's rows: a row's fault, a row of another flow, the end of the table. Assumes
-- nothing.
use mathlib.Core.Path.{◌≡◌, sym, ap, ◌∙◌}
use Prim.Native.Nat.{ℕ, ◌≤◌, ◌<◌}
use mathlib.Core.Bool.{Bool}
use mathlib.Core.Logic.{◌⊎◌, inl, inr}
use mathlib.Core.List.{List}
use native.Mathlib.Omega.{arith}
use lib.ListN.{length, get_or}
use Rattle.std.specs.Prelude.{Ok, Err}
use Rattle.rules.specs.declared.Refusal.{Refusal}
use Rattle.rules.specs.Verdicts.{Refused}
use Rattle.rules.specs.Limits.{slots}
use Rattle.rules.specs.Faults.{fault_number}
use Rattle.rules.specs.Book.{Book}
use Rattle.rules.specs.Reading.{book_of}
use Rattle.rules.specs.Rows as rules
use Rattle.rules.specs.Rows.{work_zero}
use Rattle.rules.specs.Table.{row_at}
use Rattle.rules.specs.Check.{no_row, table_rows, row_fault}
use Rattle.rules.proofs.Laws.Division.{lt-or_ge}
use Rattle.rules.proofs.Laws.Faults.{fault_stop, not-pass}
use Rattle.book.specs.declared.row.Row.{Row}
use Rattle.table_check.specs.declared.row.JobState.{JobState}
use Rattle.book.specs.Rows.{row_from}
use Rattle.table_check.specs.Tally.{rows_to}
use Rattle.table_check.specs.Walk.{rows_fault, WentOn, RowsWalked}
use Rattle.table_check.proofs.TableRows.{rows_to_lem, no-more_rows}
use Rattle.table_check.proofs.Turns.{Going, row_here}

module _ {book : List ℕ} {opened : ℕ → Bool} {table : List ℕ} {f : ℕ} {from : ℕ} {jobs : List JobState} {work : List ℕ}
    {least finish at k : ℕ} (going : Going book opened table f from jobs work least finish at k) where
  abbrev b : Book
  b = book_of book

  abbrev rows : List rules.Row
  rows = table_rows (book_of book) table

  module _ {entry : List ℕ} (cleared : work_zero slots work ≡ work_zero slots entry) where
    -- a row's fault ends the walk
    pub walk_stops : k < length (table_rows (book_of book) table) → {e : Refusal} →
        row_fault (book_of book) opened (table_rows (book_of book) table) k ≡ Refused (fault_number e.fault) e.flow e.job →
        RowsWalked (book_of book) opened table f from entry work jobs (Err e)
    unfolding rows_fault
    walk_stops more {e} is = record {
      held = going.held;
      cleared = cleared;
      stopped = sym (fault_stop (row_fault b opened rows) (length rows) k _ more (not-pass (fault_number e.fault) e.flow e.job) going.reached.passed is);
      went = tt;
      total = tt;
    }

    -- the next row is another flow's, or there is none
    walk-leaves : (k < length (table_rows (book_of book) table) → (get_or (table_rows (book_of book) table) k no_row).flow ≡ f → ⊥) →
        RowsWalked (book_of book) opened table f from entry work jobs (Ok (record { next = at; finish = finish }))
    walk-leaves another = record {
      held = going.held;
      cleared = cleared;
      stopped = tt;
      went = rw here went_on;
      total = λ i l. rw here (going.tally.total i l);
    }
      where
        here : rows_to (book_of book) at ≡ k
        here = rows_to_lem b at k going.reached.at_is

        some : rows_to (book_of book) from < k
        some = go (lt-or_ge (rows_to b from) k)
          where
            go : (rows_to (book_of book) from < k) ⊎ (k ≤ rows_to (book_of book) from) → rows_to (book_of book) from < k
            go (inl l) = l
            go (inr l) =
                let same : k ≡ rows_to b from = omega (arith, going.since) in
                absurd (another (omega (arith, going.first_more)) (ap (λ j. (get_or rows j no_row).flow) same ∙ going.first_own))

        went_on : WentOn (book_of book) opened table f (rows_to (book_of book) from) k at work finish
        went_on = record {
          some = some;
          reached = going.reached;
          others_total = going.others_total;
          others_finish = going.others_finish;
          finish_of_is = going.finish_of_is;
          last_low = going.last_low some;
          last_high = going.last_high;
          another = another;
        }

    pub walk_ends : length table ≤ at → RowsWalked (book_of book) opened table f from entry work jobs (Ok (record { next = at; finish = finish }))
    walk_ends h = walk-leaves (λ l e. omega (arith, no-more_rows going.headed going.reached h))

    pub walk_turns : (here : at < length table) (r : Row) → row_from r ≡ row_at table at → (r.flow ≡ f → ⊥) →
        RowsWalked (book_of book) opened table f from entry work jobs (Ok (record { next = at; finish = finish }))
    walk_turns here r read n = walk-leaves (λ l e. n (sym (ap (λ (q : rules.Row). q.flow) (row_here going here r read)) ∙ e))
