-- The stages of a table's judgement put together: 14, the walk over the rows, 20, 21. A stage counts where those before
-- it pass, and the first fault is the table's; where all pass, the work area and the late flows are those of the rows.
-- Assumes nothing.
use mathlib.Core.Path.{◌≡◌, refl, sym, ap, ◌∙◌}
use Prim.Native.Nat.{ℕ, ◌+◌, ◌*◌, ◌≤◌, ◌<◌}
use mathlib.Core.Bool.{Bool, true, false, false≢true}
use Rattle.std.specs.Result.{is_err}
use mathlib.Core.List.{List}
use native.Mathlib.Omega.{arith}
use lib.ListN.{length, take}
use borrow.Author.Tests.{lt-ltb, le-ltb}
use Rattle.std.specs.Prelude.{Result, Ok, Err}
use Rattle.rules.specs.declared.Refusal.{Refusal}
use Rattle.rules.specs.Verdicts.{Verdict, Pass, Refused}
use Rattle.rules.specs.Answers.{◌and_then◌, first_fault, check_accepted, check_refused}
use Rattle.rules.specs.Faults.{fault_number, verdict_by}
use Rattle.rules.specs.Limits.{slots, work_bytes}
use Rattle.rules.specs.Book.{Book, flow_count, job_count, flow_of, InRange}
use Rattle.rules.specs.Calendar.{is_open, calendar_of, calendar_fault}
use Rattle.rules.specs.Reading.{book_of, book_fault, book_with, read_book}
use Rattle.rules.specs.Rows.{work_zero}
use Rattle.rules.specs.Check.{table_rows, table_head_fault, total_fault, finish_fault, table_fault, check_outcome, check_reading, check_call}
use Rattle.rules.proofs.Laws.Faults.{not-pass, fault-stands}
use Rattle.rules.proofs.Reading.Passing.{pass_in-range, pass-reads}
use Rattle.rules.proofs.Reading.SameUse.{with-same, faults-same, judged-same}
use Rattle.rules.proofs.Tables.TableBytes.{head_passes}
use Rattle.table_check.specs.declared.walk.FlowEnd.{FlowEnd}
use Rattle.table_check.specs.Tests.{head_fault}
use Rattle.table_check.specs.Walk.{rows_fault, flow_totals, Ready, TableWalked, mismatches_of, finishes_of, mismatches_fault, finish_fault_by, fault_by, TableJudged, answer_by}
use Rattle.book.specs.declared.passing.Book.{Book as Passing}
use Rattle.book.specs.Late.{late_among}
use Rattle.table_check.proofs.Heads.{head_of_book}
use Rattle.table_check.proofs.Finals.{mismatches-taken, finishes-taken, late-same}

-- ---- stages
stop-here : (v w : Verdict) (n f j : ℕ) → v ≡ Refused n f j → (v and_then w) ≡ v
stop-here v w n f j e = fault-stands v w (λ p. not-pass n f j (sym e ∙ p))

go_on : (v w : Verdict) → v ≡ Pass → (v and_then w) ≡ w
go_on v w e = ap (λ (u : Verdict). u and_then w) e

-- the stages after the rows
unfoldable totals_fault : Book → List ℕ → Verdict
totals_fault b table = first_fault (λ f. first_fault (total_fault b (table_rows b table) f) (job_count (flow_of b f))) (flow_count b)

unfoldable finishes_fault : Book → List ℕ → Verdict
finishes_fault b table = first_fault (finish_fault table (table_rows b table)) (flow_count b)

by_stages : (b : Book) (opened : ℕ → Bool) (table : List ℕ) →
    fault_by b opened table ≡ (table_head_fault b table and_then rows_fault b opened table and_then totals_fault b table and_then finishes_fault b table)
unfolding fault_by flow_totals totals_fault finishes_fault
by_stages b opened table = refl

-- ---- the stages in the values of the code
module _ (k : Passing) {flows : ℕ} (flows-are : flows ≡ flow_count (book_of k.bytes.now)) (table : List ℕ) where
  abbrev b : Book
  b = book_of k.bytes.now

  abbrev rest : (ℕ → Bool) → Verdict
  rest opened = rows_fault (book_of k.bytes.now) opened table and_then totals_fault (book_of k.bytes.now) table and_then finishes_fault (book_of k.bytes.now) table

  head_right : head_fault k.processors flows table ≡ table_head_fault (book_of k.bytes.now) table
  head_right = rw (k.processors_are, flows-are) (head_of_book b table)

  -- 14
  pub head_stops : {opened : ℕ → Bool} {work : List ℕ} {e : Refusal} → Refused (fault_number e.fault) e.flow e.job ≡ head_fault k.processors flows table →
      TableJudged (book_of k.bytes.now) opened table work work (Err e)
  head_stops {opened} {work} {e} is = record {
    verdict = sym (by_stages b opened table
        ∙ ap (λ (u : Verdict). u and_then rest opened) (sym (is ∙ head_right)) ∙ stop-here _ (rest opened) (fault_number e.fault) e.flow e.job refl);
    cleared = refl;
    area = tt;
    late = tt;
  }

  module _ (head-pass : Pass ≡ head_fault k.processors flows table) where
    headed : table_head_fault (book_of k.bytes.now) table ≡ Pass
    headed = sym (head-pass ∙ head_right)

    pub walk_ready : {work : List ℕ} → work_bytes ≤ length work → Ready k.bytes.now table work
    walk_ready h = record { headed = headed; room = h }

    pub finishes-inside : 8 + 2 * flows ≤ length table
    finishes-inside = omega (arith, flows-are, (head_passes b table headed).head_whole)

    after-head : (opened : ℕ → Bool) (v : Verdict) → v ≡ rows_fault (book_of k.bytes.now) opened table →
        fault_by (book_of k.bytes.now) opened table ≡ (v and_then totals_fault (book_of k.bytes.now) table and_then finishes_fault (book_of k.bytes.now) table)
    after-head opened v is =
        by_stages b opened table ∙ go_on (table_head_fault b table) (rest opened) headed
        ∙ ap (λ (u : Verdict). u and_then totals_fault b table and_then finishes_fault b table) (sym is)

    module _ {opened : ℕ → Bool} {before after : List ℕ} where
      -- 15 to 19 and 25
      pub rows_stop : {e : Refusal} → TableWalked (book_of k.bytes.now) opened table before after (Err e) →
          TableJudged (book_of k.bytes.now) opened table before after (Err e)
      rows_stop {e} walked = record {
        verdict = sym (after-head opened _ walked.verdict ∙ stop-here _ (totals_fault b table and_then finishes_fault b table) (fault_number e.fault) e.flow e.job refl);
        cleared = walked.cleared;
        area = tt;
        late = tt;
      }

      -- 20 and 21
      module _ {ends : List FlowEnd} (walked : TableWalked (book_of k.bytes.now) opened table before after (Ok ends)) where
        range : InRange (book_of k.bytes.now)
        range = pass_in-range k.bytes.now k.passes

        pub ends_enough : flows ≤ length ends
        ends_enough = omega (arith, walked.long, flows-are, range.flows_most)

        -- what 20 and 21 find in the flows that are kept
        abbrev found : Verdict
        found = mismatches_fault (mismatches_of (take flows ends)) (length (take flows ends))
            and_then first_fault (finish_fault_by table (finishes_of (take flows ends))) (length (take flows ends))

        found_right : fault_by (book_of k.bytes.now) opened table ≡ found
        unfolding totals_fault finishes_fault
        found_right =
            after-head opened Pass walked.verdict
            ∙ rw (
              mismatches-taken b range (table_rows b table) ends walked.closed flows flows-are ends_enough,
              finishes-taken b range (table_rows b table) ends walked.closed flows flows-are ends_enough table,
            ) refl

        pub ends_stop : {e : Refusal} → Refused (fault_number e.fault) e.flow e.job ≡ found → TableJudged (book_of k.bytes.now) opened table before after (Err e)
        ends_stop is = record { verdict = is ∙ sym found_right; cleared = walked.cleared; area = tt; late = tt }

        pub ends_pass : {late : ℕ} → Pass ≡ found → late ≡ late_among (book_of k.bytes.now) (finishes_of ends) →
            TableJudged (book_of k.bytes.now) opened table before after (Ok late)
        ends_pass is late_is = record {
          verdict = is ∙ sym found_right;
          cleared = walked.cleared;
          area = walked.area;
          late = late_is ∙ late-same b range (table_rows b table) ends walked.closed;
        }

-- ---- a call
-- the table's first fault, by the book with its calendar
fault_with : (book calendar table : List ℕ) → fault_by (book_of book) (is_open (calendar_of calendar)) table ≡ table_fault (book_with book calendar) table
unfolding fault_by rows_fault flow_totals table_fault
fault_with book calendar table =
    let opened = is_open (calendar_of calendar) in
    sym (faults-same (book_with book calendar) (book_of book) (with-same (calendar_of calendar) (book_of book)) opened opened refl table)

module _ (book calendar table area : List ℕ) where
  pub call-unread : {n f j : ℕ} → book_fault book ≡ Refused n f j →
      check_call book calendar table area ≡ record { answer = check_refused n f j; area = area }
  unfolding check_call read_book check_reading
  call-unread e = rw e refl

  module _ (passes : book_fault book ≡ Pass) where
    pub call-calendar-unread : {n f j : ℕ} → calendar_fault calendar ≡ Refused n f j →
        check_call book calendar table area ≡ record { answer = check_refused n f j; area = area }
    unfolding check_call read_book check_reading
    call-calendar-unread e = rw (passes, e) refl

    module _ (kept : calendar_fault calendar ≡ Pass) where
      pub call-short : length area < work_bytes → check_call book calendar table area ≡ record { answer = check_refused 11 255 255; area = area }
      unfolding check_call check_reading
      call-short h = rw (pass-reads book calendar passes kept, lt-ltb (length area) work_bytes h) refl

      module _ (room : work_bytes ≤ length area) {after : List ℕ} {j : Result ℕ Refusal}
          (judged : TableJudged (book_of book) (is_open (calendar_of calendar)) table area after j) where
        call-read : check_call book calendar table area ≡ check_outcome (book_of book) table area (verdict_by j)
        unfolding check_call check_reading
        call-read =
            rw (pass-reads book calendar passes kept, le-ltb (length area) work_bytes room, judged.verdict ∙ fault_with book calendar table)
            (judged-same (book_with book calendar) (book_of book) (with-same (calendar_of calendar) (book_of book)) table area
            (table_fault (book_with book calendar) table))

      module _ (room : work_bytes ≤ length area) {after : List ℕ} where
        pub call-refused : {e : Refusal} → TableJudged (book_of book) (is_open (calendar_of calendar)) table area after (Err e) →
            check_call book calendar table area ≡ record { answer = check_refused (fault_number e.fault) e.flow e.job; area = work_zero slots after }
        unfolding check_outcome
        call-refused judged = call-read room judged ∙ rw judged.cleared refl

        pub call-accepted : {late : ℕ} → TableJudged (book_of book) (is_open (calendar_of calendar)) table area after (Ok late) →
            check_call book calendar table area ≡ record { answer = check_accepted late; area = after }
        unfolding check_outcome
        call-accepted judged = call-read room judged ∙ rw (judged.area, judged.late) refl

        -- the check's own refusals and the table that it accepts
        pub call-failed : (j : Result ℕ Refusal) → is_err j ≡ true → TableJudged (book_of book) (is_open (calendar_of calendar)) table area after j →
            check_call book calendar table area ≡ record { answer = answer_by j; area = work_zero slots after }
        call-failed (Ok late) e judged = absurd (false≢true e)
        call-failed (Err r) e judged = call-refused judged

        pub call-passed : (j : Result ℕ Refusal) → is_err j ≡ false → TableJudged (book_of book) (is_open (calendar_of calendar)) table area after j →
            check_call book calendar table area ≡ record { answer = answer_by j; area = after }
        call-passed (Ok late) e judged = call-accepted judged
        call-passed (Err r) e judged = absurd (false≢true (sym e))
