-- A call and its outcome: what number 0 of the check leaves behind, the list put together from head and rows, and the
-- refusal of a longer one. Assumes nothing.
use mathlib.Core.Path.{◌≡◌, refl, sym, ap, ◌∙◌}
use Prim.Native.Nat.{ℕ, zero, suc, ◌+◌, ◌*◌, ◌-◌, ◌≤◌, ◌<◌}
use native.Mathlib.Nat.{div-one}
use native.Mathlib.Omega.{arith}
use mathlib.Core.List.{List, ◌++◌}
use lib.ListN.{length, set, drop, length-append}
use lib.Seq.{sets, sets-eq}
use lib.Dec.{ltb}
use borrow.Author.Tests.{eq-eqb}
use Rattle.rules.specs.Verdicts.{Pass}
use Rattle.std.specs.Prelude.{if◌then◌else◌, Result, Err}
use Rattle.std.specs.Result.{IsErrAnd}
use Rattle.std.proofs.lemmas.Result.{err_from_is_err_and}
use Rattle.table_check.proofs.TestNumbers.{fault_some}
use Rattle.rules.specs.Walks.{join_from}
use Rattle.rules.specs.Fields.{bytes_of}
use Rattle.rules.specs.Answers.{none, list_accepted, list_refused, check_refused}
use Rattle.rules.specs.Limits.{slots, work_bytes}
use Rattle.rules.specs.Book.{Book, flow_count}
use Rattle.rules.specs.Calendar.{calendar_of}
use Rattle.rules.specs.Reading.{read, read_book, book_of, book_with}
use Rattle.rules.specs.Rows.{Row, used_in, work_used, work_zero}
use Rattle.rules.specs.Table.{rows_bytes}
use Rattle.rules.specs.Check.{table_fault, CheckOutcome, check_outcome, check_call}
use Rattle.rules.specs.declared.CheckAnswer.{CheckAnswer}
use Rattle.rules.specs.declared.ListAnswer.{ListAnswer}
use Rattle.rules.specs.declared.Refusal.{Refusal}
use Rattle.rules.specs.Faults.{fault_number}
use Rattle.rules.specs.Dispatch.{DispatchOutcome, in_list_order, list_length, list_bytes, list_outcome, dispatch_checked, dispatch_call}
use Rattle.rules.proofs.Laws.Fields.{bytes-length, sets-append}
use Rattle.rules.proofs.Reading.Passing.{calendar_of_book, read-passes}
use Rattle.rules.proofs.Reading.SameUse.{with-same, rows_same}
use Rattle.rules.proofs.Tables.TablePasses.{accepted-without}
use Rattle.rules.proofs.Rows.WorkArea.{used-length, used-rest, used-cleared}
use Rattle.rules.proofs.Tables.TableBytes.{rows-bytes-length}
use Rattle.rules.proofs.Rows.ListOrder.{length-in_list_order}
use Rattle.rules.proofs.Demands.AcceptsExactly.{call-accepts}
use Rattle.rules.proofs.Demands.Dispatches.{check-reads, dispatches}
use Rattle.dispatch.specs.Accepted.{Accepted, accepted_rows}
use Rattle.dispatch.specs.Merge.{InUse}
use Rattle.dispatch.specs.Call.{list_head_bytes, answer_by, Leaves}
use Rattle.dispatch.proofs.Tables.{rows_fill}

-- ---- the check's number 0
module _ (book calendar table area : List ℕ) (zero : (check_call book calendar table area).answer.number ≡ 0) where
  reads : read_book book calendar ≡ read (book_with book calendar)
  reads = check-reads book calendar table area zero

  accepts : (table_fault (book_with book calendar) table ≡ Pass) × (check_call book calendar table area ≡ check_outcome (book_with book calendar) table area Pass)
      × (work_bytes ≤ length area)
  accepts = call-accepts book calendar table area (book_with book calendar) reads zero

  -- what is accepted with the calendar is accepted without it
  pub number-accepts : Accepted book table
  number-accepts = record {
    book_passes = (read-passes book calendar (book_with book calendar) reads).book_passes;
    table_passes = accepted-without (calendar_of calendar) (book_of book) table accepts.0 (calendar_of_book book);
  }

  pub area_used : (check_call book calendar table area).area ≡ work_used slots (accepted_rows book table) area
  unfolding check_outcome
  area_used =
      ap (λ (o : CheckOutcome). o.area) accepts.1
      ∙ ap (λ (rows : List Row). work_used slots rows area)
      (rows_same (book_with book calendar) (book_of book) (with-same (calendar_of calendar) (book_of book)) table)

  pub left-in_use : {work : List ℕ} → work ≡ (check_call book calendar table area).area → InUse book table work
  unfolding work_used
  left-in_use {work} e =
      let is : work ≡ work_used slots (accepted_rows book table) area = e ∙ area_used in
      record {
        room = omega (arith, accepts.2, ap length is ∙ used-length slots (accepted_rows book table) area accepts.2);
        used =
            is
            ∙ ap (join_from (λ t. bytes_of 2 (used_in (accepted_rows book table) t)) slots 0 ++◌)
            (sym (ap (drop (2 * slots)) is ∙ used-rest slots (accepted_rows book table) area));
      }

-- ---- the length, and the bytes
module _ (book table : List ℕ) (accepted : Accepted book table) where
  abbrev rows : List Row
  rows = accepted_rows book table

  pub size_of_list : (flows : ℕ) → flows ≡ flow_count (book_of book) → length table - 2 * flows - 1 ≡ list_length rows
  unfolding list_length
  size_of_list flows e = omega (arith, rows_fill book table accepted)

-- head and rows, stored one after the other
pub head_stores : (s : List ℕ) (n processors : ℕ) → sets (set (sets s 0 (bytes_of 4 n)) 4 1) 5 (bytes_of 2 processors) ≡ sets s 0 (list_head_bytes n processors)
unfolding bytes_of list_head_bytes
head_stores s n processors = simp div-one

pub list-length_is : (rows : List Row) → list_length rows ≡ 7 + 6 * length rows
unfolding list_length
list-length_is _ = refl

pub list_stores : (b : Book) (rows : List Row) (out : List ℕ) (size : ℕ) → size ≡ list_length rows → size ≤ length out →
    sets (sets out 0 (list_head_bytes size b.processors)) 7 (rows_bytes (in_list_order rows)) ≡ list_bytes b rows ++ drop size out
unfolding list_head_bytes list_bytes
list_stores b rows out size e room =
    let head = bytes_of 4 size ++ bytes_of 1 1 ++ bytes_of 2 b.processors in
    let seven : length head ≡ 7 = simp (length-append, bytes-length) in
    let long : length (head ++ rows_bytes (in_list_order rows)) ≡ size =
    length-append head (rows_bytes (in_list_order rows)) ∙ omega (arith, seven, rows-bytes-length (in_list_order rows), length-in_list_order rows, e ∙ list-length_is rows) in
    let n : 0 + length head ≡ 7 = omega (arith, seven) in
    ap (λ (k : ℕ). sets (sets out 0 head) k (rows_bytes (in_list_order rows))) (sym n)
    ∙ sets-append out 0 head (rows_bytes (in_list_order rows))
    ∙ sets-eq (head ++ rows_bytes (in_list_order rows)) out 0 (omega (arith, long))
    ∙ ap (λ (k : ℕ). head ++ rows_bytes (in_list_order rows) ++ drop k out) (let z : 0 + length (head ++ rows_bytes (in_list_order rows)) ≡ size = omega (arith, long) in z)
    ∙ ap (λ (k : ℕ). bytes_of 4 k ++ bytes_of 1 1 ++ bytes_of 2 b.processors ++ rows_bytes (in_list_order rows) ++ drop size out) e

-- ---- the outcome
module _ (b : Book) (rows : List Row) (out area left : List ℕ) where
  -- where the area was left by the check, clearing it again gives what clearing it before gives
  pub outcome-same : left ≡ work_used slots rows area → list_outcome b rows out area left ≡ list_outcome b rows out left left
  unfolding list_outcome
  outcome-same e =
      let cleared : work_zero slots area ≡ work_zero slots left = sym (ap (work_zero slots) e ∙ used-cleared slots rows area) in
      ap (λ (w : List ℕ).
      if ltb (length out) (list_length rows)
      then record { answer = list_refused 13 none none; output = out; area = w }
      else record { answer = list_accepted (list_length rows); output = list_bytes b rows ++ drop (list_length rows) out; area = left }) cleared

pub positive : (n : ℕ) → (n ≡ 0 → ⊥) → 0 < n
positive zero ne = absurd (ne refl)
positive (suc n) ne = omega arith

pub call-refused : (book calendar table out area : List ℕ) → 0 < (check_call book calendar table area).answer.number →
    dispatch_call book calendar table out area ≡ record {
      answer = list_refused (check_call book calendar table area).answer.number (check_call book calendar table area).answer.flow
          (check_call book calendar table area).answer.job;
      output = out;
      area = (check_call book calendar table area).area;
    }
call-refused = dispatches.check_first

pub call-listed : (book calendar table out area : List ℕ) → (check_call book calendar table area).answer.number ≡ 0 →
    dispatch_call book calendar table out area
    ≡ list_outcome (book_of book) (accepted_rows book table) out (check_call book calendar table area).area (check_call book calendar table area).area
unfolding dispatch_call dispatch_checked
call-listed book calendar table out area z =
    rw (eq-eqb (check_call book calendar table area).answer.number 0 z)
    (outcome-same (book_of book) (accepted_rows book table) out area (check_call book calendar table area).area (area_used book calendar table area z))

-- what is left by the list of an accepted table is what the call leaves
pub listed_after : (book calendar table out area : List ℕ) {left out' area' : List ℕ} {answer : ListAnswer} → left ≡ (check_call book calendar table area).area →
    (check_call book calendar table area).answer.number ≡ 0 → Leaves (list_outcome (book_of book) (accepted_rows book table) out left left) answer out' area' →
    Leaves (dispatch_call book calendar table out area) answer out' area'
listed_after book calendar table out area e z p =
    let q =
    ap (λ (w : List ℕ). list_outcome (book_of book) (accepted_rows book table) out w w) e
    ∙ sym (call-listed book calendar table out area z) in
    record {
      answers = p.answers ∙ ap (λ (o : DispatchOutcome). o.answer) q;
      output_left = p.output_left ∙ ap (λ (o : DispatchOutcome). o.output) q;
      area_left = p.area_left ∙ ap (λ (o : DispatchOutcome). o.area) q;
    }

-- the same of a refusal of the check, handed on as it is
pub refused_after : (book calendar table out area : List ℕ) {left : List ℕ} (e : Refusal) (r : Result ℕ Refusal) → IsErrAnd r (λ y. y ≡ e) →
    left ≡ (check_call book calendar table area).area → check_refused (fault_number e.fault) e.flow e.job ≡ (check_call book calendar table area).answer →
    Leaves (dispatch_call book calendar table out area) (answer_by r) out left
refused_after book calendar table out area e r h left_is same =
    let p = err_from_is_err_and r h in
    let some : 0 < fault_number e.fault = positive (fault_number e.fault) (fault_some e.fault) in
    let q = call-refused book calendar table out area (omega (arith, some, ap (λ (x : CheckAnswer). x.number) same)) in
    record {
      answers =
          ap answer_by (p.1 ∙ ap Err p.2)
          ∙ ap (λ (x : CheckAnswer). list_refused x.number x.flow x.job) same
          ∙ sym (ap (λ (o : DispatchOutcome). o.answer) q);
      output_left = sym (ap (λ (o : DispatchOutcome). o.output) q);
      area_left = left_is ∙ sym (ap (λ (o : DispatchOutcome). o.area) q);
    }
