-- What is owed of the dispatch list (02, Req 03). Assumes nothing.
use Rattle.std.specs.Prelude.{◌≡◌, ℕ, suc, ◌+◌, ◌*◌, ◌≤◌, ◌<◌, Bool, true, ◌&&◌, List, [], ◌∷◌, ◌++◌, length, take, drop, get_or, eqb}
use Rattle.rules.specs.Walks.{bit}
use Rattle.rules.specs.Fields.{AllBytes, field, bytes_of}
use Rattle.rules.specs.Answers.{none, list_accepted, list_refused}
use Rattle.rules.specs.Limits.{slots, work_bytes}
use Rattle.rules.specs.Book.{Book}
use Rattle.rules.specs.Reading.{read, read_book}
use Rattle.rules.specs.Rows.{Row, used_in}
use Rattle.rules.specs.Placing.{rows_of, plan}
use Rattle.rules.specs.Planner.{plan_call}
use Rattle.rules.specs.Check.{no_row, table_rows, check_call}
use Rattle.rules.specs.Dispatch.{listed_before, list_head, list_length, rows_in_list, DispatchOutcome, dispatch_call}
use Rattle.rules.specs.Demands.Refusals.{AreaAfterRefusal}

-- ---- the dispatch list (02, Req 03)

-- a refusal, by the check or by 13: "The output is never touched by a refusal, and every count, length or finish returned with it is 0."
pub record DispatchRefusal (out area : List ℕ) (o : DispatchOutcome) : Type 0 where
  pub length_zero : o.answer.length ≡ 0
  pub output_kept : o.output ≡ out
  pub area_left : AreaAfterRefusal o.answer.number area o.area

-- the rows are equal
abbrev pub same_row : Row → Row → Bool
same_row q r = eqb q.slot r.slot && eqb q.flow r.flow && eqb q.job r.job && eqb q.processors r.processors

-- how often a row is among rows
unfoldable pub times_in : Row → List Row → ℕ
times_in r [] = 0
times_in r (q ∷ qs) = bit (same_row q r) + times_in r qs

-- the list in a call's output, "The answer is the list's length", and the rows that stand in it
abbrev pub list_of : DispatchOutcome → List ℕ
list_of o = take o.answer.length o.output

abbrev pub rows_listed : DispatchOutcome → List Row
rows_listed o = rows_in_list (list_of o)

-- what an accepted call leaves, read off its bytes, for a table with these rows
pub record WritesList (b : Book) (rows : List Row) (out : List ℕ) (o : DispatchOutcome) : Type 0 where
  pub length_is : o.answer.length ≡ list_length rows
  -- "length (4), version 1 (1), P (2)"
  pub head : take list_head o.output ≡ bytes_of 4 (list_length rows) ++ bytes_of 1 1 ++ bytes_of 2 b.processors
  -- "Each row appears as often as in the table, so once."
  pub as_often : (r : Row) → times_in r (rows_listed o) ≡ times_in r rows
  pub once : (r : Row) → times_in r (rows_listed o) ≤ 1
  -- "ordered by slot, flow, job": each row comes before the next one
  pub rising : (k : ℕ) → suc k < length (rows_listed o) → listed_before (get_or (rows_listed o) k no_row) (get_or (rows_listed o) (suc k) no_row) ≡ true
  -- "output past it is untouched"
  pub past : drop o.answer.length o.output ≡ drop (list_length rows) out
  -- "the work area ends as the check leaves it": slot by slot it holds the sum of the list's rows
  pub sums : (t : ℕ) → t < slots → field 2 o.area (2 * t) ≡ used_in (rows_listed o) t

pub record Dispatches : Type 0 where
  -- "The refusals of the check apply first", each with its number, place and area
  pub check_first : (book calendar table out area : List ℕ) → 0 < (check_call book calendar table area).answer.number →
      dispatch_call book calendar table out area ≡ record {
        answer = list_refused (check_call book calendar table area).answer.number (check_call book calendar table area).answer.flow (check_call book calendar table area).answer.job;
        output = out;
        area = (check_call book calendar table area).area;
      }
  -- "then 13 if the list is longer than the lent output"; otherwise "The answer is the list's length"
  pub too_long : (book calendar table out area : List ℕ) (b : Book) → read_book book calendar ≡ read b → (check_call book calendar table area).answer.number ≡ 0 →
      length out < list_length (table_rows b table) → (dispatch_call book calendar table out area).answer ≡ list_refused 13 none none
  pub long_enough : (book calendar table out area : List ℕ) (b : Book) → read_book book calendar ≡ read b → (check_call book calendar table area).answer.number ≡ 0 →
      list_length (table_rows b table) ≤ length out → (dispatch_call book calendar table out area).answer ≡ list_accepted (list_length (table_rows b table))
  pub refusal : (book calendar table out area : List ℕ) → 0 < (dispatch_call book calendar table out area).answer.number →
      DispatchRefusal out area (dispatch_call book calendar table out area)
  -- "the table's rows, ordered by slot, flow, job"
  pub lists_table : (book calendar table out area : List ℕ) (b : Book) → read_book book calendar ≡ read b → AllBytes table →
      (dispatch_call book calendar table out area).answer.number ≡ 0 → WritesList b (table_rows b table) out (dispatch_call book calendar table out area)
  -- "the work area ends as the check leaves it", whole, the bytes past 16,384 too
  pub area_as_check : (book calendar table out area : List ℕ) → (dispatch_call book calendar table out area).answer.number ≡ 0 →
      (dispatch_call book calendar table out area).area ≡ (check_call book calendar table area).area
  -- "Nothing is lost by it: two different accepted tables of one book never give equal lists."
  pub nothing_lost : (book calendar table other out out' area area' : List ℕ) → AllBytes table → AllBytes other →
      (dispatch_call book calendar table out area).answer.number ≡ 0 → (dispatch_call book calendar other out' area').answer.number ≡ 0 →
      list_of (dispatch_call book calendar table out area) ≡ list_of (dispatch_call book calendar other out' area') → table ≡ other
  -- the list of a table that the planner wrote has every row of the plan
  pub lists_plan : (book calendar out area list other : List ℕ) (b : Book) → read_book book calendar ≡ read b → (plan_call book calendar out area).answer.number ≡ 0 →
      list_length (rows_of (plan b)) ≤ length list → work_bytes ≤ length other →
      WritesList b (rows_of (plan b)) list (dispatch_call book calendar (take (plan_call book calendar out area).answer.length (plan_call book calendar out area).output) list other)
