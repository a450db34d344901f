-- Every answer of the planner to an input is printed as the rules say: by cases on the reading, the plan and the
-- table's length, where a
-- refusal is one line and an accepted table's lines are those of the plan. Assumes nothing.
use mathlib.Core.Path.{◌≡◌, refl, sym, ap, ◌∙◌}
use mathlib.Core.Logic.{◌⊎◌, inl, inr}
use Prim.Native.Nat.{ℕ, ◌*◌, ◌≤◌, ◌<◌}
use native.Mathlib.Omega.{arith}
use mathlib.Core.List.{List, ◌++◌, append-nil}
use lib.ListN.{length, take, drop, length-append}
use lib.Seq.{take_at}
use borrow.Author.Tests.{lt-ltb, le-ltb}
use Rattle.rules.specs.declared.PlanAnswer.{PlanAnswer}
use Rattle.rules.specs.Walks.{join_from}
use Rattle.rules.specs.Answers.{none, plan_accepted, plan_refused}
use Rattle.rules.specs.Limits.{work_bytes}
use Rattle.rules.specs.Calendar.{no_windows}
use Rattle.rules.specs.Book.{Book, InRange}
use Rattle.rules.specs.Reading.{Reading, read, unread, read_book}
use Rattle.rules.specs.Rows.{Row, late_flows}
use Rattle.rules.specs.Placing.{Plan, planned, infeasible, plan}
use Rattle.rules.specs.Table.{table_length, table_bytes}
use Rattle.rules.specs.Planner.{plan_outcome, plan_reading, plan_call}
use Rattle.rules.specs.Text.{refusal_line}
use Rattle.rules.proofs.Laws.Division.{lt-or_ge}
use Rattle.rules.proofs.Reading.Passing.{read_in-range}
use Rattle.rules.proofs.Tables.TableBytes.{table-bytes-length}
use Rattle.rules.proofs.Demands.Refusals.{unread_numbered}
use Rattle.plan_text.specs.Put.{longest_line}
use Rattle.plan_text.specs.Lines.{TableWithin, table_lines, line_count, line_at, first_lines, text_of}
use Rattle.plan_text.specs.Printed.{Prints, lent_bytes, text_bytes, plan_text, outcome_text, reading_text, printed}
use Rattle.plan_text.proofs.LineCases.{line_of-refusal, count_of-refusal}
use Rattle.plan_text.proofs.TableText.{flows_in_lem, table_text}

-- a refusal is printed as its one line
refusal_prints : (out : List ℕ) (n f j : ℕ) → 1 ≤ n → Prints (refusal_line n f j) out (plan_refused n f j)
unfolding text_of join_from
refusal_prints out n f j l =
    let a = plan_refused n f j in
    let refused : n ≡ 0 → ⊥ = λ z. omega arith in
    let count = count_of-refusal (take 0 out) a refused in
    record {
      within = omega arith;
      stands = λ z. absurd (refused z);
      few = omega (arith, count);
      whole =
          ap (λ (k : ℕ). first_lines (take 0 out) a k) (sym count) ∙ append-nil (line_at (take 0 out) a 0)
          ∙ sym (line_of-refusal (take 0 out) a 0 refused);
    }

-- "an input longer than that is turned down by 1"
pub long-input_prints : (input out : List ℕ) → lent_bytes < length input → Prints (printed input) out (plan_refused 1 none none)
unfolding printed
long-input_prints input out l = rw (lt-ltb lent_bytes (length input) l) (refusal_prints out 1 none none (omega arith))

-- a planned table that fits is printed as the plan's text
module _ (b : Book) (range : InRange b) (rows : List Row) (e : plan b ≡ planned rows) where
  abbrev answer : PlanAnswer
  answer = plan_accepted (late_flows b rows) (table_length b rows)

  table-stands : TableWithin (table_bytes b rows) (table_length b rows)
  unfolding table_length
  table-stands = record {
    rows_after = omega (arith, flows_in_lem b range rows e);
    within = omega (arith, table-bytes-length b rows);
  }

  few-lines : table_length b rows ≤ lent_bytes → longest_line * line_count (table_bytes b rows) answer ≤ text_bytes
  unfolding line_count table_lines
  few-lines l = omega (arith, flows_in_lem b range rows e, range.flows_most)

  text_is : text_of (table_bytes b rows) answer ≡ plan_text b rows
  unfolding text_of line_at line_count
  text_is = table_text b range rows e

  planned_prints : (out : List ℕ) → table_length b rows ≤ length out → length out ≡ lent_bytes →
      Prints (plan_text b rows) (table_bytes b rows ++ drop (table_length b rows) out) answer
  planned_prints out l k =
      let at-start = take_at (table_bytes b rows) (drop (table_length b rows) out) (table_length b rows) (table-bytes-length b rows) in
      record {
        within = omega (arith, length-append (table_bytes b rows) (drop (table_length b rows) out), table-bytes-length b rows);
        stands = λ z. rw at-start table-stands;
        few = rw at-start (few-lines (omega arith));
        whole = rw at-start text_is;
      }

-- ---- every call
module _ (out area : List ℕ) (lent : length out ≡ lent_bytes) (long : work_bytes ≤ length area) where
  outcome_prints : (b : Book) → InRange b → (p : Plan) → plan b ≡ p →
      Prints (outcome_text b p) (plan_outcome b out area p).output (plan_outcome b out area p).answer
  unfolding outcome_text plan_outcome
  outcome_prints b range (infeasible f) e = refusal_prints out 12 f none (omega arith)
  outcome_prints b range (planned rows) e = go (lt-or_ge (length out) (table_length b rows))
    where
      go : (length out < table_length b rows) ⊎ (table_length b rows ≤ length out) →
          Prints (outcome_text b (planned rows)) (plan_outcome b out area (planned rows)).output (plan_outcome b out area (planned rows)).answer
      go (inl l) =
          rw (lt-ltb (length out) (table_length b rows) l, lt-ltb lent_bytes (table_length b rows) (omega arith))
          (refusal_prints out 13 none none (omega arith))
      go (inr l) =
          rw (le-ltb (length out) (table_length b rows) l, le-ltb lent_bytes (table_length b rows) (omega arith))
          (planned_prints b range rows e out l lent)

  reading_prints : (input : List ℕ) (r : Reading) → read_book input no_windows ≡ r →
      Prints (reading_text r) (plan_reading out area r).output (plan_reading out area r).answer
  unfolding reading_text plan_reading
  reading_prints input (unread n f j) e = refusal_prints out n f j (unread_numbered input no_windows n f j e).0
  reading_prints input (read b) e = rw (le-ltb (length area) work_bytes long) (outcome_prints b (read_in-range input no_windows b e) (plan b) refl)

  -- any other input is answered by the planner
  pub call_prints : (input : List ℕ) → length input ≤ lent_bytes →
      Prints (printed input) (plan_call input no_windows out area).output (plan_call input no_windows out area).answer
  unfolding printed plan_call
  call_prints input l = rw (le-ltb lent_bytes (length input) l) (reading_prints input (read_book input no_windows) refl)
