-- What the program prints for an input, by the rules alone: `printed` names no buffer, table or work area. Assumes
-- nothing.
use Rattle.std.specs.Prelude.{◌≡◌, ℕ, ◌*◌, ◌≤◌, List, [], ◌∷◌, ◌++◌, length, take, ltb, if◌then◌else◌}
use Rattle.rules.specs.declared.PlanAnswer.{PlanAnswer}
use Rattle.rules.specs.Walks.{join_from}
use Rattle.rules.specs.Answers.{none}
use Rattle.rules.specs.Calendar.{no_windows}
use Rattle.rules.specs.Book.{Book, flow_count}
use Rattle.rules.specs.Reading.{Reading, read, unread, read_book}
use Rattle.rules.specs.Rows.{Row, finish_of, late_flows}
use Rattle.rules.specs.Placing.{Plan, planned, infeasible, plan}
use Rattle.rules.specs.Table.{table_length}
use Rattle.rules.specs.Text.{table_line, finish_line, row_line, refusal_line}
use Rattle.plan_text.specs.Put.{longest_line}
use Rattle.plan_text.specs.Lines.{AnswerStands, line_count, text_of}

-- one line for each row
unfoldable pub row_lines : List Row → List ℕ
row_lines [] = []
row_lines (r ∷ rs) = row_line r ++ row_lines rs

-- "The first line has the table's bytes and the late flows; then one line for each finish in book order and each row."
unfoldable pub plan_text : Book → List Row → List ℕ
plan_text b rows =
    table_line (table_length b rows) (late_flows b rows) ++ join_from (λ f. finish_line f (finish_of rows f)) (flow_count b) 0 ++ row_lines rows

-- "It lends 65,536 bytes for the book and as many for the table"
abbrev pub lent_bytes : ℕ
lent_bytes = 65536

-- "infeasible by rule 6"; "table longer than the lent output"
unfoldable pub outcome_text : Book → Plan → List ℕ
outcome_text b (infeasible f) = refusal_line 12 f none
outcome_text b (planned rows) = if ltb lent_bytes (table_length b rows) then refusal_line 13 none none else plan_text b rows

unfoldable pub reading_text : Reading → List ℕ
reading_text (unread n f j) = refusal_line n f j
reading_text (read b) = outcome_text b (plan b)

-- "an input longer than that is turned down by 1"; "the printing program plans with none" (02, Req 07), that is with no
-- windows
unfoldable pub printed : List ℕ → List ℕ
printed input = if ltb lent_bytes (length input) then refusal_line 1 none none else reading_text (read_book input no_windows)

-- room for the text of any answer, 64 bytes for each line
abbrev pub text_bytes : ℕ
text_bytes = 720896

-- what an answer leaves to be printed as that text: its table stands at the start of the output, and the lines read off
-- it are the text
pub record Prints (text output : List ℕ) (a : PlanAnswer) : Type 0 where
  pub within : a.length ≤ length output
  pub stands : AnswerStands (take a.length output) a
  pub few : longest_line * line_count (take a.length output) a ≤ text_bytes
  pub whole : text_of (take a.length output) a ≡ text
