-- The lines of an answer of the planner, numbered from 0: the one line of a refusal, or those of the table that stands
-- in the output.
-- Assumes nothing.
use Rattle.std.specs.Prelude.{◌≡◌, ℕ, ◌+◌, ◌*◌, ◌-◌, ◌/◌, ◌≤◌, List, length, eqb, leb, if◌then◌else◌}
use Rattle.rules.specs.declared.PlanAnswer.{PlanAnswer}
use Rattle.rules.specs.Walks.{join_from}
use Rattle.rules.specs.Fields.{byte, field}
use Rattle.rules.specs.Table.{row_length, row_at}
use Rattle.book.specs.Rows.{row_from}
use Rattle.plan_text.specs.declared.lines.Line.{Line}
use Rattle.plan_text.specs.declared.lines.Line.TheVariants.{Table, Finish, Row, Refusal}
use Rattle.rules.specs.Text.{table_line, finish_line, row_line, refusal_line}

-- the flows that a table's head states, and where its rows begin
abbrev pub flows_in : List ℕ → ℕ
flows_in table = byte table 7

abbrev pub rows_from : List ℕ → ℕ
rows_from table = 8 + 2 * flows_in table

-- the head and the finishes lie within the stated bytes, and these within the output
pub record TableWithin (table : List ℕ) (bytes : ℕ) : Type 0 where
  pub rows_after : rows_from table ≤ bytes
  pub within : bytes ≤ length table

-- "The first line has the table's bytes and the late flows; then one line for each finish in book order and each row."
unfoldable pub table_lines : List ℕ → ℕ → ℕ
table_lines table bytes = 1 + flows_in table + (bytes - rows_from table) / row_length

unfoldable pub table_line_at : List ℕ → ℕ → ℕ → ℕ → List ℕ
table_line_at table bytes late n =
    if eqb n 0 then table_line bytes late
    else if leb n (flows_in table) then finish_line (n - 1) (field 2 table (6 + 2 * n))
    else row_line (row_at table (rows_from table + row_length * (n - (1 + flows_in table))))

-- "A refusal is one line"
unfoldable pub line_count : List ℕ → PlanAnswer → ℕ
line_count table a = if eqb a.number 0 then table_lines table a.length else 1

unfoldable pub line_at : List ℕ → PlanAnswer → ℕ → List ℕ
line_at table a n = if eqb a.number 0 then table_line_at table a.length a.late n else refusal_line a.number a.flow a.job

-- the text of a line of the code
abbrev pub line_text : Line → List ℕ
line_text (Table bytes late) = table_line bytes late
line_text (Finish flow finish) = finish_line flow finish
line_text (Row row) = row_line (row_from row)
line_text (Refusal number flow job) = refusal_line number flow job

-- where the answer is a table, that table stands in the output
abbrev pub AnswerStands : List ℕ → PlanAnswer → Type 0
AnswerStands table a = a.number ≡ 0 → TableWithin table a.length

-- the first n lines of an answer, one after the other
abbrev pub first_lines : List ℕ → PlanAnswer → ℕ → List ℕ
first_lines table a n = join_from (λ k. line_at table a k) n 0

-- the whole text of an answer
unfoldable pub text_of : List ℕ → PlanAnswer → List ℕ
text_of table a = first_lines table a (line_count table a)
