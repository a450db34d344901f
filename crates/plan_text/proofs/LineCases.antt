-- Laws of the lines of an answer: each line by the case that its number and the answer fall under. Assumes nothing.
use mathlib.Core.Path.{◌≡◌, sym, ap, ◌∙◌}
use Prim.Native.Nat.{ℕ, ◌+◌, ◌*◌, ◌-◌, ◌/◌, ◌≤◌, ◌<◌}
use native.Mathlib.Numerals.{add-one}
use native.Mathlib.Omega.{arith}
use mathlib.Core.Bool.{Bool, true, false}
use mathlib.Core.List.{List, ◌++◌, append-nil, append_assoc}
use lib.ListN.{length}
use lib.Dec.{eqb, leb}
use borrow.Author.Tests.{eq-eqb, ne_eqb, le-leb, lt-leb}
use Rattle.std.specs.Prelude.{if◌then◌else◌}
use Rattle.rules.specs.declared.PlanAnswer.{PlanAnswer}
use Rattle.rules.specs.Walks.{join_from}
use Rattle.rules.proofs.Laws.Walks.{join_last}
use Rattle.rules.specs.Fields.{byte, field}
use Rattle.rules.specs.Table.{row_at}
use Rattle.rules.specs.Text.{table_line, finish_line, row_line, refusal_line}
use Rattle.plan_text.specs.Put.{longest_line}
use Rattle.plan_text.proofs.Pieces.{table_line_most, finish_line_most, row_line_most, refusal_line_most}
use Rattle.plan_text.specs.Lines.{TableWithin, AnswerStands, flows_in, table_line_at, table_lines, line_at, line_count, first_lines, text_of}

-- the values read one by one are the row
pub row_read : (s : List ℕ) (from slot processors : ℕ) → slot ≡ field 2 s from → processors ≡ field 2 s (from + 4) →
    row_line (record { slot = slot; flow = byte s (from + 2); job = byte s (from + 3); processors = processors }) ≡ row_line (row_at s from)
unfolding row_at
row_read s from slot processors p q = rw (p, q)

-- ---- line n of a table
pub line_first : (table : List ℕ) (bytes late n : ℕ) → n ≡ 0 → table_line bytes late ≡ table_line_at table bytes late n
unfolding table_line_at
line_first table bytes late n e = rw (eq-eqb n 0 e)

pub line-finish : (table : List ℕ) (bytes late n finish : ℕ) → 1 ≤ n → n ≤ flows_in table → finish ≡ field 2 table (6 + 2 * n) →
    finish_line (n - 1) finish ≡ table_line_at table bytes late n
unfolding table_line_at
line-finish table bytes late n finish h g e = rw (e, ne_eqb n 0 (λ z. omega arith), le-leb n (flows_in table) g)

pub line_row : (table : List ℕ) (bytes late n flows : ℕ) → flows ≡ flows_in table → flows < n →
    row_line (row_at table (8 + 2 * flows + 6 * (n - (1 + flows)))) ≡ table_line_at table bytes late n
unfolding table_line_at
line_row table bytes late n flows e g =
    rw (ne_eqb n 0 (λ z. omega arith), lt-leb n (flows_in table) (omega arith)) (ap (λ (f : ℕ). row_line (row_at table (8 + 2 * f + 6 * (n - (1 + f))))) e)

-- the row of the last line lies within the table
pub row_inside : (table : List ℕ) (bytes n flows : ℕ) → TableWithin table bytes → flows ≡ flows_in table → flows < n → n < table_lines table bytes →
    8 + 2 * flows + 6 * (n - (1 + flows)) + 6 ≤ length table
unfolding table_lines
row_inside table bytes n flows s e g h = omega (arith, s.rows_after, s.within)

-- ---- line n of an answer
pub line-of_table : (table : List ℕ) (a : PlanAnswer) (n : ℕ) → a.number ≡ 0 → table_line_at table a.length a.late n ≡ line_at table a n
unfolding line_at
line-of_table table a n e = rw (eq-eqb a.number 0 e)

pub line_of-refusal : (table : List ℕ) (a : PlanAnswer) (n : ℕ) → (a.number ≡ 0 → ⊥) → refusal_line a.number a.flow a.job ≡ line_at table a n
unfolding line_at
line_of-refusal table a n e = rw (ne_eqb a.number 0 e)

pub count-of_table : (table : List ℕ) (a : PlanAnswer) → a.number ≡ 0 → table_lines table a.length ≡ line_count table a
unfolding line_count
count-of_table table a e = rw (eq-eqb a.number 0 e)

pub count_of-refusal : (table : List ℕ) (a : PlanAnswer) → (a.number ≡ 0 → ⊥) → 1 ≡ line_count table a
unfolding line_count
count_of-refusal table a e = rw (ne_eqb a.number 0 e)

-- the lines of a table, counted from its head
pub count-read : (table : List ℕ) (a : PlanAnswer) (flows : ℕ) → flows ≡ flows_in table → a.number ≡ 0 →
    1 + flows + (a.length - (8 + 2 * flows)) / 6 ≡ line_count table a
unfolding table_lines
count-read table a flows e z = ap (λ (f : ℕ). 1 + f + (a.length - (8 + 2 * f)) / 6) e ∙ count-of_table table a z

-- the row of a line below the number of lines lies within the table
pub row_within : (table : List ℕ) (a : PlanAnswer) (n flows : ℕ) → AnswerStands table a → a.number ≡ 0 → flows ≡ flows_in table → flows < n →
    n < line_count table a → 8 + 2 * flows + 6 * (n - (1 + flows)) + 6 ≤ length table
row_within table a n flows stands z e g h = row_inside table a.length n flows (stands z) e g (rw (count-of_table table a z) h)

-- ---- no line of an answer is longer than 64 bytes
either_most : (b : Bool) (x y : List ℕ) {m : ℕ} → length x ≤ m → length y ≤ m → length (if b then x else y) ≤ m
either_most true x y p q = p
either_most false x y p q = q

table_most : (table : List ℕ) (bytes late n : ℕ) → length (table_line_at table bytes late n) ≤ longest_line
unfolding table_line_at
table_most table bytes late n =
    either_most (eqb n 0) _ _ (table_line_most bytes late)
    (either_most (leb n (flows_in table)) _ _ (finish_line_most (n - 1) (field 2 table (6 + 2 * n))) (row_line_most _))

pub line_most : (table : List ℕ) (a : PlanAnswer) (n : ℕ) → length (line_at table a n) ≤ longest_line
unfolding line_at
line_most table a n =
    either_most (eqb a.number 0) _ _ (table_most table a.length a.late n) (refusal_line_most a.number a.flow a.job)

-- ---- lines put one after the other
pub text-none : (table : List ℕ) (a : PlanAnswer) (s : List ℕ) → s ≡ s ++ first_lines table a 0
unfolding join_from
text-none table a s = sym (append-nil s)

pub text-more : (table : List ℕ) (a : PlanAnswer) (n : ℕ) (s : List ℕ) →
    (s ++ first_lines table a n) ++ line_at table a n ≡ s ++ first_lines table a (n + 1)
text-more table a n s =
    append_assoc s (first_lines table a n) (line_at table a n)
    ∙ ap (s ++◌) (sym (join_last (λ k. line_at table a k) n) ∙ ap (λ (k : ℕ). first_lines table a k) (sym (add-one n)))

pub text-whole : (table : List ℕ) (a : PlanAnswer) (n : ℕ) → n ≡ line_count table a → first_lines table a n ≡ text_of table a
unfolding text_of
text-whole table a n e = ap (λ (k : ℕ). first_lines table a k) e

-- a refusal's line, how many lines there are, and where the rows stand
pub ruleset cases = (row_within, line_of-refusal, count_of-refusal, count-read)

-- lines one after the other
pub ruleset texts = (text-none, text-more, text-whole)
