-- Rows, and what planner and check both read off them: use, totals, finishes, late flows, work area. Assumes nothing.
use Rattle.std.specs.Prelude.{ℕ, zero, suc, ◌+◌, ◌*◌, max, Bool, ◌&&◌, List, [], ◌∷◌, ◌++◌, drop, replicate, ltb, eqb, if◌then◌else◌}
use Rattle.rules.specs.Walks.{count_to, join_from}
use Rattle.rules.specs.Fields.{bytes_of}
use Rattle.rules.specs.Book.{Flow, Book, flow_count, flow_of}

-- "slot (2), flow (1), job (1), processors (2)"
pub record Row : Type 0 where
  pub slot : ℕ
  pub flow : ℕ
  pub job : ℕ
  pub processors : ℕ

-- "one for each slot and job where the job has at least 1 processor"
unfoldable pub row_for : ℕ → ℕ → ℕ → ℕ → List Row
row_for t f i zero = []
row_for t f i (suc n) = record { slot = t; flow = f; job = i; processors = suc n } ∷ []

-- the processors of the rows that pass a test, added
unfoldable pub sum_where : (Row → Bool) → List Row → ℕ
sum_where q [] = 0
sum_where q (r ∷ rs) = (if q r then r.processors else 0) + sum_where q rs

-- "the processors in use in that slot"
unfoldable pub used_in : List Row → ℕ → ℕ
used_in rows t = sum_where (λ r. eqb r.slot t) rows

-- the row is one of job i of flow f
abbrev pub is_of : ℕ → ℕ → Row → Bool
is_of f i r = eqb r.flow f && eqb r.job i

-- "a job's total"
unfoldable pub total_of : List Row → ℕ → ℕ → ℕ
total_of rows f i = sum_where (λ r. is_of f i r) rows

-- "rows .. in earlier slots": what job i of flow f has before slot t
unfoldable pub done_before : List Row → ℕ → ℕ → ℕ → ℕ
done_before rows f i t = sum_where (λ r. is_of f i r && ltb r.slot t) rows

-- "A finish is the flow's last used slot plus 1." 0 where it has no row
unfoldable pub finish_of : List Row → ℕ → ℕ
finish_of [] f = 0
finish_of (r ∷ rs) f = max (if eqb r.flow f then r.slot + 1 else 0) (finish_of rs f)

-- rule 7: "A flow is therefore late when its finish plus 1 is greater than its deadline" (02, Req 06). ("late" is document 01's word)
unfoldable pub is_late : Flow → ℕ → Bool
is_late w finish = ltb w.deadline (finish + 1)

-- rule 7: "the number of late flows"
unfoldable pub late_flows : Book → List Row → ℕ
late_flows b rows = count_to (λ f. is_late (flow_of b f) (finish_of rows f)) (flow_count b)

-- ---- the work area of n slots: two bytes per slot, big-endian; bytes past it are untouched
-- "After acceptance each pair holds the processors in use in that slot."
unfoldable pub work_used : ℕ → List Row → List ℕ → List ℕ
work_used n rows area = join_from (λ t. bytes_of 2 (used_in rows t)) n 0 ++ drop (2 * n) area

-- "one found after 11 zeroes its first 16,384 bytes"
unfoldable pub work_zero : ℕ → List ℕ → List ℕ
work_zero n area = replicate (2 * n) 0 ++ drop (2 * n) area
