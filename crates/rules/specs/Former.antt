-- The calls as they were before Req 07, without a calendar: document 01's rules and check with releases (02, Req 01), lowered caps (Req 02) and late flows by
-- Req 06, and the calls of Req 03 and 05. Only what spoke of slots is said again: rules 4 and 6, the table's faults, the calls. Assumes nothing.
use Rattle.std.specs.Prelude.{ℕ, zero, suc, ◌*◌, ◌-◌, true, List, [], ◌++◌, length, ltb, leb, if◌then◌else◌}
use Rattle.rules.specs.Verdicts.{Verdict, Pass, Refused}
use Rattle.rules.specs.Answers.{none, ◌and_then◌, first_fault, finish_refused, plan_refused, check_refused}
use Rattle.rules.specs.Limits.{work_bytes}
use Rattle.rules.specs.Book.{Book, flow_count, flow_of, job_count}
use Rattle.rules.specs.Reading.{book_of, book_fault}
use Rattle.rules.specs.Service.{served_at}
use Rattle.rules.specs.Rows.{Row, used_in}
use Rattle.rules.specs.Placing.{Plan, planned, progress, flow_rows, settled, then_place}
use Rattle.rules.specs.Planner.{PlanOutcome, plan_outcome}
use Rattle.rules.specs.Check.{table_rows, CheckOutcome, table_head_fault, row_fault, total_fault, finish_fault, check_outcome}
use Rattle.rules.specs.Dispatch.{DispatchOutcome, dispatch_checked}
use Rattle.rules.specs.Finish.{FinishOutcome, up_to_named, finish_outcome, unknown_flow}

-- ---- rules 4 and 6
-- "the processors still free" in slot t for flow f, beside the rows of the flows before; "Placing starts at the release" (02, Req 01)
unfoldable pub former_free : Book → ℕ → List Row → ℕ → ℕ
former_free b f rows t = if leb (flow_of b f).release t then b.processors - used_in rows t else 0

-- "A flow not finished after slot 2 × deadline − 1 makes the book infeasible": flow f beside the rows of the flows before
unfoldable pub former_place_flow : Book → ℕ → List Row → Plan
former_place_flow b f rows =
    settled f (progress (flow_of b f) (former_free b f rows) (2 * (flow_of b f).deadline)).left
    (rows ++ flow_rows (flow_of b f) f (former_free b f rows) (2 * (flow_of b f).deadline))

-- "Flows are placed in service order": the first k of them
unfoldable pub former_place_first : Book → ℕ → Plan
former_place_first b zero = planned []
former_place_first b (suc k) = then_place (former_place_first b k) (former_place_flow b (served_at b k))

-- ---- the check: "14, then 15 to 19 in order for each row, then 20, 21"; with every slot open a row has no other fault than 15 to 19
unfoldable pub former_table_fault : Book → List ℕ → Verdict
former_table_fault b s =
    table_head_fault b s
    and_then first_fault (row_fault b (λ t. true) (table_rows b s)) (length (table_rows b s))
    and_then first_fault (λ f. first_fault (total_fault b (table_rows b s) f) (job_count (flow_of b f))) (flow_count b)
    and_then first_fault (finish_fault s (table_rows b s)) (flow_count b)

-- ---- the calls: a book with a fault is refused by it; then 11; then the outcome is that of the plan, or of the table's first fault
abbrev pub former_plan_verdict : Book → List ℕ → List ℕ → Verdict → PlanOutcome
former_plan_verdict b out area (Refused n f j) = record { answer = plan_refused n f j; output = out; area = area }
former_plan_verdict b out area Pass =
    if ltb (length area) work_bytes
    then record { answer = plan_refused 11 none none; output = out; area = area }
    else plan_outcome b out area (former_place_first b (flow_count b))

unfoldable pub former_plan_call : List ℕ → List ℕ → List ℕ → PlanOutcome
former_plan_call book out area = former_plan_verdict (book_of book) out area (book_fault book)

abbrev pub former_check_verdict : Book → List ℕ → List ℕ → Verdict → CheckOutcome
former_check_verdict b table area (Refused n f j) = record { answer = check_refused n f j; area = area }
former_check_verdict b table area Pass =
    if ltb (length area) work_bytes
    then record { answer = check_refused 11 none none; area = area }
    else check_outcome b table area (former_table_fault b table)

unfoldable pub former_check_call : List ℕ → List ℕ → List ℕ → CheckOutcome
former_check_call book table area = former_check_verdict (book_of book) table area (book_fault book)

unfoldable pub former_dispatch_call : List ℕ → List ℕ → List ℕ → List ℕ → DispatchOutcome
former_dispatch_call book table out area =
    dispatch_checked (book_of book) (table_rows (book_of book) table) out area (former_check_call book table area)

abbrev pub former_finish_verdict : Book → ℕ → List ℕ → Verdict → FinishOutcome
former_finish_verdict b f area (Refused n g j) = record { answer = finish_refused n g j; area = area }
former_finish_verdict b f area Pass =
    if ltb (length area) work_bytes
    then record { answer = finish_refused 11 none none; area = area }
    else finish_outcome f area (former_place_first b (up_to_named b f))

unfoldable pub former_finish_call : List ℕ → ℕ → List ℕ → FinishOutcome
former_finish_call book f area = former_finish_verdict (book_of book) f area (book_fault book and_then unknown_flow (book_of book) f)
