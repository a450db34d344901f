-- What the code tests of a row, in the numbers that it holds: where the row stands in the order, the tests 15 to 18 and
-- 25 by their number, and 19 by the release and by the slot from which a predecessor is complete. Assumes nothing.
use Rattle.std.specs.Prelude.{ℕ, zero, suc, ◌+◌, ◌*◌, ◌-◌, ◌%◌, Bool, true, false, not, ◌&&◌, ◌||◌, List, length, get_or, ltb, leb, eqb, if◌then◌else◌, Option, Some, None}
use Rattle.rules.specs.Verdicts.{Verdict, Pass, Refused}
use Rattle.rules.specs.Fields.{byte, field}
use Rattle.rules.specs.Answers.{none}
use Rattle.rules.specs.Limits.{slots}
use Rattle.rules.specs.Book.{Book, job_count, flow_of, job_of, has_bit}
use Rattle.rules.specs.Rows as rules
use Rattle.rules.specs.Check.{no_row}

-- ---- the order of rows by numbers
-- flows stand in service order by this number: deadline, then flow
abbrev pub service_key : Book → ℕ → ℕ
service_key b f = (flow_of b f).deadline * 64 + f

-- the rank of a row, by which the rows of a flow stand in their order: slot, then job
abbrev pub rank_of : rules.Row → ℕ
rank_of r = r.slot * 64 + r.job

-- 8,192 slots of 64 jobs each
abbrev pub ranks : ℕ
ranks = 524288

-- rows in range stand in their order by this number
unfoldable pub row_key : Book → rules.Row → ℕ
row_key b r = service_key b r.flow * ranks + rank_of r

-- the least key that row k may have: one more than the key of the row before it
unfoldable pub least_key : Book → List rules.Row → ℕ → ℕ
least_key b rows zero = 0
least_key b rows (suc k) = suc (row_key b (get_or rows k no_row))

-- ---- 14, by P and the number of flows
unfoldable pub head_fault : ℕ → ℕ → List ℕ → Verdict
head_fault processors flows s =
    if ltb (length s) (8 + 2 * flows)
    || not (eqb (field 4 s 0) (length s))
    || not (eqb (byte s 4) 1)
    || not (eqb (field 2 s 5) processors)
    || not (eqb (byte s 7) flows)
    || not (eqb ((length s - (8 + 2 * flows)) % 6) 0)
    then Refused 14 none none else Pass

-- ---- a row, by numbers; 0 where it passes
-- 15, 25 and 16 of a row whose flow is in the book, by the flow's count of jobs, whether the row's slot is open, a key
-- of the row and the least one
unfoldable pub standing_number : ℕ → Bool → ℕ → ℕ → rules.Row → ℕ
standing_number jobs opened least key r =
    if leb slots r.slot || leb jobs r.job || eqb r.processors 0 then 15
    else if not opened then 25
    else if ltb key least then 16 else 0

-- 17 and 18, by the job's cap, the processors in use in the slot, and P
unfoldable pub amount_number : ℕ → ℕ → ℕ → rules.Row → ℕ
amount_number cap used processors r =
    if ltb cap r.processors then 17
    else if ltb processors (used + r.processors) then 18 else 0

-- the first number that is not 0
unfoldable pub first_number : ℕ → ℕ → ℕ
first_number m n = if eqb m 0 then n else m

-- 15 to 18 and 25 of a row of flow f, by a test of the open slots, the processors in use in the row's slot, and the
-- least rank that it may have
unfoldable pub test_number : Book → (ℕ → Bool) → ℕ → ℕ → ℕ → rules.Row → ℕ
test_number b opened f used least r =
    first_number (standing_number (job_count (flow_of b f)) (opened r.slot) least (rank_of r) r)
    (amount_number (job_of (flow_of b f) r.job).cap used b.processors r)

-- whether a job that is complete from a slot on, or not at all, is not yet so in `slot`
abbrev pub not_yet : ℕ → Option ℕ → Bool
not_yet slot None = true
not_yet slot (Some from) = ltb slot from

-- 19 at one job k: it is a predecessor, and it is not complete, or only from a later slot on
unfoldable pub lacks_at : ℕ → ℕ → ℕ → Option ℕ → Bool
lacks_at predecessors k slot ready = has_bit predecessors k && not_yet slot ready

-- what 19 asks at a row of a job that has this total so far: nothing where it has one, since its first row was asked;
-- otherwise whether the row stands before the release (02, Req 01)
unfoldable pub asked_release : ℕ → ℕ → ℕ → Bool
asked_release total release slot = if ltb 0 total then false else ltb slot release

-- and the predecessors, a bit each
unfoldable pub asked : ℕ → ℕ → ℕ
asked total predecessors = if ltb 0 total then 0 else predecessors

-- the slot from which a job is complete, once its total goes from `before` to `after` by a row in `slot`: the next one
-- where that completes it
unfoldable pub ready_after : Option ℕ → ℕ → ℕ → ℕ → ℕ → Option ℕ
ready_after ready before after size slot = if ltb after size then ready else if leb size before then ready else Some (slot + 1)

-- ---- 20 of a flow by the first job whose total differs from its size
abbrev pub mismatch_fault : ℕ → Option ℕ → Verdict
mismatch_fault f None = Pass
mismatch_fault f (Some i) = Refused 20 f i
