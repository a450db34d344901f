-- Laws of the tests of a row as numbers: the first that is not 0 counts; and of what 19 asks. Assumes nothing.
use mathlib.Core.Path.{◌≡◌, refl, sym, ap, ◌∙◌}
use Prim.Native.Nat.{ℕ, ◌*◌, ◌≤◌, ◌<◌}
use mathlib.Core.Bool.{Bool, true, false, not, or-true}
use mathlib.Core.List.{List}
use native.Mathlib.Omega.{arith}
use lib.ListN.{get_or}
use lib.Dec.{ltb, leb, eqb}
use borrow.Author.Tests.{lt-ltb, le-ltb, le-leb, lt-leb, eq-eqb, ne_eqb, eqb-true, eqb-false, leb-false}
use Rattle.std.specs.Prelude.{if◌then◌else◌, Result, Ok, Err}
use Rattle.rules.specs.declared.Fault.{Fault}
use Rattle.rules.specs.declared.Fault.TheVariants as fault
use Rattle.rules.specs.Faults.{fault_number}
use Rattle.rules.specs.Limits.{slots}
use Rattle.rules.specs.Fields.{field}
use Rattle.rules.specs.Book.{Book, Job, job_count, flow_of}
use Rattle.rules.specs.Rows.{Row}
use Rattle.rules.specs.Reading.{book_of}
use Rattle.calendar.specs.Area.{open_by}
use Rattle.table_check.specs.declared.current.Current.{Current}
use Rattle.table_check.specs.declared.row.JobState.{JobState}
use Rattle.book.specs.Records.{number_by}
use Rattle.table_check.specs.Tests.{rank_of, ranks, standing_number, amount_number, first_number, test_number, asked_release, asked}
use Rattle.table_check.specs.Tally.{AmountsHeld, RowTested, AskedAt}
use Rattle.table_check.proofs.Jobs.{blank, record_at}

pub first-stands : (m n : ℕ) → (m ≡ 0 → ⊥) → first_number m n ≡ m
unfolding first_number
first-stands m n h = rw (ne_eqb m 0 h) refl

pub first_passes : (m n : ℕ) → m ≡ 0 → first_number m n ≡ n
unfolding first_number
first_passes m n e = rw (eq-eqb m 0 e) refl

-- both are 0 where the first number is
pub first-none : (m n : ℕ) → first_number m n ≡ 0 → (m ≡ 0) × (n ≡ 0)
unfolding first_number
first-none m n e = go (eqb m 0) refl
  where
    go : (t : Bool) → eqb m 0 ≡ t → (m ≡ 0) × (n ≡ 0)
    go true d = let m-none : m ≡ 0 = eqb-true m 0 d in (m-none, rw d at e)
    go false d = absurd (eqb-false m 0 d (rw d at e))

-- 15 by the job, and by the slot
pub standing_by-job : (jobs : ℕ) (opened : Bool) (least key : ℕ) (r : Row) → jobs ≤ r.job → 15 ≡ standing_number jobs opened least key r
unfolding standing_number
standing_by-job jobs opened least key r h = rw (le-leb jobs r.job h, or-true (leb slots r.slot)) refl

pub standing_by-slot : (jobs : ℕ) (opened : Bool) (least key : ℕ) (r : Row) → slots ≤ r.slot → 15 ≡ standing_number jobs opened least key r
unfolding standing_number
standing_by-slot jobs opened least key r h = rw (le-leb slots r.slot h) refl

-- the rank of a row whose job is in range tells whether its slot is
pub rank-outside : (r : Row) {jobs rank : ℕ} → jobs ≤ 64 → r.job < jobs → rank ≡ rank_of r → ranks ≤ rank → slots ≤ r.slot
rank-outside r few job_in rank_is past = omega arith

pub rank-inside : (r : Row) {rank : ℕ} → rank ≡ rank_of r → rank < ranks → r.slot < slots
rank-inside r rank_is below = omega arith

-- past these, 15 by the processors, then 25, then 16
module _ (jobs : ℕ) (opened : Bool) (least key : ℕ) (r : Row) (slot_in : r.slot < slots) (job_in : r.job < jobs) where
  pub standing_by-processors : r.processors ≡ 0 → 15 ≡ standing_number jobs opened least key r
  unfolding standing_number
  standing_by-processors e = rw (lt-leb slots r.slot slot_in, lt-leb jobs r.job job_in, eq-eqb r.processors 0 e) refl

  module _ (takes : r.processors ≡ 0 → ⊥) where
    past-range : standing_number jobs opened least key r ≡ (if not opened then 25 else if ltb key least then 16 else 0)
    unfolding standing_number
    past-range = rw (lt-leb slots r.slot slot_in, lt-leb jobs r.job job_in, ne_eqb r.processors 0 takes) refl

    pub standing_by-shut : opened ≡ false → 25 ≡ standing_number jobs opened least key r
    standing_by-shut e = sym (past-range ∙ rw e refl)

    pub standing_by-order : opened ≡ true → key < least → 16 ≡ standing_number jobs opened least key r
    standing_by-order e h = sym (past-range ∙ rw (e, lt-ltb key least h) refl)

    pub standing_by-none : opened ≡ true → least ≤ key → 0 ≡ standing_number jobs opened least key r
    standing_by-none e h = sym (past-range ∙ rw (e, le-ltb key least h) refl)

-- a row that passes these stands in a slot and is one of the flow's jobs
pub standing-inside : (jobs : ℕ) (opened : Bool) (least key : ℕ) (r : Row) → standing_number jobs opened least key r ≡ 0 → (r.slot < slots) × (r.job < jobs)
unfolding standing_number
standing-inside jobs opened least key r e = go (leb slots r.slot) refl (leb jobs r.job) refl
  where
    go : (s : Bool) → leb slots r.slot ≡ s → (j : Bool) → leb jobs r.job ≡ j → (r.slot < slots) × (r.job < jobs)
    go true d j k = absurd (let z : ◌≡◌ {A = ℕ} 15 0 = rw d at e in omega arith)
    go false d true k = absurd (let z : ◌≡◌ {A = ℕ} 15 0 = rw (d, k) at e in omega arith)
    go false d false k = (leb-false slots r.slot d, leb-false jobs r.job k)

-- ---- what the tests of a row of flow f find
-- no fault has the number 0
pub fault_some : (e : Fault) → fault_number e ≡ 0 → ⊥
fault_some fault.BookLength h = absurd (omega arith)
fault_some fault.BookVersion h = absurd (omega arith)
fault_some fault.Processors h = absurd (omega arith)
fault_some fault.Flows h = absurd (omega arith)
fault_some fault.CutShort h = absurd (omega arith)
fault_some fault.Deadline h = absurd (omega arith)
fault_some fault.Jobs h = absurd (omega arith)
fault_some fault.Size h = absurd (omega arith)
fault_some fault.Cap h = absurd (omega arith)
fault_some fault.Predecessor h = absurd (omega arith)
fault_some fault.WorkArea h = absurd (omega arith)
fault_some fault.Infeasible h = absurd (omega arith)
fault_some fault.Output h = absurd (omega arith)
fault_some fault.TableHead h = absurd (omega arith)
fault_some fault.RowRange h = absurd (omega arith)
fault_some fault.RowOrder h = absurd (omega arith)
fault_some fault.RowCap h = absurd (omega arith)
fault_some fault.SlotFull h = absurd (omega arith)
fault_some fault.Precedence h = absurd (omega arith)
fault_some fault.Total h = absurd (omega arith)
fault_some fault.Finish h = absurd (omega arith)
fault_some fault.Release h = absurd (omega arith)
fault_some fault.NoSuchFlow h = absurd (omega arith)
fault_some fault.Calendar h = absurd (omega arith)
fault_some fault.RowShut h = absurd (omega arith)

module _ (current : Current) (least : ℕ) (r : Row) {key : ℕ} (key_is : key ≡ rank_of r) {T : Type 0} (standing : Result T Fault)
    (standing-is : number_by standing ≡ standing_number current.head.jobs (open_by current.shut.now r.slot) least key r) where
  abbrev b : Book
  b = book_of current.book.now.bytes.now

  abbrev f : ℕ
  f = current.flow

  abbrev opened : ℕ → Bool
  opened = open_by current.shut.now

  standing_right : number_by standing ≡ standing_number (job_count (flow_of (book_of current.book.now.bytes.now) current.flow)) (open_by current.shut.now r.slot) least (rank_of r) r
  standing_right = rw (← current.head_is.jobs, ← key_is) standing-is

  -- 15, 25 or 16
  pub tested-standing : (work : List ℕ) {e : Fault} → standing ≡ Err e → RowTested (book_of current.book.now.bytes.now) (open_by current.shut.now) current.flow work least r (Err e)
  unfolding test_number
  tested-standing work {e} is =
      let number_is : fault_number e ≡ standing_number (job_count (flow_of b f)) (opened r.slot) least (rank_of r) r = sym (ap number_by is) ∙ standing_right in
      record { number = number_is ∙ sym (first-stands _ _ (λ z. fault_some e (number_is ∙ z))); used = tt; size = tt }

  module _ {x : T} (passes : standing ≡ Ok x) where
    none : number_by standing ≡ 0
    none = ap number_by passes

    pub tested-inside : (r.slot < slots) × (r.job < job_count (flow_of (book_of current.book.now.bytes.now) current.flow))
    tested-inside = standing-inside (job_count (flow_of b f)) (opened r.slot) least (rank_of r) r (sym standing_right ∙ none)

    -- 17 and 18
    module _ (work : List ℕ) {held : List JobState} {used cap : ℕ} (amounts : AmountsHeld (book_of current.book.now.bytes.now) current.flow held)
        (used_is : used ≡ field 2 work (2 * r.slot)) (cap_is : cap ≡ (get_or held r.job blank).job.cap)
        {U : Type 0} (amount : Result U Fault) (amount_is : number_by amount ≡ amount_number cap used current.book.now.processors r) where
      amount_right : number_by amount ≡ test_number (book_of current.book.now.bytes.now) (open_by current.shut.now) current.flow (field 2 work (2 * r.slot)) least r
      unfolding test_number
      amount_right =
          amount_is
          ∙ rw (cap_is ∙ ap (λ (j : Job). j.cap) (sym (record_at held r.job)) ∙ amounts.cap_of r.job tested-inside.1, current.book.now.processors_are, used_is)
          (sym (first_passes (standing_number (job_count (flow_of b f)) (opened r.slot) least (rank_of r) r) _ (sym standing_right ∙ none)))

      pub tested-amount : {e : Fault} → amount ≡ Err e → RowTested (book_of current.book.now.bytes.now) (open_by current.shut.now) current.flow work least r (Err e)
      tested-amount is = record { number = sym (ap number_by is) ∙ amount_right; used = tt; size = tt }

      pub tested-passes : {y : U} → amount ≡ Ok y → {size : ℕ} → size ≡ (get_or held r.job blank).job.size →
          RowTested (book_of current.book.now.bytes.now) (open_by current.shut.now) current.flow work least r (Ok (record { used = used; size = size }))
      tested-passes is size_is = record {
        number = sym (ap number_by is) ∙ amount_right;
        used = used_is;
        size = size_is ∙ ap (λ (j : Job). j.size) (sym (record_at held r.job)) ∙ amounts.size_of r.job tested-inside.1;
      }

-- ---- what 19 asks at a row of a job: nothing once the job has a total, else all
pub asked-nothing : (j : JobState) (release slot : ℕ) → 0 < j.total → AskedAt j release slot (record { unreleased = false; bits = 0 })
unfolding asked_release asked
asked-nothing j release slot some = record { unreleased = rw (lt-ltb 0 j.total some) refl; bits = rw (lt-ltb 0 j.total some) refl }

pub asked-whole : (j : JobState) (release slot : ℕ) → j.total ≤ 0 →
    AskedAt j release slot (record { unreleased = ltb slot release; bits = j.job.predecessors })
unfolding asked_release asked
asked-whole j release slot none = record { unreleased = rw (le-ltb 0 j.total none) refl; bits = rw (le-ltb 0 j.total none) refl }
