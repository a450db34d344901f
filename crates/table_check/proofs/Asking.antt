-- The predecessors of a row, asked one after the other by halving their bits. Assumes nothing.
use mathlib.Core.Path.{◌≡◌, sym, ap, ◌∙◌}
use Prim.Native.Nat.{ℕ, ◌+◌, ◌/◌, ◌^◌, ◌≤◌, ◌<◌}
use mathlib.Core.Bool.{Bool, true, false, ◌&&◌}
use mathlib.Core.Logic.{◌⊎◌, inl, inr}
use mathlib.Core.List.{List}
use native.Mathlib.Nat.{div-one}
use native.Mathlib.Omega.{arith}
use lib.ListN.{length, get_or, take}
use Rattle.std.specs.Prelude.{Option, None}
use Rattle.rules.specs.Verdicts.{Refused}
use Rattle.rules.specs.Book.{flow_of, job_of}
use Rattle.rules.specs.Reading.{book_of}
use Rattle.rules.specs.Check.{table_rows, before_release, lacks_predecessor, row_fault}
use Rattle.rules.proofs.Laws.Division.{lt-or_ge}
use Rattle.rules.proofs.Laws.Walks.{last_or}
use Rattle.rules.proofs.Laws.Bits.{bit_of-left, left-next, no-bit-left, left_below}
use Rattle.book.specs.declared.row.Row.{Row}
use Rattle.table_check.specs.declared.row.JobState.{JobState}
use Rattle.table_check.specs.declared.row.Tested.{Tested}
use Rattle.book.specs.Rows.{row_from}
use Rattle.table_check.specs.Tests.{not_yet, lacks_at, asked}
use Rattle.table_check.specs.Tally.{totals_of, ready_of, readies_of, rows_to}
use Rattle.table_check.proofs.Jobs.{ready_at, blank, held_count}
use Rattle.table_check.proofs.Turns.{Going, Turn}
use Rattle.table_check.proofs.Counting.{unset_lacks, job_in, job_few, bits-few, lacks_stops, none_lacks}

-- what holds after j halvings of the bits that are asked
pub record Asking (book : List ℕ) (opened : ℕ → Bool) (table : List ℕ) (f : ℕ) (from : ℕ) (jobs : List JobState) (work : List ℕ)
    (least finish at : ℕ) (r : Row) (t : Tested) (bits j : ℕ) : Type 0 where
  pub going : Going book opened table f from jobs work least finish at (rows_to (book_of book) at)
  pub turn : Turn (book_of book) opened table f (rows_to (book_of book) at) (row_from r) t
  pub here : at < length table
  pub released : before_release (book_of book) (row_from r) ≡ false
  pub all : ℕ
  pub all_are : all ≡ asked (get_or (totals_of jobs) r.job 0) (job_of (flow_of (book_of book) f) r.job).predecessors
  pub left : bits ≡ all / 2 ^ j
  pub none_so_far : (m : ℕ) → m < j → lacks_at all m r.slot (get_or (readies_of jobs) m None) ≡ false

-- the lowest bit of what is left after j halvings is bit j
lowest_lacks : (p bits j slot : ℕ) (ready : Option ℕ) → bits ≡ p / 2 ^ j → lacks_at bits 0 slot ready ≡ lacks_at p j slot ready
unfolding lacks_at
lowest_lacks p bits j slot ready e = ap (λ (u : Bool). u && not_yet slot ready) (bit_of-left p bits j e)

module _ {book : List ℕ} {opened : ℕ → Bool} {table : List ℕ} {f : ℕ} {from : ℕ} {jobs : List JobState} {work : List ℕ}
    {least finish at : ℕ} {r : Row} {t : Tested} {bits : ℕ} where
  pub asking-first : Going book opened table f from jobs work least finish at (rows_to (book_of book) at) →
      Turn (book_of book) opened table f (rows_to (book_of book) at) (row_from r) t → at < length table →
      before_release (book_of book) (row_from r) ≡ false →
      bits ≡ asked (get_or (totals_of jobs) r.job 0) (job_of (flow_of (book_of book) f) r.job).predecessors →
      Asking book opened table f from jobs work least finish at r t bits 0
  asking-first going turn here released bits_are = record {
    going = going;
    turn = turn;
    here = here;
    released = released;
    all = bits;
    all_are = bits_are;
    left = sym (div-one bits);
    none_so_far = λ m h. absurd (omega arith);
  }

  module _ {j : ℕ} (asking : Asking book opened table f from jobs work least finish at r t bits j) where
    below-job : (bits ≡ 0 → ⊥) → j < r.job
    below-job some = left_below asking.all bits j asking.left r.job (bits-few asking.going asking.turn asking.all asking.all_are) some

    pub asks-few : (bits ≡ 0 → ⊥) → j < 64
    asks-few some = omega (arith, below-job some, job_few asking.going asking.turn)

    pub asks-in : (bits ≡ 0 → ⊥) → j < length jobs
    asks-in some = omega (arith, below-job some, job_in asking.going asking.turn, held_count asking.going.held)

    module _ (some : bits ≡ 0 → ⊥) {lacking : Bool} (is : lacking ≡ lacks_at bits 0 r.slot (ready_of (get_or jobs j blank).ready)) where
      here : lacking ≡ lacks_at asking.all j r.slot (get_or (readies_of jobs) j None)
      here =
          is ∙ ap (lacks_at bits 0 r.slot) (sym (ready_at jobs j))
          ∙ lowest_lacks asking.all bits j r.slot (get_or (readies_of jobs) j None) asking.left

      pub asking-next : lacking ≡ false → Asking book opened table f from jobs work least finish at r t (bits / 2) (j + 1)
      asking-next none = record {
        going = asking.going;
        turn = asking.turn;
        here = asking.here;
        released = asking.released;
        all = asking.all;
        all_are = asking.all_are;
        left = left-next asking.all bits j asking.left;
        none_so_far = λ m h. last_or m j (omega arith) (λ e. ap (λ (q : ℕ). lacks_at asking.all q r.slot (get_or (readies_of jobs) q None)) e ∙ sym here ∙ none) (λ l. asking.none_so_far m l);
      }

      pub asking_stops : lacking ≡ true →
          row_fault (book_of book) opened (table_rows (book_of book) table) (rows_to (book_of book) at) ≡ Refused 19 r.flow r.job
      asking_stops lacks =
          lacks_stops asking.going asking.turn asking.all asking.all_are asking.released j (below-job some) (sym here ∙ lacks)

    pub asking-ends : bits ≡ 0 → lacks_predecessor (book_of book) (take (rows_to (book_of book) at) (table_rows (book_of book) table)) (row_from r) ≡ false
    asking-ends none =
        none_lacks asking.going asking.turn asking.all asking.all_are
        (λ m h. go m (lt-or_ge m j))
      where
        go : (m : ℕ) → (m < j) ⊎ (j ≤ m) → lacks_at asking.all m r.slot (get_or (readies_of jobs) m None) ≡ false
        go m (inl l) = asking.none_so_far m l
        go m (inr l) = unset_lacks asking.all m r.slot (get_or (readies_of jobs) m None) (no-bit-left asking.all bits j asking.left none m l)
