-- Books that are used alike have the same calls; a book is used as the version 2 book with its values (02, Req 01), and as the one with each cap lowered to P
-- (02, Req 02). Assumes nothing.
use mathlib.Core.Path.{◌≡◌, refl, sym, ap, ◌∙◌}
use Prim.Native.Nat.{ℕ}
use mathlib.Core.List.{List}
use Rattle.rules.specs.Book.{Book, flow_in, flow_of, lowered}
use Rattle.rules.specs.Reading.{version_of, book_bytes, read, read_book}
use Rattle.rules.specs.Planner.{plan_call}
use Rattle.rules.specs.Check.{table_rows, check_call}
use Rattle.rules.specs.Dispatch.{dispatch_checked}
use Rattle.rules.specs.Demands.Books.{SameCalls, Version1Kept, CapsLowered}
use Rattle.rules.proofs.Reading.Caps.{caps-kept}
use Rattle.rules.proofs.Reading.Versions.{read-release-zero, version_2-reads}
use Rattle.rules.proofs.Reading.SameUse.{SameUse, plan_reading-same, check_reading-same, dispatch-same}
use Rattle.rules.proofs.Reading.Lowered.{lowered_reads, same_use}
use Rattle.rules.proofs.Demands.Dispatches.{dispatch-read}
use Rattle.rules.proofs.Demands.Finishes.{finish-same}

module _ (book other calendar : List ℕ) (b c : Book) (reads : read_book book calendar ≡ read b) (reads' : read_book other calendar ≡ read c) (same : SameUse b c) where
  same_check : (table area : List ℕ) → check_call book calendar table area ≡ check_call other calendar table area
  unfolding check_call
  same_check table area = rw (reads, reads') (check_reading-same b c same table area)

  same_calls : SameCalls book other calendar
  unfolding plan_call
  same_calls = record {
    same_plan = λ out area. rw (reads, reads') (plan_reading-same b c same out area);
    same_check = same_check;
    same_list = λ table out area.
        dispatch-read book calendar b reads table out area
        ∙ ap (dispatch_checked b (table_rows b table) out area) (same_check table area)
        ∙ dispatch-same b c same.flows table out area (check_call other calendar table area)
        ∙ sym (dispatch-read other calendar c reads' table out area);
    same_finish = finish-same book other calendar b c reads reads' same;
  }

pub version_1_kept : Version1Kept
version_1_kept = record {
  release_zero = read-release-zero;
  as_version_2 = λ book calendar b reads.
      same_calls book (book_bytes 2 b) calendar b b reads (version_2-reads book calendar b reads)
      (record { flows = record { processors = refl; count = refl; flow = λ f. refl }; calendar = refl });
}

pub caps_lowered : CapsLowered
unfolding flow_of
caps_lowered = record {
  lowered_reads = lowered_reads;
  as_lowered = λ book calendar b reads.
      same_calls book (book_bytes (version_of book) (lowered b)) calendar b (lowered b) reads (lowered_reads book calendar b reads) (same_use b);
  untouched = λ b l f. caps-kept b.processors (flow_in b f) (l f);
}
