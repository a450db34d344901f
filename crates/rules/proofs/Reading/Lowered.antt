-- Caps above P (02, Req 02): a book, and the same book with each cap lowered to P, have equal outcomes, since they are used alike; caps at or below P are
-- untouched; of the caps only 0 is refused. Assumes nothing.
use mathlib.Core.Path.{◌≡◌, refl, sym, ap, ◌∙◌}
use Prim.Native.Nat.{ℕ, zero, suc, ◌+◌, ◌^◌, ◌≤◌, ◌<◌}
use mathlib.Core.List.{List}
use native.Mathlib.Omega.{arith}
use lib.ListN.{length, length-map, get_or-map}
use lib.Dec.{ltb, leb, eqb}
use borrow.Author.Tests.{le-ltb, ne_eqb}
use Rattle.rules.specs.Verdicts.{Pass, Refused}
use Rattle.std.specs.Prelude.{if◌then◌else◌}
use Rattle.rules.specs.Fields.{field, AllBytes}
use Rattle.rules.specs.Limits.{outside, most_processors, most_size, most_cap}
use Rattle.rules.specs.Book.{Book, flow_count, no_flow, flow_in, lower_cap, lower_caps, flow_of, lowered, job_of, InRange}
use Rattle.rules.specs.Reading.{version_of, job_record, job_fault, read_book, read, book_bytes}
use Rattle.rules.proofs.Reading.Caps.{job-lowered, lowered_in-range, caps-kept}
use Rattle.rules.proofs.Laws.Fields.{field_lt}
use Rattle.rules.proofs.Reading.Passing.{read_in-range}
use Rattle.rules.proofs.Reading.RoundTrip.{Writable}
use Rattle.rules.proofs.Reading.Versions.{read_writable, read-beside}
use Rattle.rules.proofs.Reading.SameUse.{SameUse}

-- ---- the book with its caps lowered
module _ (b : Book) where
  -- flow f of it as it stands
  flow_in-lowered : (f : ℕ) → flow_in (lowered b) f ≡ lower_caps b.processors (flow_in b f)
  unfolding lowered flow_in lower_caps
  flow_in-lowered f = get_or-map (lower_caps b.processors) b.flows f no_flow

  count_of-lowered : flow_count (lowered b) ≡ flow_count b
  unfolding lowered
  count_of-lowered = length-map b.flows (lower_caps b.processors)

  -- lowered again it stays as it is
  lowered-caps : (f i : ℕ) → (job_of (lower_caps b.processors (flow_in b f)) i).cap ≤ b.processors
  unfolding lower_cap
  lowered-caps f i = rw (job-lowered b.processors (flow_in b f) i) (omega arith)

  pub same_use : SameUse b (lowered b)
  unfolding lowered flow_of
  same_use = record {
    flows = record {
      processors = refl;
      count = sym count_of-lowered;
      flow = λ f.
          sym (ap (lower_caps b.processors) (flow_in-lowered f)
          ∙ caps-kept b.processors (lower_caps b.processors (flow_in b f)) (lowered-caps f));
    };
    calendar = refl;
  }

  -- it is in range, and can be written in the same version
  lowered_book_in-range : InRange b → InRange (lowered b)
  unfolding lowered
  lowered_book_in-range r = record {
    processors_least = r.processors_least;
    processors_most = r.processors_most;
    flows_most = omega (arith, count_of-lowered, r.flows_most);
    each_flow = λ f l.
        rw (flow_in-lowered f)
        (lowered_in-range b.processors most_cap (flow_in b f) r.processors_least (omega (arith, r.processors_most))
        (r.each_flow f (omega (arith, count_of-lowered))));
    calendar_in_range = r.calendar_in_range;
  }

  lowered_writable : (v : ℕ) → Writable v b → Writable v (lowered b)
  unfolding lower_caps
  lowered_writable v can = record {
    version_known = can.version_known;
    release_fits = λ f l. rw (flow_in-lowered f) (can.release_fits f (omega (arith, count_of-lowered)));
  }

-- a book that is read is read with its caps lowered too
pub lowered_reads : (book calendar : List ℕ) (b : Book) → read_book book calendar ≡ read b →
    read_book (book_bytes (version_of book) (lowered b)) calendar ≡ read (lowered b)
lowered_reads book calendar b e =
    read-beside book calendar b e (version_of book) (lowered b) (lowered_book_in-range b (read_in-range book calendar b e))
    (lowered_writable b (version_of book) (read_writable book calendar b e)) (sym (same_use b).calendar)

-- ---- Req 02
-- "Only a cap of 0 is still 9": two bytes hold no more than 65,535
pub only_zero : (s : List ℕ) (at : ℕ) → AllBytes s → outside 1 most_cap (field 2 s at) ≡ eqb (field 2 s at) 0
only_zero s at bytes = go (field 2 s at) (field_lt 2 s at bytes)
  where
    go : (n : ℕ) → n < 256 ^ 2 → outside 1 most_cap n ≡ eqb n 0
    go zero l = refl
    go (suc n) l = rw (le-ltb (suc n) 1 (omega arith), le-ltb most_cap (suc n) (omega arith), ne_eqb (suc n) 0 (λ e. omega arith)) refl

-- the record of a job whose cap is not above P has the faults that it had before the request
pub job_fault-before : (s : List ℕ) (f i at : ℕ) → field 2 s 5 ≤ most_processors → field 2 s (at + 4) ≤ field 2 s 5 →
    job_fault s f i at
    ≡ (if ltb (length s) (at + job_record) then Refused 5 f i
    else if outside 1 most_size (field 4 s at) then Refused 8 f i
    else if outside 1 (field 2 s 5) (field 2 s (at + 4)) then Refused 9 f i
    else if leb (2 ^ i) (field 8 s (at + 6)) then Refused 10 f i
    else Pass)
unfolding job_fault
job_fault-before s f i at p l = rw (le-ltb most_cap (field 2 s (at + 4)) (omega arith), le-ltb (field 2 s 5) (field 2 s (at + 4)) l) refl
