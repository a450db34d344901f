-- Book versions (02, Req 01): what a book of either version reads as can be written again in that version, and a version 1 book, in which every
-- release is 0, has the outcome of the version 2 book with its values; a faulty one is never refused by 22. Assumes nothing.
use mathlib.Core.Path.{◌≡◌, refl, sym, ap, ◌∙◌}
use mathlib.Core.Logic.{inl, inr}
use Prim.Native.Nat.{ℕ, zero, suc, ◌+◌, ◌^◌, ◌<◌}
use mathlib.Core.List.{List}
use native.Mathlib.Nat.{add-zero}
use native.Mathlib.Omega.{arith}
use lib.ListN.{length}
use lib.Dec.{ltb, leb}
use borrow.Author.Tests.{lt-leb}
use Rattle.rules.specs.Verdicts.{Verdict, Pass, Refused}
use Rattle.std.specs.Prelude.{if◌then◌else◌}
use Rattle.rules.specs.Fields.{byte, field}
use Rattle.rules.specs.Answers.{none}
use Rattle.rules.specs.Limits.{outside, most_deadline, most_jobs}
use Rattle.rules.specs.Calendar.{calendar_of}
use Rattle.rules.specs.Book.{Book, flow_count, flow_in, lower_caps, flow_of, InRange}
use Rattle.rules.specs.Reading.{version_of, release_size, release_at, jobs_at, flow_start, flow_head_fault, book_with, read, read_book, book_bytes}
use Rattle.rules.proofs.Reading.Passing.{Known, flow-count, flow_in_book, release_of-flow, book_passes, read-passes, read_in-range}
use Rattle.rules.proofs.Reading.RoundTrip.{Writable, writable_two, read-written}

-- "a version 1 book means release 0"
release-at-zero : (s : List ℕ) (at : ℕ) → version_of s ≡ 1 → release_at s at ≡ 0
unfolding release_at release_size field
release-at-zero s at e = rw e refl

-- the head of a flow in a version 1 book has the faults that it had: 5, 6 and 7, and never 22
jobs-at_two : (s : List ℕ) (at : ℕ) → version_of s ≡ 1 → jobs_at s at ≡ byte s (at + 2)
unfolding jobs_at release_size
jobs-at_two s at e = rw e (ap (byte s) (add-zero (at + 2)))

pub head_fault-one : (s : List ℕ) (f at : ℕ) → version_of s ≡ 1 →
    flow_head_fault s f at
    ≡ (if ltb (length s) (at + 3) then Refused 5 f none
    else if outside 1 most_deadline (field 2 s at) then Refused 6 f none
    else if outside 1 most_jobs (byte s (at + 2)) then Refused 7 f none
    else Pass)
unfolding flow_head_fault release_size
head_fault-one s f at e = rw (release-at-zero s at e, jobs-at_two s at e, e) (go (field 2 s at))
  where
    rest : Verdict
    rest = if outside 1 most_jobs (byte s (at + 2)) then Refused 7 f none else Pass

    go : (d : ℕ) → (if ltb (length s) (at + 3) then Refused 5 f none else if outside 1 most_deadline d then Refused 6 f none else if leb d 0 then Refused 22 f none else rest)
        ≡ (if ltb (length s) (at + 3) then Refused 5 f none else if outside 1 most_deadline d then Refused 6 f none else rest)
    go zero = refl
    go (suc d) = rw (lt-leb (suc d) 0 (omega arith)) refl

module _ (book calendar : List ℕ) (b : Book) (e : read_book book calendar ≡ read b) where
  pub read-release-zero : version_of book ≡ 1 → (f : ℕ) → f < flow_count b → (flow_of b f).release ≡ 0
  unfolding lower_caps flow_of flow_in
  read-release-zero one f l =
      let same : b ≡ book_with book calendar = (read-passes book calendar b e).is_book in
      ap (λ (c : Book). (flow_in c f).release) same
      ∙ ap (λ w. w.release) (flow_in_book book f (omega (arith, ap flow_count same, flow-count book)))
      ∙ release_of-flow book (flow_start book f) ∙ release-at-zero book (flow_start book f) one

  -- the values can be written in the version that they were read in
  pub read_writable : Writable (version_of book) b
  unfolding release_size lower_caps flow_of
  read_writable = record { version_known = known; release_fits = fits known }
    where
      known : Known (version_of book)
      known = (book_passes book (read-passes book calendar b e).book_passes).version_known

      fits : Known (version_of book) → (f : ℕ) → f < flow_count b → (flow_in b f).release < 256 ^ release_size (version_of book)
      fits (inl one) f l = rw one (omega (arith, read-release-zero one f l))
      fits (inr two) f l = rw two ((writable_two b (read_in-range book calendar b e)).release_fits f l)

  -- the calendar is that of the bytes beside the book
  pub read-calendar : calendar_of calendar ≡ b.calendar
  read-calendar = sym (ap (λ (c : Book). c.calendar) (read-passes book calendar b e).is_book)

  -- another book with this calendar reads back beside the same bytes
  pub read-beside : (v : ℕ) (c : Book) → InRange c → Writable v c → c.calendar ≡ b.calendar → read_book (book_bytes v c) calendar ≡ read c
  read-beside v c r can same = read-written v c calendar r can (read-passes book calendar b e).calendar_passes (read-calendar ∙ sym same)

  -- the version 2 book with these values reads alike
  pub version_2-reads : read_book (book_bytes 2 b) calendar ≡ read b
  version_2-reads = let r = read_in-range book calendar b e in read-beside 2 b r (writable_two b r) refl
