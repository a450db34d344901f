-- Which books pass: what is read is in range; values in range, written, are read back; what passes is the encoding of what is read; and 9 is a cap of 0 alone,
-- since a cap fills its field and 9 comes from the third test of a job. Assumes nothing.
use mathlib.Core.Path.{◌≡◌, sym, ap, ◌∙◌, subst, refl}
use mathlib.Core.Logic.{⊎_elim}
use Prim.Native.Nat.{ℕ, ◌+◌, ◌<◌, ◌^◌}
use mathlib.Core.Bool.{not, ◌||◌}
use mathlib.Core.List.{List}
use lib.ListN.{length}
use lib.Dec.{ltb, eqb, leb}
use borrow.Author.Tests.{eqb-true}
use Rattle.rules.specs.Verdicts.{Pass, Refused}
use Rattle.rules.specs.Fields.{byte, field, AllBytes}
use Rattle.rules.specs.Answers.{none, first_fault}
use Rattle.rules.specs.Limits.{outside, most_size, most_deadline, most_jobs, most_processors, most_flows}
use Rattle.rules.specs.Calendar.{calendar_bytes}
use Rattle.rules.specs.Book.{Book, InRange, flow_in, job_of}
use Rattle.rules.specs.Reading.{jobs_at, flow_start, job_start, job_at, book_of, flow_head_fault, job_fault, flow_fault, leftover_fault, book_fault, read, read_book, book_bytes, job_record, version_of, flow_head, book_head, release_at, flows_bytes}
use Rattle.rules.specs.Demands.Books.{BooksRead}
use Rattle.rules.proofs.Laws.Faults.{not-pass, then_met, fault_met, test_skipped, test-said, hold_skipped}
use Rattle.rules.proofs.Reading.Passing.{flow_in_book, job_of-flow, read_in-range, read-passes, book_passes, calendar_passes}
use Rattle.rules.proofs.Reading.RoundTrip.{Writable, writable_two, writable-one, read-written, calendar-read, calendar-written-passes}
use Rattle.rules.proofs.Reading.Lowered.{only_zero}
use Rattle.rules.proofs.Reading.Encodings.{book-encoded, calendar-encoded}

module _ (s : List ℕ) (bytes : AllBytes s) (f i : ℕ) where
  -- where 9 is said of a job, its cap is 0
  job-said : (g j at : ℕ) → job_fault s g j at ≡ Refused 9 f i → ((job_at s at).cap ≡ 0) × (g ≡ f) × (j ≡ i)
  unfolding job_fault job_at
  job-said g j at e =
      let short = test_skipped (ltb (length s) (at + job_record)) 5 g j _ 9 f i refl e in
      let size = test_skipped (outside 1 most_size (field 4 s at)) 8 g j _ 9 f i refl short.1 in
      let cap = test-said _ 9 g j _ f i size.1
      (λ d. not-pass 9 f i (sym (test_skipped (leb (2 ^ j) (field 8 s (at + 6))) 10 g j Pass 9 f i refl d).1)) in
      (eqb-true (field 2 s (at + 4)) 0 (sym (only_zero s (at + 4) bytes) ∙ cap.0), cap.1, cap.2)

  -- of a flow
  flow-said : (g at : ℕ) → flow_fault s g at ≡ Refused 9 f i → (i < jobs_at s at) × ((job_at s (job_start s at i)).cap ≡ 0) × (g ≡ f)
  unfolding flow_fault flow_head_fault
  flow-said g at e =
      ⊎_elim (λ p.
      let short = test_skipped (ltb (length s) (at + flow_head (version_of s))) 5 g none _ 9 f i refl p in
      let deadline = test_skipped (outside 1 most_deadline (field 2 s at)) 6 g none _ 9 f i refl short.1 in
      let release = test_skipped (leb (field 2 s at) (release_at s at)) 22 g none _ 9 f i refl deadline.1 in
      not-pass 9 f i (sym (test_skipped (outside 1 most_jobs (jobs_at s at)) 7 g none Pass 9 f i refl release.1).1))
      (λ p.
      let w = fault_met (λ j. job_fault s g j (job_start s at j)) (jobs_at s at) 9 f i p.1 in
      let said = job-said g w.0 (job_start s at w.0) w.3 in
      (subst (λ j. j < jobs_at s at) said.2 w.1, subst (λ j. (job_at s (job_start s at j)).cap ≡ 0) said.2 said.0, said.1))
      (then_met (flow_head_fault s g at) (first_fault (λ j. job_fault s g j (job_start s at j)) (jobs_at s at)) 9 f i e)

  -- of the flows of a book
  flows-said : first_fault (λ g. flow_fault s g (flow_start s g)) (byte s 7) ≡ Refused 9 f i → (job_of (flow_in (book_of s) f) i).cap ≡ 0
  flows-said e =
      let w = fault_met (λ g. flow_fault s g (flow_start s g)) (byte s 7) 9 f i e in
      let said = flow-said w.0 (flow_start s w.0) w.3 in
      subst (λ g. (job_of (flow_in (book_of s) g) i).cap ≡ 0) said.2
      (ap (λ v. (job_of v i).cap) (flow_in_book s w.0 w.1) ∙ ap (λ j. j.cap) (job_of-flow s (flow_start s w.0) i said.0) ∙ said.1)

  cap_zero : book_fault s ≡ Refused 9 f i → (job_of (flow_in (book_of s) f) i).cap ≡ 0
  unfolding book_fault leftover_fault
  cap_zero e =
      let size = test_skipped (ltb (length s) book_head || not (eqb (field 4 s 0) (length s))) 1 none none _ 9 f i refl e in
      let version = test_skipped (not (eqb (version_of s) 1 || eqb (version_of s) 2)) 2 none none _ 9 f i refl size.1 in
      let processors = test_skipped (outside 1 most_processors (field 2 s 5)) 3 none none _ 9 f i refl version.1 in
      let flows = test_skipped (ltb most_flows (byte s 7)) 4 none none _ 9 f i refl processors.1 in
      ⊎_elim flows-said (λ p. hold_skipped (eqb (flow_start s (byte s 7)) (length s)) 5 none none 9 f i refl p.1)
      (then_met (first_fault (λ g. flow_fault s g (flow_start s g)) (byte s 7)) (leftover_fault s) 9 f i flows.1)

-- the bytes of a book do not speak of its calendar
only_encodings : (book calendar : List ℕ) (b : Book) → AllBytes book → AllBytes calendar → read_book book calendar ≡ read b →
    (book ≡ book_bytes (version_of book) b) × (calendar ≡ calendar_bytes b.calendar)
unfolding book_bytes flows_bytes flow_in
only_encodings book calendar b bytes also reads =
    let w = read-passes book calendar b reads in
    rw w.is_book (
      book-encoded book bytes (book_passes book w.book_passes),
      calendar-encoded calendar also (calendar_passes calendar w.calendar_passes),
    )

pub books_read : BooksRead
books_read = record {
  in_range = read_in-range;
  version_2 = λ b r. read_back 2 b r (writable_two b r);
  version_1 = λ b r z. read_back 1 b r (writable-one b z);
  only_encodings = only_encodings;
  cap_zero = λ book f i bytes. cap_zero book bytes f i;
}
  where
    read_back : (v : ℕ) (b : Book) → InRange b → Writable v b → read_book (book_bytes v b) (calendar_bytes b.calendar) ≡ read b
    read_back v b r can =
        let c = r.calendar_in_range in
        read-written v b (calendar_bytes b.calendar) r can (calendar-written-passes b.calendar c) (calendar-read b.calendar c)
