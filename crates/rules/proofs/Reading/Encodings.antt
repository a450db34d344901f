-- Bytes that pass are the encoding of what is read: each field holds the number that is read there, the parts stand one after the other, and nothing is left
-- over. Of a book in its version, and of a calendar. Assumes nothing.
use mathlib.Core.Path.{◌≡◌, refl, sym, ap, ◌∙◌, subst}
use Prim.Native.Nat.{ℕ, zero, suc, ◌+◌, ◌*◌, ◌≤◌, ◌<◌}
use mathlib.Core.List.{List, ◌++◌}
use native.Mathlib.Omega.{arith}
use lib.ListN.{length, length-append}
use Rattle.rules.specs.Walks.{join_from, sum_to}
use Rattle.rules.specs.Fields.{byte, field, bytes_of, AllBytes}
use Rattle.rules.specs.Calendar.{Calendar, window_of, calendar_of, calendar_head, window_length, window_at, calendar_bytes, window_bytes}
use Rattle.rules.specs.Book.{Flow, Book, flow_count, job_count, flow_in, job_of}
use Rattle.rules.specs.Reading.{version_of, release_size, flow_head, job_record, release_at, jobs_at, flow_start, job_start, job_at, flow_at, job_bytes, flow_bytes, book_head, book_of, flows_bytes, book_bytes}
use Rattle.rules.proofs.Laws.Fields.{bytes-length, StandsAt, stands-append, field-read, byte-read, join_stands, stands-equal, joined-stands}
use Rattle.rules.proofs.Reading.Passing.{deadline_of-flow, release_of-flow, job-count, job_of-flow, BookPasses, CalendarPasses, flow-count, flow_in_book, window-count, window_in-calendar}
use Rattle.rules.proofs.Reading.RoundTrip.{job-length, flow-length, flows_before, flows-length, book-length, window-length, calendar_length}

module _ (s : List ℕ) (bytes : AllBytes s) where
  -- ---- a book
  abbrev v : ℕ
  v = version_of s

  job-encoded : (at : ℕ) → StandsAt s at (job_bytes (job_at s at))
  unfolding job_bytes job_at
  job-encoded at =
      stands-append s at 6 (bytes_of 4 (field 4 s at) ++ bytes_of 2 (field 2 s (at + 4))) (bytes_of 8 (field 8 s (at + 6))) (simp (length-append, bytes-length))
      (stands-append s at 4 (bytes_of 4 (field 4 s at)) (bytes_of 2 (field 2 s (at + 4))) (bytes-length 4 (field 4 s at))
      (field-read 4 s at bytes) (field-read 2 s (at + 4) bytes))
      (field-read 8 s (at + 6) bytes)

  jobs-there : (at : ℕ) → StandsAt s (at + (2 + release_size v)) (bytes_of 1 (jobs_at s at))
  unfolding jobs_at
  jobs-there at =
      let offset : at + 2 + release_size v ≡ at + (2 + release_size v) = omega arith in
      subst (λ (o : ℕ). StandsAt s o (bytes_of 1 (byte s (at + 2 + release_size v)))) offset (byte-read s (at + 2 + release_size v) bytes)

  flow-encoded : (at : ℕ) → StandsAt s at (flow_bytes v (flow_at s at))
  unfolding flow_bytes
  flow-encoded at =
      stands-append s at (flow_head v) (deadline ++ release ++ count) (join_from (λ i. job_bytes (job_of w i)) (job_count w) 0)
      (simp (length-append, bytes-length) (omega arith))
      (stands-append s at (2 + release_size v) (deadline ++ release) count (simp (length-append, bytes-length))
      (stands-append s at 2 deadline release (bytes-length 2 w.deadline)
      (rw (deadline_of-flow s at) (field-read 2 s at bytes))
      (rw (release_of-flow s at) (unfold release_at in field-read (release_size v) s (at + 2) bytes)))
      (rw (job-count s at) (jobs-there at)))
      (join_stands s (at + flow_head v) (λ i. job_bytes (job_of w i)) job_record (job_count w) (λ i l. job-length (job_of w i)) each)
    where
      w : Flow
      w = flow_at s at

      deadline : List ℕ
      deadline = bytes_of 2 w.deadline

      release : List ℕ
      release = bytes_of (release_size v) w.release

      count : List ℕ
      count = bytes_of 1 (job_count w)

      each : (i : ℕ) → i < job_count w → StandsAt s (at + flow_head v + job_record * i) (job_bytes (job_of w i))
      each i l = rw (job_of-flow s at i (rw (job-count s at) at l)) (job-encoded (job_start s at i))

  -- the whole book, where it passes
  module _ (passes : BookPasses s) where
    abbrev b : Book
    b = book_of s

    count-read : flow_count b ≡ byte s 7
    count-read = flow-count s

    -- each flow starts where those before it end
    start-read : (f : ℕ) → f ≤ flow_count b → flow_start s f ≡ book_head + flows_before v b f
    unfolding flow_start sum_to
    start-read zero l = refl
    start-read (suc f) l =
        let m : f < byte s 7 = omega (arith, count-read) in
        omega (
          arith,
          start-read f (omega arith),
          flow-length v (flow_in b f),
          ap job_count (flow_in_book s f m),
          job-count s (flow_start s f),
        )

    flow-stands : (f : ℕ) → f < flow_count b → StandsAt s (book_head + flows_before v b f) (flow_bytes v (flow_in b f))
    flow-stands f l =
        let m : f < byte s 7 = omega (arith, count-read) in
        subst (λ (o : ℕ). StandsAt s o (flow_bytes v (flow_in b f))) (start-read f (omega arith))
        (rw (flow_in_book s f m) (flow-encoded (flow_start s f)))

    whole_length : length s ≡ book_head + length (flows_bytes v b)
    whole_length = omega (arith, passes.nothing_left, ap (flow_start s) count-read, start-read (flow_count b) (omega arith), flows-length v b)

    pub book-encoded : s ≡ book_bytes v b
    unfolding book_bytes flows_bytes book_of
    book-encoded =
        stands-equal s (book_bytes v b) (whole_length ∙ sym (book-length v b))
        (stands-append s 0 8 (size ++ version ++ processors ++ count) (flows_bytes v b) (simp (length-append, bytes-length))
        (stands-append s 0 7 (size ++ version ++ processors) count (simp (length-append, bytes-length))
        (stands-append s 0 5 (size ++ version) processors (simp (length-append, bytes-length))
        (stands-append s 0 4 size version (bytes-length 4 _)
        (subst (λ (n : ℕ). StandsAt s 0 (bytes_of 4 n)) (passes.length_field ∙ whole_length) (field-read 4 s 0 bytes))
        (byte-read s 4 bytes))
        (field-read 2 s 5 bytes))
        (subst (λ (n : ℕ). StandsAt s 7 (bytes_of 1 n)) (sym count-read) (byte-read s 7 bytes)))
        (joined-stands s book_head (λ f. flow_bytes v (flow_in b f)) (flow_count b) flow-stands))
      where
        size : List ℕ
        size = bytes_of 4 (book_head + length (flows_bytes v b))

        version : List ℕ
        version = bytes_of 1 v

        processors : List ℕ
        processors = bytes_of 2 b.processors

        count : List ℕ
        count = bytes_of 1 (flow_count b)

  -- ---- a calendar
  module _ (passes : CalendarPasses s) where
    abbrev c : Calendar
    c = calendar_of s

    windows-read : length c ≡ byte s 5
    windows-read = window-count s

    window-encoded : (k : ℕ) → k < length c → StandsAt s (calendar_head + window_length * k) (window_bytes (window_of c k))
    window-encoded k l =
        rw (window_in-calendar s k (omega (arith, windows-read)))
        (unfold window_at window_bytes in
        stands-append s at 2 (bytes_of 2 (field 2 s at)) (bytes_of 2 (field 2 s (at + 2))) (bytes-length 2 (field 2 s at))
        (field-read 2 s at bytes) (field-read 2 s (at + 2) bytes))
      where
        at : ℕ
        at = calendar_head + window_length * k

    pub calendar-encoded : s ≡ calendar_bytes c
    unfolding calendar_bytes
    calendar-encoded =
        stands-equal s (calendar_bytes c)
        (omega (arith, passes.calendar_bytes_is, windows-read, calendar_length c))
        (stands-append s 0 6 (size ++ bytes_of 1 1 ++ count) (join_from (λ k. window_bytes (window_of c k)) (length c) 0) (simp (length-append, bytes-length))
        (stands-append s 0 5 (size ++ bytes_of 1 1) count (simp (length-append, bytes-length))
        (stands-append s 0 4 size (bytes_of 1 1) (bytes-length 4 _)
        (subst (λ (n : ℕ). StandsAt s 0 (bytes_of 4 n)) (omega (arith, passes.calendar_length, passes.calendar_bytes_is, windows-read)) (field-read 4 s 0 bytes))
        (subst (λ (n : ℕ). StandsAt s 4 (bytes_of 1 n)) passes.calendar_version (byte-read s 4 bytes)))
        (subst (λ (n : ℕ). StandsAt s 5 (bytes_of 1 n)) (sym windows-read) (byte-read s 5 bytes)))
        (join_stands s calendar_head (λ k. window_bytes (window_of c k)) window_length (length c) (λ k l. window-length (window_of c k)) window-encoded))
      where
        size : List ℕ
        size = bytes_of 4 (calendar_head + window_length * length c)

        count : List ℕ
        count = bytes_of 1 (length c)
