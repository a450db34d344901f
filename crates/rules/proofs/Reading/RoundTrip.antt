-- Values in range, written as a book of version 1 or 2, are read back as they are: the bytes pass every test, and stand for the same values.
-- Each part of the encoding stands in it at the offset where the reading looks for it; a field reads what was written there. Assumes nothing.
use mathlib.Core.Path.{◌≡◌, refl, sym, ap, subst, ◌∙◌}
use mathlib.Core.Logic.{inl, inr}
use Prim.Native.Nat.{ℕ, zero, suc, ◌+◌, ◌*◌, ◌^◌, ◌≤◌, ◌<◌}
use mathlib.Core.Bool.{Bool, true, false}
use mathlib.Core.List.{List, [], ◌++◌}
use native.Mathlib.Nat.{pow-le-pow_right}
use native.Mathlib.Omega.{arith}
use lib.ListN.{length, length-append}
use lib.Dec.{eqb}
use borrow.Author.Tests.{le-ltb, lt-leb, eq-eqb}
use Rattle.rules.specs.Verdicts.{Pass}
use Rattle.std.specs.Prelude.{if◌then◌else◌}
use Rattle.rules.specs.Walks.{sum_to, list_from, join_from}
use Rattle.rules.specs.Fields.{byte, field, bytes_of, AllBytes}
use Rattle.rules.specs.Limits.{most_jobs, most_cap, most_windows, most_reopening}
use Rattle.rules.specs.Calendar.{Calendar, calendar_of, calendar_fault, CalendarInRange, window_of, calendar_bytes, calendar_head, window_length, window_at, begins_early, window_fault, no_window, Window, window_bytes}
use Rattle.rules.specs.Book.{Job, Flow, Book, with_calendar, flow_count, job_count, no_flow, no_job, flow_in, job_of, JobInRange, FlowInRange, InRange}
use Rattle.rules.specs.Reading.{book_head, version_of, release_size, flow_head, job_record, release_at, jobs_at, flow_start, job_start, job_at, flow_at, book_of, book_fault, read_book, job_bytes, flow_bytes, flows_bytes, book_bytes}
use Rattle.rules.specs.Reading.Reading.{read}
use Rattle.rules.proofs.Laws.Sums.{sum_ext, sum_const, sum-le, sum_up}
use Rattle.rules.proofs.Laws.Walks.{list_of, join-length-zero, any_false}
use Rattle.rules.proofs.Laws.Fields.{bytes-length, StandsAt, stands-whole, stands-first, stands_after, stands_join, field-written, byte-written, bytes_of_lem, bytes-append, bytes_join, join-bytes-length, stands_join-at}
use Rattle.rules.proofs.Reading.Passing.{Known, FlowPasses, flow_no_fault, book_no_fault, pass-reads}

-- ---- lengths
pub job-length : (j : Job) → length (job_bytes j) ≡ job_record
unfolding job_bytes
job-length j = simp (length-append, bytes-length)

pub flow-length : (v : ℕ) (w : Flow) → length (flow_bytes v w) ≡ flow_head v + job_record * job_count w
unfolding flow_bytes
flow-length v w =
    let jobs = sum_ext (λ i. length (job_bytes (job_of w i))) (λ i. job_record) (job_count w) (λ i l. job-length (job_of w i)) in
    simp (length-append, bytes-length)
    (omega (arith, join-length-zero (λ i. job_bytes (job_of w i)) (job_count w), sum_const job_record (job_count w)))

-- ---- a job that stands in bytes
module _ (i : ℕ) (j : Job) (s : List ℕ) (at : ℕ) (r : JobInRange most_cap i j) (l : i < most_jobs) (h : StandsAt s at (job_bytes j)) where
  -- the values read there are the job's
  pub job_read : job_at s at ≡ j
  unfolding job_bytes job_at
  job_read = λ x. record { size = size-read x; cap = cap-read x; predecessors = predecessors-read x }
    where
      front : StandsAt s at (bytes_of 4 j.size ++ bytes_of 2 j.cap)
      front = stands-first s at (bytes_of 4 j.size ++ bytes_of 2 j.cap) (bytes_of 8 j.predecessors) h

      size-read : field 4 s at ≡ j.size
      size-read = field-written 4 j.size s at (omega (arith, r.size_most)) (stands-first s at (bytes_of 4 j.size) (bytes_of 2 j.cap) front)

      cap-read : field 2 s (at + 4) ≡ j.cap
      cap-read =
          field-written 2 j.cap s (at + 4) (omega (arith, r.cap_most))
          (stands_after s at 4 (bytes_of 4 j.size) (bytes_of 2 j.cap) (bytes-length 4 j.size) front)

      predecessors-read : field 8 s (at + 6) ≡ j.predecessors
      predecessors-read =
          let below : 2 ^ i ≤ 2 ^ most_jobs = pow-le-pow_right {n = 2} (omega arith) {i = i} {j = most_jobs} (omega arith) in
          field-written 8 j.predecessors s (at + 6) (omega (arith, r.predecessors_below))
          (stands_after s at 6 (bytes_of 4 j.size ++ bytes_of 2 j.cap) (bytes_of 8 j.predecessors) (simp (length-append, bytes-length)) h)

-- ---- a flow that stands in the bytes of a book of version v; its release fits its field
module _ (v : ℕ) (w : Flow) (s : List ℕ) (at : ℕ) (r : FlowInRange most_cap w) (fits : w.release < 256 ^ release_size v)
    (version : version_of s ≡ v) (h : StandsAt s at (flow_bytes v w)) where
  -- the parts of the head
  abbrev deadline : List ℕ
  deadline = bytes_of 2 w.deadline

  abbrev release : List ℕ
  release = bytes_of (release_size v) w.release

  abbrev count : List ℕ
  count = bytes_of 1 (job_count w)

  head-stands : StandsAt s at (deadline ++ release ++ count)
  unfolding flow_bytes
  head-stands = stands-first s at (deadline ++ release ++ count) (join_from (λ i. job_bytes (job_of w i)) (job_count w) 0) h

  dates-stand : StandsAt s at (deadline ++ release)
  dates-stand = stands-first s at (deadline ++ release) count head-stands

  pub deadline-read : field 2 s at ≡ w.deadline
  deadline-read = field-written 2 w.deadline s at (omega (arith, r.deadline_most)) (stands-first s at deadline release dates-stand)

  pub release-read : release_at s at ≡ w.release
  unfolding release_at
  release-read =
      rw version
      (field-written (release_size v) w.release s (at + 2) fits (stands_after s at 2 deadline release (bytes-length 2 w.deadline) dates-stand))

  pub job-count-read : jobs_at s at ≡ job_count w
  unfolding jobs_at
  job-count-read =
      let offset : at + (2 + release_size v) ≡ at + 2 + release_size v = omega arith in
      rw version
      (byte-written (job_count w) s (at + 2 + release_size v) (omega (arith, r.jobs_most))
      (rw offset at (stands_after s at (2 + release_size v) (deadline ++ release) count (simp (length-append, bytes-length)) head-stands)))

  -- job i stands where the reading looks for it
  pub job-stands : (i : ℕ) → i < job_count w → StandsAt s (job_start s at i) (job_bytes (job_of w i))
  unfolding flow_bytes
  job-stands i l = rw version (rw before at (stands_join s (at + flow_head v) (λ k. job_bytes (job_of w k)) (job_count w) jobs-stand i l))
    where
      jobs-stand : StandsAt s (at + flow_head v) (join_from (λ k. job_bytes (job_of w k)) (job_count w) 0)
      jobs-stand =
          stands_after s at (flow_head v) (deadline ++ release ++ count) (join_from (λ k. job_bytes (job_of w k)) (job_count w) 0)
          (simp (length-append, bytes-length) (omega arith)) h

      before : sum_to (λ k. length (job_bytes (job_of w k))) i ≡ job_record * i
      before = sum_ext (λ k. length (job_bytes (job_of w k))) (λ k. job_record) i (λ k m. job-length (job_of w k)) ∙ sum_const job_record i

  pub job-read-at : (i : ℕ) → i < job_count w → job_at s (job_start s at i) ≡ job_of w i
  job-read-at i l = job_read i (job_of w i) s (job_start s at i) (r.each_job i l) (omega (arith, r.jobs_most)) (job-stands i l)

  -- the values read there are the flow's
  pub flow-read : flow_at s at ≡ w
  unfolding flow_at job_of
  flow-read = λ x. record { deadline = deadline-read x; release = release-read x; jobs = jobs-read x }
    where
      jobs-read : list_from (λ i. job_at s (job_start s at i)) (jobs_at s at) 0 ≡ w.jobs
      jobs-read = list_of (λ i. job_at s (job_start s at i)) (jobs_at s at) w.jobs no_job job-count-read job-read-at

  -- a flow in range that stands inside the bytes of a book passes
  pub flow-stands-passes : at + length (flow_bytes v w) ≤ length s → FlowPasses s at
  flow-stands-passes inside = record {
    head = record {
      flow_head_whole = rw version (omega (arith, flow-length v w));
      deadline_from = rw deadline-read r.deadline_least;
      deadline_to = rw deadline-read r.deadline_most;
      release_to = rw (release-read, deadline-read) r.release_below;
      jobs_from = rw job-count-read r.jobs_least;
      jobs_to = rw job-count-read r.jobs_most;
    };
    each = λ i l.
        let m : i < job_count w = rw job-count-read at l in
        record { job_whole = rw version (omega (arith, flow-length v w)); job_in_range = rw (job-read-at i m) (r.each_job i m) };
    flow_whole = rw version (omega (arith, flow-length v w, job-count-read));
  }

-- ---- the whole book
-- the bytes in front of flow f
abbrev pub flows_before : ℕ → Book → ℕ → ℕ
flows_before v b f = sum_to (λ g. length (flow_bytes v (flow_in b g))) f

pub flows-length : (v : ℕ) (b : Book) → length (flows_bytes v b) ≡ flows_before v b (flow_count b)
unfolding flows_bytes
flows-length v b = join-length-zero (λ f. flow_bytes v (flow_in b f)) (flow_count b)

pub book-length : (v : ℕ) (b : Book) → length (book_bytes v b) ≡ book_head + length (flows_bytes v b)
unfolding book_bytes
book-length v b = simp (length-append, bytes-length)

-- the parts of the head, and the flows, stand where the reading looks for them
pub record BookStands (v : ℕ) (s : List ℕ) (b : Book) : Type 0 where
  pub length_stands : StandsAt s 0 (bytes_of 4 (book_head + length (flows_bytes v b)))
  pub version_stands : StandsAt s 4 (bytes_of 1 v)
  pub processors_stand : StandsAt s 5 (bytes_of 2 b.processors)
  pub flow_count_stands : StandsAt s 7 (bytes_of 1 (flow_count b))
  pub flows_stand : StandsAt s book_head (flows_bytes v b)

pub book-stands : (v : ℕ) (b : Book) → BookStands v (book_bytes v b) b
unfolding book_bytes
book-stands v b = record {
  length_stands = stands-first s 0 size version to-version;
  version_stands = stands_after s 0 4 size version (bytes-length 4 (book_head + length (flows_bytes v b))) to-version;
  processors_stand = stands_after s 0 5 (size ++ version) processors (simp (length-append, bytes-length)) to-processors;
  flow_count_stands = stands_after s 0 7 (size ++ version ++ processors) count (simp (length-append, bytes-length)) to-count;
  flows_stand = stands_after s 0 8 (size ++ version ++ processors ++ count) (flows_bytes v b) (simp (length-append, bytes-length)) (stands-whole s);
}
  where
    size : List ℕ
    size = bytes_of 4 (book_head + length (flows_bytes v b))

    version : List ℕ
    version = bytes_of 1 v

    processors : List ℕ
    processors = bytes_of 2 b.processors

    count : List ℕ
    count = bytes_of 1 (flow_count b)

    s : List ℕ
    s = size ++ version ++ processors ++ count ++ flows_bytes v b

    to-count : StandsAt s 0 (size ++ version ++ processors ++ count)
    to-count = stands-first s 0 (size ++ version ++ processors ++ count) (flows_bytes v b) (stands-whole s)

    to-processors : StandsAt s 0 (size ++ version ++ processors)
    to-processors = stands-first s 0 (size ++ version ++ processors) count to-count

    to-version : StandsAt s 0 (size ++ version)
    to-version = stands-first s 0 (size ++ version) processors to-processors

-- the values of a book can be written in a version: it is 1 or 2, and each release fits its field, which in version 1 says 0
pub record Writable (v : ℕ) (b : Book) : Type 0 where
  pub version_known : Known v
  pub release_fits : (f : ℕ) → f < flow_count b → (flow_in b f).release < 256 ^ release_size v

-- in version 2 all values in range can be written, in version 1 those without releases
pub writable_two : (b : Book) → InRange b → Writable 2 b
unfolding release_size
writable_two b r = record {
  version_known = inr refl;
  release_fits = λ f l. omega (arith, (r.each_flow f l).release_below, (r.each_flow f l).deadline_most);
}

pub writable-one : (b : Book) → ((f : ℕ) → f < flow_count b → (flow_in b f).release ≡ 0) → Writable 1 b
unfolding release_size
writable-one b z = record { version_known = inl refl; release_fits = λ f l. omega (arith, z f l) }

release-size_most : (v : ℕ) → release_size v ≤ 2
unfolding release_size
release-size_most v = go (eqb v 2)
  where
    go : (c : Bool) → (if c then 2 else 0) ≤ 2
    go true = omega arith
    go false = omega arith

module _ (v : ℕ) (b : Book) (r : InRange b) (can : Writable v b) where
  -- a book in range has at most 8 + 64 * (5 + 14 * 64) bytes
  pub book-length_most : length (book_bytes v b) ≤ 57672
  book-length_most =
      omega (
        arith,
        book-length v b,
        flows-length v b,
        sum-le (λ f. length (flow_bytes v (flow_in b f))) 901 (flow_count b)
            (λ f l. omega (arith, flow-length v (flow_in b f), release-size_most v, (r.each_flow f l).jobs_most)),
        r.flows_most,
      )

  -- what the reading finds in the head
  stand : BookStands v (book_bytes v b) b
  stand = book-stands v b

  pub length-read : field 4 (book_bytes v b) 0 ≡ length (book_bytes v b)
  length-read =
      field-written 4 (book_head + length (flows_bytes v b)) (book_bytes v b) 0 (omega (arith, book-length_most, book-length v b)) stand.length_stands
      ∙ sym (book-length v b)

  version_small : Known v → v < 256
  version_small (inl e) = omega arith
  version_small (inr e) = omega arith

  pub version-read : version_of (book_bytes v b) ≡ v
  version-read = byte-written v (book_bytes v b) 4 (version_small can.version_known) stand.version_stands

  pub processors-read : field 2 (book_bytes v b) 5 ≡ b.processors
  processors-read = field-written 2 b.processors (book_bytes v b) 5 (omega (arith, r.processors_most)) stand.processors_stand

  pub flow-count-read : byte (book_bytes v b) 7 ≡ flow_count b
  flow-count-read = byte-written (flow_count b) (book_bytes v b) 7 (omega (arith, r.flows_most)) stand.flow_count_stands

  flow-stands : (f : ℕ) → f < flow_count b → StandsAt (book_bytes v b) (book_head + flows_before v b f) (flow_bytes v (flow_in b f))
  unfolding flows_bytes
  flow-stands f l = stands_join (book_bytes v b) book_head (λ g. flow_bytes v (flow_in b g)) (flow_count b) stand.flows_stand f l

  -- the reading finds each flow where it was written
  pub flow_start-read : (f : ℕ) → f ≤ flow_count b → flow_start (book_bytes v b) f ≡ book_head + flows_before v b f
  unfolding flow_start sum_to
  flow_start-read zero l = refl
  flow_start-read (suc f) l =
      let ih = flow_start-read f (omega arith) in
      let m : f < flow_count b = omega arith in
      let count : jobs_at (book_bytes v b) (flow_start (book_bytes v b) f) ≡ job_count (flow_in b f) =
      ap (jobs_at (book_bytes v b)) ih
      ∙ job-count-read v (flow_in b f) (book_bytes v b) (book_head + flows_before v b f) (r.each_flow f m)
      (can.release_fits f m) version-read (flow-stands f m) in
      omega (arith, flow-length v (flow_in b f), ap release_size version-read)

  pub flow-stands_at_start : (f : ℕ) → f < flow_count b → StandsAt (book_bytes v b) (flow_start (book_bytes v b) f) (flow_bytes v (flow_in b f))
  flow-stands_at_start f l = rw (flow_start-read f (omega arith)) (flow-stands f l)

  flow_fits : (f : ℕ) → f < flow_count b → flow_start (book_bytes v b) f + length (flow_bytes v (flow_in b f)) ≤ length (book_bytes v b)
  unfolding sum_to
  flow_fits f l =
      omega (
        arith,
        flow_start-read f (omega arith),
        sum_up (λ g. length (flow_bytes v (flow_in b g))) {m = suc f} {n = flow_count b} l,
        book-length v b,
        flows-length v b,
      )

  -- no test turns the bytes down
  pub written-passes : book_fault (book_bytes v b) ≡ Pass
  written-passes = book_no_fault (book_bytes v b) (record {
    head_whole = omega (arith, book-length v b);
    length_field = length-read;
    version_known = subst Known (sym version-read) can.version_known;
    processors_from = rw processors-read r.processors_least;
    processors_to = rw processors-read r.processors_most;
    flows_to = rw flow-count-read r.flows_most;
    each_passes = λ f l.
        let m : f < flow_count b = rw flow-count-read at l in
        flow_no_fault (book_bytes v b) f (flow_start (book_bytes v b) f)
        (flow-stands-passes v (flow_in b f) (book_bytes v b) (flow_start (book_bytes v b) f) (r.each_flow f m)
        (can.release_fits f m) version-read (flow-stands_at_start f m) (flow_fits f m));
    nothing_left = omega (arith, ap (flow_start (book_bytes v b)) flow-count-read, flow_start-read (flow_count b) (omega arith), book-length v b, flows-length v b);
  })

  -- the bytes hold the same values, but for the calendar, which is not in them
  pub written-values : book_of (book_bytes v b) ≡ with_calendar [] b
  unfolding book_of flow_in
  written-values = λ x. record { processors = processors-read x; flows = flows-read x; calendar = [] }
    where
      s : List ℕ
      s = book_bytes v b

      flow-read-at : (f : ℕ) → f < flow_count b → flow_at s (flow_start s f) ≡ flow_in b f
      flow-read-at f l =
          flow-read v (flow_in b f) s (flow_start s f) (r.each_flow f l) (can.release_fits f l) version-read
          (flow-stands_at_start f l)

      flows-read : list_from (λ f. flow_at s (flow_start s f)) (byte s 7) 0 ≡ b.flows
      flows-read = list_of (λ f. flow_at s (flow_start s f)) (byte s 7) b.flows no_flow flow-count-read flow-read-at

-- the encoding of any values is a list of bytes
job-all-bytes : (j : Job) → AllBytes (job_bytes j)
unfolding job_bytes
job-all-bytes j = bytes-append _ _ (bytes-append _ _ (bytes_of_lem 4 j.size) (bytes_of_lem 2 j.cap)) (bytes_of_lem 8 j.predecessors)

flow-all-bytes : (v : ℕ) (w : Flow) → AllBytes (flow_bytes v w)
unfolding flow_bytes
flow-all-bytes v w =
    bytes-append _ _
    (bytes-append _ _ (bytes-append _ _ (bytes_of_lem 2 w.deadline) (bytes_of_lem (release_size v) w.release)) (bytes_of_lem 1 (job_count w)))
    (bytes_join (λ i. job_bytes (job_of w i)) (job_count w) 0 (λ i. job-all-bytes (job_of w i)))

pub book-all-bytes : (v : ℕ) (b : Book) → AllBytes (book_bytes v b)
unfolding book_bytes flows_bytes
book-all-bytes v b =
    bytes-append _ _
    (bytes-append _ _ (bytes-append _ _ (bytes-append _ _ (bytes_of_lem 4 _) (bytes_of_lem 1 v)) (bytes_of_lem 2 b.processors)) (bytes_of_lem 1 (flow_count b)))
    (bytes_join (λ f. flow_bytes v (flow_in b f)) (flow_count b) 0 (λ f. flow-all-bytes v (flow_in b f)))

-- the encoding of values in range is a book that reads back, with the bytes of its calendar
pub read-written : (v : ℕ) (b : Book) (calendar : List ℕ) → InRange b → Writable v b → calendar_fault calendar ≡ Pass → calendar_of calendar ≡ b.calendar →
    read_book (book_bytes v b) calendar ≡ read b
read-written v b calendar r can passes same =
    pass-reads (book_bytes v b) calendar (written-passes v b r can) passes
    ∙ ap (λ (k : Book). read (with_calendar (calendar_of calendar) k)) (written-values v b r can)
    ∙ ap (λ (c : Calendar). read (with_calendar c b)) same

-- ---- a calendar
pub window-length : (v : Window) → length (window_bytes v) ≡ window_length
unfolding window_bytes
window-length v = simp (length-append, bytes-length)

pub calendar_length : (c : Calendar) → length (calendar_bytes c) ≡ calendar_head + window_length * length c
unfolding calendar_bytes
calendar_length c =
    simp (length-append, bytes-length)
    (omega (arith, join-bytes-length (λ k. window_bytes (window_of c k)) window_length (length c) (λ k l. window-length (window_of c k))))

module _ (c : Calendar) (r : CalendarInRange c) where
  abbrev encoded : List ℕ
  encoded = calendar_bytes c

  abbrev windows : List ℕ
  windows = join_from (λ k. window_bytes (window_of c k)) (length c) 0

  abbrev calendar_size : List ℕ
  calendar_size = bytes_of 4 (calendar_head + window_length * length c)

  abbrev window_count : List ℕ
  window_count = bytes_of 1 (length c)

  calendar-front : StandsAt encoded 0 (calendar_size ++ bytes_of 1 1 ++ window_count)
  unfolding calendar_bytes
  calendar-front = stands-first encoded 0 (calendar_size ++ bytes_of 1 1 ++ window_count) windows (stands-whole encoded)

  size-read : field 4 encoded 0 ≡ length encoded
  size-read =
      field-written 4 (calendar_head + window_length * length c) encoded 0 (omega (arith, r.windows_most))
      (stands-first encoded 0 calendar_size (bytes_of 1 1) (stands-first encoded 0 (calendar_size ++ bytes_of 1 1) window_count calendar-front))
      ∙ sym (calendar_length c)

  version-one : byte encoded 4 ≡ 1
  version-one =
      byte-written 1 encoded 4 (omega arith)
      (stands_after encoded 0 4 calendar_size (bytes_of 1 1) (bytes-length 4 _) (stands-first encoded 0 (calendar_size ++ bytes_of 1 1) window_count calendar-front))

  count-read : byte encoded 5 ≡ length c
  count-read =
      byte-written (length c) encoded 5 (omega (arith, r.windows_most))
      (stands_after encoded 0 5 (calendar_size ++ bytes_of 1 1) window_count (simp (length-append, bytes-length)) calendar-front)

  -- window k stands where the reading looks for it
  window-stands : (k : ℕ) → k < length c → StandsAt encoded (calendar_head + window_length * k) (window_bytes (window_of c k))
  unfolding calendar_bytes
  window-stands =
      stands_join-at encoded calendar_head (λ k. window_bytes (window_of c k)) window_length (length c) (λ k l. window-length (window_of c k))
      (stands_after encoded 0 calendar_head (calendar_size ++ bytes_of 1 1 ++ window_count) windows (simp (length-append, bytes-length)) (stands-whole encoded))

  window-read : (k : ℕ) → k < length c → window_at encoded k ≡ window_of c k
  unfolding window_at window_bytes
  window-read k l = λ x. record { shut = shut-read x; reopening = reopening-read x }
    where
      at : ℕ
      at = calendar_head + window_length * k

      shut-read : field 2 encoded at ≡ (window_of c k).shut
      shut-read =
          field-written 2 (window_of c k).shut encoded at (omega (arith, r.not_empty k l, r.reopens k l))
          (stands-first encoded at (bytes_of 2 (window_of c k).shut) (bytes_of 2 (window_of c k).reopening) (window-stands k l))

      reopening-read : field 2 encoded (at + 2) ≡ (window_of c k).reopening
      reopening-read =
          field-written 2 (window_of c k).reopening encoded (at + 2) (omega (arith, r.reopens k l))
          (stands_after encoded at 2 (bytes_of 2 (window_of c k).shut) (bytes_of 2 (window_of c k).reopening) (bytes-length 2 (window_of c k).shut) (window-stands k l))

  -- the bytes hold the same windows, and no test turns them down
  pub calendar-read : calendar_of encoded ≡ c
  unfolding calendar_of window_of
  calendar-read = list_of (window_at encoded) (byte encoded 5) c no_window count-read window-read

  windows_fine : (k : ℕ) → k < byte encoded 5 → window_fault encoded k ≡ false
  unfolding window_fault
  windows_fine k l =
      let m : k < length c = rw count-read at l in
      rw (window-read k m, lt-leb (window_of c k).reopening (window_of c k).shut (r.not_empty k m), later k m, le-ltb most_reopening (window_of c k).reopening (r.reopens k m)) refl
    where
      later : (k : ℕ) → k < length c → begins_early encoded k ≡ false
      later zero l = unfold begins_early in refl
      later (suc k) l =
          unfold begins_early in
          rw (window-read k (omega arith), window-read (suc k) l) (lt-leb (window_of c (suc k)).shut (window_of c k).reopening (r.apart k l))

  pub calendar-written-passes : calendar_fault encoded ≡ Pass
  unfolding calendar_fault
  calendar-written-passes =
      rw (
        le-ltb (length encoded) calendar_head (omega (arith, calendar_length c)),
        eq-eqb (field 4 encoded 0) (length encoded) size-read,
        eq-eqb (byte encoded 4) 1 version-one,
        le-ltb most_windows (byte encoded 5) (omega (arith, count-read, r.windows_most)),
        eq-eqb (length encoded) (calendar_head + window_length * byte encoded 5) (omega (arith, calendar_length c, count-read)),
        any_false (window_fault encoded) (byte encoded 5) windows_fine,
      ) refl
