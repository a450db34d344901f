-- What a book that passes its tests has: a head in range, flows whose heads and jobs pass, no bytes left over, and so values in range.
-- Each test of a chain of refusals is taken apart by `test-passed`, each walk by `fault-pass`. Assumes nothing.
use mathlib.Core.Path.{◌≡◌, refl, ap, ap₂}
use Prim.Native.Nat.{ℕ, zero, suc, ◌+◌, ◌*◌, ◌^◌, ◌≤◌, ◌<◌}
use mathlib.Core.Bool.{Bool, true, false, not, ◌||◌, true≢false}
use mathlib.Core.List.{List, []}
use mathlib.Core.Logic.{◌⊎◌, inl, inr, ⊎_elim}
use native.Mathlib.Omega.{arith}
use lib.ListN.{length}
use lib.Dec.{ltb, leb, eqb}
use borrow.Author.Tests.{ltb-false, leb-false, eqb-true, not-false, le-ltb, lt-leb, eq-eqb}
use Rattle.rules.specs.Verdicts.{Verdict, Pass, Refused}
use Rattle.std.specs.Prelude.{if◌then◌else◌}
use Rattle.rules.specs.Fields.{byte, field}
use Rattle.rules.specs.Answers.{none, ◌and_then◌, first_fault}
use Rattle.rules.specs.Limits.{outside, most_processors, most_flows, most_deadline, most_jobs, most_size, most_cap, most_windows, most_reopening}
use Rattle.rules.specs.Calendar.{Calendar, CalendarInRange, calendar_head, window_length, window_at, calendar_of, window_fault, begins_early, calendar_fault, no_window, window_of}
use Rattle.rules.specs.Book.{Book, with_calendar, flow_count, job_count, no_flow, no_job, flow_in, job_of, JobInRange, FlowInRange, InRange}
use Rattle.rules.specs.Reading.{book_head, version_of, flow_head, job_record, release_at, jobs_at, flow_start, job_start, job_at, flow_at, book_of, flow_head_fault, job_fault, flow_fault, leftover_fault, book_fault, book_with, reading_of, read_book}
use Rattle.rules.specs.Reading.Reading.{read}
use Rattle.rules.proofs.Laws.Walks.{or_cases, length-list_from, list-at-zero, any_none}
use Rattle.rules.proofs.Laws.Faults.{not-pass, both-pass, fault-pass, all_pass}

-- ---- the values of the book that bytes hold
pub flow-count : (s : List ℕ) → flow_count (book_of s) ≡ byte s 7
unfolding book_of
flow-count s = length-list_from (λ f. flow_at s (flow_start s f)) (byte s 7) 0

pub flow_in_book : (s : List ℕ) (f : ℕ) → f < byte s 7 → flow_in (book_of s) f ≡ flow_at s (flow_start s f)
unfolding book_of flow_in
flow_in_book s f h = list-at-zero (λ g. flow_at s (flow_start s g)) (byte s 7) f no_flow h

pub job-count : (s : List ℕ) (at : ℕ) → job_count (flow_at s at) ≡ jobs_at s at
unfolding flow_at
job-count s at = length-list_from (λ i. job_at s (job_start s at i)) (jobs_at s at) 0

pub job_of-flow : (s : List ℕ) (at i : ℕ) → i < jobs_at s at → job_of (flow_at s at) i ≡ job_at s (job_start s at i)
unfolding flow_at job_of
job_of-flow s at i h = list-at-zero (λ k. job_at s (job_start s at k)) (jobs_at s at) i no_job h

pub deadline_of-flow : (s : List ℕ) (at : ℕ) → (flow_at s at).deadline ≡ field 2 s at
unfolding flow_at
deadline_of-flow s at = refl

pub release_of-flow : (s : List ℕ) (at : ℕ) → (flow_at s at).release ≡ release_at s at
unfolding flow_at
release_of-flow s at = refl

pub processors_of_book : (s : List ℕ) → (book_of s).processors ≡ field 2 s 5
unfolding book_of
processors_of_book s = refl

pub calendar_of_book : (s : List ℕ) → (book_of s).calendar ≡ []
unfolding book_of
calendar_of_book s = refl

-- ---- tests that pass
-- a test that would refuse did not, and what comes after it passes
pub test-passed : (t : Bool) (n f j : ℕ) (v : Verdict) → (if t then Refused n f j else v) ≡ Pass → (t ≡ false) × (v ≡ Pass)
test-passed true n f j v e = not-pass n f j e
test-passed false n f j v e = (refl, e)

-- a test that has to hold
pub must_hold : (t : Bool) (n f j : ℕ) → (if t then Pass else Refused n f j) ≡ Pass → t ≡ true
must_hold true n f j e = refl
must_hold false n f j e = not-pass n f j e

pub neither_true : (a b : Bool) → (a || b) ≡ false → (a ≡ false) × (b ≡ false)
neither_true true b e = absurd (true≢false e)
neither_true false b e = (refl, e)

pub not-outside : (least most n : ℕ) → outside least most n ≡ false → (least ≤ n) × (n ≤ most)
not-outside least most n e =
    let both = neither_true (ltb n least) (ltb most n) e in
    (ltb-false n least both.0, ltb-false most n both.1)

-- the head of a flow, at `at`, that passes
pub record FlowHeadPasses (s : List ℕ) (at : ℕ) : Type 0 where
  pub flow_head_whole : at + flow_head (version_of s) ≤ length s
  pub deadline_from : 1 ≤ field 2 s at
  pub deadline_to : field 2 s at ≤ most_deadline
  pub release_to : release_at s at < field 2 s at
  pub jobs_from : 1 ≤ jobs_at s at
  pub jobs_to : jobs_at s at ≤ most_jobs

pub flow-head-passes : (s : List ℕ) (f at : ℕ) → flow_head_fault s f at ≡ Pass → FlowHeadPasses s at
unfolding flow_head_fault
flow-head-passes s f at e =
    let short = test-passed _ _ _ _ _ e in
    let deadline = test-passed _ _ _ _ _ short.1 in
    let release = test-passed _ _ _ _ _ deadline.1 in
    let count = test-passed _ _ _ _ _ release.1 in
    let d = not-outside 1 most_deadline (field 2 s at) deadline.0 in
    let c = not-outside 1 most_jobs (jobs_at s at) count.0 in
    record {
      flow_head_whole = ltb-false (length s) (at + flow_head (version_of s)) short.0;
      deadline_from = d.0;
      deadline_to = d.1;
      release_to = leb-false (field 2 s at) (release_at s at) release.0;
      jobs_from = c.0;
      jobs_to = c.1;
    }

-- the record of job i, at `at`, that passes
pub record JobPasses (s : List ℕ) (i at : ℕ) : Type 0 where
  pub job_whole : at + job_record ≤ length s
  pub job_in_range : JobInRange most_cap i (job_at s at)

pub job-passes : (s : List ℕ) (f i at : ℕ) → job_fault s f i at ≡ Pass → JobPasses s i at
unfolding job_fault job_at
job-passes s f i at e =
    let short = test-passed _ _ _ _ _ e in
    let size = test-passed _ _ _ _ _ short.1 in
    let cap = test-passed _ _ _ _ _ size.1 in
    let bits = test-passed _ _ _ _ _ cap.1 in
    let z = not-outside 1 most_size (field 4 s at) size.0 in
    let c = not-outside 1 most_cap (field 2 s (at + 4)) cap.0 in
    record {
      job_whole = ltb-false (length s) (at + job_record) short.0;
      job_in_range = record {
        size_least = z.0;
        size_most = z.1;
        cap_least = c.0;
        cap_most = c.1;
        predecessors_below = leb-false (2 ^ i) (field 8 s (at + 6)) bits.0;
      };
    }

-- in a flow that passes the head passes and every job
pub flow_fault-parts : (s : List ℕ) (f at : ℕ) → flow_fault s f at ≡ Pass →
    (flow_head_fault s f at ≡ Pass) × ((i : ℕ) → i < jobs_at s at → job_fault s f i (job_start s at i) ≡ Pass)
unfolding flow_fault
flow_fault-parts s f at e =
    let jobs : ℕ → Verdict = λ i. job_fault s f i (job_start s at i) in
    let both = both-pass (flow_head_fault s f at) (first_fault jobs (jobs_at s at)) e in
    (both.0, fault-pass jobs (jobs_at s at) both.1)

-- a flow, at `at`, that passes: its head, each of its jobs, and so all its bytes
pub record FlowPasses (s : List ℕ) (at : ℕ) : Type 0 where
  pub head : FlowHeadPasses s at
  pub each : (i : ℕ) → i < jobs_at s at → JobPasses s i (job_start s at i)
  pub flow_whole : at + flow_head (version_of s) + job_record * jobs_at s at ≤ length s

pub flow-passes : (s : List ℕ) (f at : ℕ) → flow_fault s f at ≡ Pass → FlowPasses s at
flow-passes s f at e = record { head = head; each = each; flow_whole = go (jobs_at s at) refl }
  where
    head : FlowHeadPasses s at
    head = flow-head-passes s f at (flow_fault-parts s f at e).0

    each : (i : ℕ) → i < jobs_at s at → JobPasses s i (job_start s at i)
    each i h = job-passes s f i (job_start s at i) ((flow_fault-parts s f at e).1 i h)

    go : (n : ℕ) → jobs_at s at ≡ n → at + flow_head (version_of s) + job_record * jobs_at s at ≤ length s
    go zero q = omega (arith, head.flow_head_whole)
    go (suc n) q = omega (arith, (each n (omega arith)).job_whole)

pub flow_in-range : (s : List ℕ) (at : ℕ) → FlowPasses s at → FlowInRange most_cap (flow_at s at)
flow_in-range s at p =
    record {
      deadline_least = rw (deadline_of-flow s at) p.head.deadline_from;
      deadline_most = rw (deadline_of-flow s at) p.head.deadline_to;
      release_below = rw (release_of-flow s at, deadline_of-flow s at) p.head.release_to;
      jobs_least = rw (job-count s at) p.head.jobs_from;
      jobs_most = rw (job-count s at) p.head.jobs_to;
      each_job = λ i h.
          let l : i < jobs_at s at = rw (job-count s at) at h in
          rw (job_of-flow s at i l) (p.each i l).job_in_range;
    }

-- a version that is read: 1 or 2
abbrev pub Known : ℕ → Type 0
Known version = (version ≡ 1) ⊎ (version ≡ 2)

known : (version : ℕ) → (eqb version 1 || eqb version 2) ≡ true → Known version
known version e = ⊎_elim (λ q. inl (eqb-true version 1 q)) (λ q. inr (eqb-true version 2 q)) (or_cases (eqb version 1) (eqb version 2) e)

known-passes : (version : ℕ) → Known version → (eqb version 1 || eqb version 2) ≡ true
known-passes version (inl e) = rw e refl
known-passes version (inr e) = rw e refl

-- a book that passes: its head, each of its flows, and no bytes left over
pub record BookPasses (s : List ℕ) : Type 0 where
  pub head_whole : book_head ≤ length s
  pub length_field : field 4 s 0 ≡ length s
  pub version_known : Known (version_of s)
  pub processors_from : 1 ≤ field 2 s 5
  pub processors_to : field 2 s 5 ≤ most_processors
  pub flows_to : byte s 7 ≤ most_flows
  pub each_passes : (f : ℕ) → f < byte s 7 → flow_fault s f (flow_start s f) ≡ Pass
  pub nothing_left : flow_start s (byte s 7) ≡ length s

pub nothing-left-over : (s : List ℕ) → leftover_fault s ≡ Pass → flow_start s (byte s 7) ≡ length s
unfolding leftover_fault
nothing-left-over s e = eqb-true (flow_start s (byte s 7)) (length s) (must_hold _ 5 none none e)

pub book_passes : (s : List ℕ) → book_fault s ≡ Pass → BookPasses s
unfolding book_fault
book_passes s e =
    let length-test = test-passed _ _ _ _ _ e in
    let version-test = test-passed _ _ _ _ _ length-test.1 in
    let processors-test = test-passed _ _ _ _ _ version-test.1 in
    let flows-test = test-passed _ _ _ _ _ processors-test.1 in
    let walk = both-pass (first_fault (λ f. flow_fault s f (flow_start s f)) (byte s 7)) (leftover_fault s) flows-test.1 in
    let both = neither_true (ltb (length s) book_head) (not (eqb (field 4 s 0) (length s))) length-test.0 in
    let p = not-outside 1 most_processors (field 2 s 5) processors-test.0 in
    record {
      head_whole = ltb-false (length s) book_head both.0;
      length_field = eqb-true (field 4 s 0) (length s) (not-false _ both.1);
      version_known = known (version_of s) (not-false _ version-test.0);
      processors_from = p.0;
      processors_to = p.1;
      flows_to = ltb-false most_flows (byte s 7) flows-test.0;
      each_passes = fault-pass (λ f. flow_fault s f (flow_start s f)) (byte s 7) walk.0;
      nothing_left = nothing-left-over s walk.1;
    }

-- each flow of a book that passes
pub flow_of_passing : (s : List ℕ) → book_fault s ≡ Pass → (f : ℕ) → f < byte s 7 → FlowPasses s (flow_start s f)
flow_of_passing s e f h = flow-passes s f (flow_start s f) ((book_passes s e).each_passes f h)

-- ---- a calendar that passes
pub record CalendarPasses (s : List ℕ) : Type 0 where
  pub calendar_whole : calendar_head ≤ length s
  pub calendar_length : field 4 s 0 ≡ length s
  pub calendar_version : byte s 4 ≡ 1
  pub windows_to : byte s 5 ≤ most_windows
  pub calendar_bytes_is : length s ≡ calendar_head + window_length * byte s 5
  pub no_window_fault : (k : ℕ) → k < byte s 5 → window_fault s k ≡ false

pub calendar_passes : (s : List ℕ) → calendar_fault s ≡ Pass → CalendarPasses s
unfolding calendar_fault
calendar_passes s e =
    let test = test-passed _ 24 none none Pass e in
    let windows = neither_true _ _ test.0 in
    let bytes = neither_true _ _ windows.0 in
    let count = neither_true _ _ bytes.0 in
    let version = neither_true _ _ count.0 in
    let head = neither_true _ _ version.0 in
    record {
      calendar_whole = ltb-false (length s) calendar_head head.0;
      calendar_length = eqb-true (field 4 s 0) (length s) (not-false _ head.1);
      calendar_version = eqb-true (byte s 4) 1 (not-false _ version.1);
      windows_to = ltb-false most_windows (byte s 5) count.1;
      calendar_bytes_is = eqb-true (length s) (calendar_head + window_length * byte s 5) (not-false _ bytes.1);
      no_window_fault = any_none (window_fault s) (byte s 5) windows.1;
    }

pub window-count : (s : List ℕ) → length (calendar_of s) ≡ byte s 5
unfolding calendar_of
window-count s = length-list_from (window_at s) (byte s 5) 0

pub window_in-calendar : (s : List ℕ) (k : ℕ) → k < byte s 5 → window_of (calendar_of s) k ≡ window_at s k
unfolding calendar_of window_of
window_in-calendar s k h = list-at-zero (window_at s) (byte s 5) k no_window h

pub none_in-range : CalendarInRange []
none_in-range = record { windows_most = omega arith; not_empty = λ k l. absurd (omega arith); apart = λ k l. absurd (omega arith); reopens = λ k l. absurd (omega arith) }

pub calendar-pass_in-range : (s : List ℕ) → calendar_fault s ≡ Pass → CalendarInRange (calendar_of s)
calendar-pass_in-range s e = record {
  windows_most = rw (window-count s) p.windows_to;
  not_empty = λ k l. rw (window_in-calendar s k (in_bytes k l)) (leb-false (window_at s k).reopening (window_at s k).shut (parts k l).0.0);
  apart = λ k l. rw (window_in-calendar s k (in_bytes k (omega arith)), window_in-calendar s (suc k) (in_bytes (suc k) l))
      (leb-false (window_at s (suc k)).shut (window_at s k).reopening (unfold begins_early in (parts (suc k) l).0.1));
  reopens = λ k l. rw (window_in-calendar s k (in_bytes k l)) (ltb-false most_reopening (window_at s k).reopening (parts k l).1);
}
  where
    p : CalendarPasses s
    p = calendar_passes s e

    in_bytes : (k : ℕ) → k < length (calendar_of s) → k < byte s 5
    in_bytes k l = omega (arith, window-count s)

    parts : (k : ℕ) → k < length (calendar_of s) →
        ((leb (window_at s k).reopening (window_at s k).shut ≡ false) × (begins_early s k ≡ false)) × (ltb most_reopening (window_at s k).reopening ≡ false)
    parts k l =
        let rules : ((leb (window_at s k).reopening (window_at s k).shut || begins_early s k) || ltb most_reopening (window_at s k).reopening) ≡ false =
        unfold window_fault in p.no_window_fault k (in_bytes k l) in
        let last = neither_true (leb (window_at s k).reopening (window_at s k).shut || begins_early s k) (ltb most_reopening (window_at s k).reopening) rules in
        (neither_true (leb (window_at s k).reopening (window_at s k).shut) (begins_early s k) last.0, last.1)

-- "A book passes its checks when no test that comes before 11 turns it down": its values are in range
pub pass_in-range : (s : List ℕ) → book_fault s ≡ Pass → InRange (book_of s)
pass_in-range s e =
    let p = book_passes s e in
    record {
      processors_least = rw (processors_of_book s) p.processors_from;
      processors_most = rw (processors_of_book s) p.processors_to;
      flows_most = rw (flow-count s) p.flows_to;
      each_flow = λ f h.
          let l : f < byte s 7 = rw (flow-count s) at h in
          rw (flow_in_book s f l) (flow_in-range s (flow_start s f) (flow_of_passing s e f l));
      calendar_in_range = rw (calendar_of_book s) none_in-range;
    }

-- another calendar in range changes no other range
pub with_in-range : (c : Calendar) (b : Book) → CalendarInRange c → InRange b → InRange (with_calendar c b)
with_in-range c b h r = record {
  processors_least = r.processors_least;
  processors_most = r.processors_most;
  flows_most = r.flows_most;
  each_flow = λ f l. unfold flow_in in r.each_flow f l;
  calendar_in_range = h;
}

-- ---- a book that is read, with its calendar
pub record ReadWith (s calendar : List ℕ) (b : Book) : Type 0 where
  pub book_passes : book_fault s ≡ Pass
  pub calendar_passes : calendar_fault calendar ≡ Pass
  pub is_book : b ≡ book_with s calendar

pub read-passes : (s calendar : List ℕ) (b : Book) → read_book s calendar ≡ read b → ReadWith s calendar b
unfolding read_book
read-passes s calendar b e = go (book_fault s and_then calendar_fault calendar) refl e
  where
    go : (v : Verdict) → (book_fault s and_then calendar_fault calendar) ≡ v → reading_of v (book_with s calendar) ≡ read b → ReadWith s calendar b
    go Pass q r =
        let both = both-pass (book_fault s) (calendar_fault calendar) q in
        record { book_passes = both.0; calendar_passes = both.1; is_book = cc }
    go (Refused n f j) q r = absurd (let z : ◌≡◌ {A = ℕ} 0 1 = cc in omega arith)

pub read_in-range : (s calendar : List ℕ) (b : Book) → read_book s calendar ≡ read b → InRange b
read_in-range s calendar b e =
    let p = read-passes s calendar b e in
    rw p.is_book (with_in-range (calendar_of calendar) (book_of s) (calendar-pass_in-range calendar p.calendar_passes) (pass_in-range s p.book_passes))

pub pass-reads : (s calendar : List ℕ) → book_fault s ≡ Pass → calendar_fault calendar ≡ Pass → read_book s calendar ≡ read (book_with s calendar)
unfolding read_book
pass-reads s calendar e d = rw (e, d) refl

-- ---- the other way round: bytes that have all this pass
pub test-passes : (t : Bool) (n f j : ℕ) (v : Verdict) → t ≡ false → v ≡ Pass → (if t then Refused n f j else v) ≡ Pass
test-passes t n f j v e d = rw (e, d) refl

pub inside-passes : (least most n : ℕ) → least ≤ n → n ≤ most → outside least most n ≡ false
inside-passes least most n p q = ap₂ ◌||◌ (le-ltb n least p) (le-ltb most n q)

pub flow-head_no_fault : (s : List ℕ) (f at : ℕ) → FlowHeadPasses s at → flow_head_fault s f at ≡ Pass
unfolding flow_head_fault
flow-head_no_fault s f at p =
    test-passes _ _ _ _ _ (le-ltb (length s) (at + flow_head (version_of s)) p.flow_head_whole)
    (test-passes _ _ _ _ _ (inside-passes 1 most_deadline (field 2 s at) p.deadline_from p.deadline_to)
    (test-passes _ _ _ _ _ (lt-leb (field 2 s at) (release_at s at) p.release_to)
    (test-passes _ _ _ _ _ (inside-passes 1 most_jobs (jobs_at s at) p.jobs_from p.jobs_to) refl)))

pub job_no_fault : (s : List ℕ) (f i at : ℕ) → JobPasses s i at → job_fault s f i at ≡ Pass
unfolding job_fault job_at
job_no_fault s f i at p =
    let r = p.job_in_range in
    test-passes _ _ _ _ _ (le-ltb (length s) (at + job_record) p.job_whole)
    (test-passes _ _ _ _ _ (inside-passes 1 most_size (field 4 s at) r.size_least r.size_most)
    (test-passes _ _ _ _ _ (inside-passes 1 most_cap (field 2 s (at + 4)) r.cap_least r.cap_most)
    (test-passes _ _ _ _ _ (lt-leb (2 ^ i) (field 8 s (at + 6)) r.predecessors_below) refl)))

pub flow_no_fault : (s : List ℕ) (f at : ℕ) → FlowPasses s at → flow_fault s f at ≡ Pass
unfolding flow_fault
flow_no_fault s f at p =
    let jobs : ℕ → Verdict = λ i. job_fault s f i (job_start s at i) in
    rw (flow-head_no_fault s f at p.head) (all_pass jobs (jobs_at s at) (λ i l. job_no_fault s f i (job_start s at i) (p.each i l)))

pub book_no_fault : (s : List ℕ) → BookPasses s → book_fault s ≡ Pass
unfolding book_fault leftover_fault
book_no_fault s p =
    test-passes _ _ _ _ _ (ap₂ ◌||◌ (le-ltb (length s) book_head p.head_whole) (ap not (eq-eqb (field 4 s 0) (length s) p.length_field)))
    (test-passes _ _ _ _ _ (ap not (known-passes (version_of s) p.version_known))
    (test-passes _ _ _ _ _ (inside-passes 1 most_processors (field 2 s 5) p.processors_from p.processors_to)
    (test-passes _ _ _ _ _ (le-ltb most_flows (byte s 7) p.flows_to)
    (rw (all_pass (λ f. flow_fault s f (flow_start s f)) (byte s 7) p.each_passes, eq-eqb (flow_start s (byte s 7)) (length s) p.nothing_left) refl))))
