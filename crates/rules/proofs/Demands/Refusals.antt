-- Demand 1: the numbers of refusals, and what a refused call returns and leaves.
-- The tests of a book give 1 to 10 and 22, that of a calendar 24, those of a table 14 to 21 and 25; 11 to 13 stand in the calls themselves. The rest goes
-- by cases: the reading, the length of the work area, the plan or the verdict on the table. Assumes nothing.
use mathlib.Core.Path.{◌≡◌, refl, sym, ap, ap₂, ◌∙◌}
use mathlib.Core.Logic.{◌⊎◌, inl, inr, ⊎_elim}
use Prim.Native.Nat.{ℕ, zero, suc, ◌+◌, ◌*◌, ◌-◌, ◌%◌, ◌^◌, ◌≤◌, ◌<◌}
use mathlib.Core.Bool.{Bool, true, false, not, ◌&&◌, ◌||◌, and-eq-true_iff, true≢false}
use mathlib.Core.List.{List}
use native.Mathlib.Omega.{arith}
use lib.ListN.{length, take, get_or}
use lib.Dec.{ltb, leb, eqb}
use borrow.Author.Tests.{leb-true, eqb-true, lt-leb, ne_eqb, le-ltb, lt-ltb}
use Rattle.rules.specs.Verdicts.{Verdict, Pass, Refused}
use Rattle.std.specs.Prelude.{if◌then◌else◌}
use Rattle.rules.specs.Walks.{any_to}
use Rattle.rules.specs.Fields.{byte, field}
use Rattle.rules.specs.Answers.{none, ◌and_then◌, first_fault, plan_refused, check_refused, number_of}
use Rattle.rules.specs.Limits.{outside, most_processors, most_flows, most_deadline, most_jobs, most_size, most_cap, most_windows, slots, work_bytes}
use Rattle.rules.specs.Calendar.{is_open, calendar_head, window_length, window_fault, calendar_fault}
use Rattle.rules.specs.Book.{Book, flow_count, job_count, flow_of, job_of}
use Rattle.rules.specs.Reading.{book_head, version_of, flow_head, job_record, release_at, jobs_at, flow_start, job_start, flow_head_fault, job_fault, flow_fault, leftover_fault, book_fault, book_with, Reading, read, unread, reading_of, read_book, book_verdict}
use Rattle.rules.specs.Rows.{Row, used_in, total_of, finish_of, work_zero}
use Rattle.rules.specs.Table.{table_head, row_length, finish_in}
use Rattle.rules.specs.Planner.{PlanOutcome, plan_reading, plan_call}
use Rattle.rules.specs.Check.{table_rows, table_head_fault, no_row, rises, lacks_predecessor, before_release, row_fault, total_fault, finish_fault, table_fault, CheckOutcome, check_outcome, check_reading, check_call}
use Rattle.rules.specs.Demands.Refusals.{by_eleven, AreaAfterRefusal, PlannerRefusal, CheckRefusal, Demand1, PlanSays, CheckSays}
use Rattle.rules.proofs.Laws.Walks.{or_cases}
use Rattle.rules.proofs.Laws.Faults.{not-pass}
use Rattle.rules.proofs.Calls.CallCases.{check_cases, PlanCase, short_11, stopped_12, long_13, written_0, reading_case}

-- where a verdict refuses, the number is one of these, from 1 on
pub record Numbered (these : ℕ → Bool) (v : Verdict) : Type 0 where
  pub among : (n f j : ℕ) → v ≡ Refused n f j → (1 ≤ n) × (these n ≡ true)

module _ (these : ℕ → Bool) where
  numbered-pass : Numbered these Pass
  numbered-pass = record { among = λ n f j e. not-pass n f j (sym e) }

  numbered-refused : (n f j : ℕ) → (1 ≤ n) × (these n ≡ true) → Numbered these (Refused n f j)
  numbered-refused n f j h = record { among = λ m g i e. let q : n ≡ m = cc in rw q at h }

  numbered_test : (t : Bool) (n f j : ℕ) (v : Verdict) → (1 ≤ n) × (these n ≡ true) → Numbered these v →
      Numbered these (if t then Refused n f j else v)
  numbered_test true n f j v h k = numbered-refused n f j h
  numbered_test false n f j v h k = k

  -- a test that has to hold
  numbered_hold : (t : Bool) (n f j : ℕ) → (1 ≤ n) × (these n ≡ true) → Numbered these (if t then Pass else Refused n f j)
  numbered_hold true n f j h = numbered-pass
  numbered_hold false n f j h = numbered-refused n f j h

  numbered_then : (v w : Verdict) → Numbered these v → Numbered these w → Numbered these (v and_then w)
  numbered_then Pass w h k = k
  numbered_then (Refused n f j) w h k = h

  numbered-first : (g : ℕ → Verdict) (n : ℕ) → ((k : ℕ) → Numbered these (g k)) → Numbered these (first_fault g n)
  unfolding first_fault
  numbered-first g zero h = numbered-pass
  numbered-first g (suc n) h = numbered_then (first_fault g n) (g n) (numbered-first g n h) (h n)

-- ---- "1 to 4 .. Then come the flows: 5, 6, 7 for the head, and 5, 8, 9, 10 for each job"; 22 "directly after 6" (02, Req 01)
flow-head_numbered : (s : List ℕ) (f at : ℕ) → Numbered by_eleven (flow_head_fault s f at)
unfolding flow_head_fault
flow-head_numbered s f at =
    numbered_test by_eleven (ltb (length s) (at + flow_head (version_of s))) 5 f none _ (omega arith, refl)
    (numbered_test by_eleven (outside 1 most_deadline (field 2 s at)) 6 f none _ (omega arith, refl)
    (numbered_test by_eleven (leb (field 2 s at) (release_at s at)) 22 f none _ (omega arith, refl)
    (numbered_test by_eleven (outside 1 most_jobs (jobs_at s at)) 7 f none Pass (omega arith, refl) (numbered-pass by_eleven))))

job_numbered : (s : List ℕ) (f i at : ℕ) → Numbered by_eleven (job_fault s f i at)
unfolding job_fault
job_numbered s f i at =
    numbered_test by_eleven (ltb (length s) (at + job_record)) 5 f i _ (omega arith, refl)
    (numbered_test by_eleven (outside 1 most_size (field 4 s at)) 8 f i _ (omega arith, refl)
    (numbered_test by_eleven (outside 1 most_cap (field 2 s (at + 4))) 9 f i _ (omega arith, refl)
    (numbered_test by_eleven (leb (2 ^ i) (field 8 s (at + 6))) 10 f i Pass (omega arith, refl) (numbered-pass by_eleven))))

flow_numbered : (s : List ℕ) (f at : ℕ) → Numbered by_eleven (flow_fault s f at)
unfolding flow_fault
flow_numbered s f at =
    numbered_then by_eleven (flow_head_fault s f at) (first_fault (λ i. job_fault s f i (job_start s at i)) (jobs_at s at)) (flow-head_numbered s f at)
    (numbered-first by_eleven (λ i. job_fault s f i (job_start s at i)) (jobs_at s at) (λ i. job_numbered s f i (job_start s at i)))

leftover_numbered : (s : List ℕ) → Numbered by_eleven (leftover_fault s)
unfolding leftover_fault
leftover_numbered s = numbered_hold by_eleven (eqb (flow_start s (byte s 7)) (length s)) 5 none none (omega arith, refl)

pub book_numbered : (s : List ℕ) → Numbered by_eleven (book_fault s)
unfolding book_fault
book_numbered s =
    numbered_test by_eleven (ltb (length s) book_head || not (eqb (field 4 s 0) (length s))) 1 none none _ (omega arith, refl)
    (numbered_test by_eleven (not (eqb (version_of s) 1 || eqb (version_of s) 2)) 2 none none _ (omega arith, refl)
    (numbered_test by_eleven (outside 1 most_processors (field 2 s 5)) 3 none none _ (omega arith, refl)
    (numbered_test by_eleven (ltb most_flows (byte s 7)) 4 none none _ (omega arith, refl)
    (numbered_then by_eleven (first_fault (λ f. flow_fault s f (flow_start s f)) (byte s 7)) (leftover_fault s)
    (numbered-first by_eleven (λ f. flow_fault s f (flow_start s f)) (byte s 7) (λ f. flow_numbered s f (flow_start s f))) (leftover_numbered s)))))

-- "24 when the calendar breaks its layout" (02, Req 07)
pub calendar-either : (s : List ℕ) → (calendar_fault s ≡ Pass) ⊎ (calendar_fault s ≡ Refused 24 none none)
unfolding calendar_fault
calendar-either s =
    go (ltb (length s) calendar_head || not (eqb (field 4 s 0) (length s)) || not (eqb (byte s 4) 1) || ltb most_windows (byte s 5)
    || not (eqb (length s) (calendar_head + window_length * byte s 5)) || any_to (window_fault s) (byte s 5))
  where
    go : (t : Bool) → ((if t then Refused 24 none none else Pass) ≡ Pass) ⊎ ((if t then Refused 24 none none else Pass) ≡ Refused 24 none none)
    go true = inr refl
    go false = inl refl

pub calendar_numbered : (s : List ℕ) → Numbered by_eleven (calendar_fault s)
calendar_numbered s =
    ⊎_elim (λ e. rw e (numbered-pass by_eleven)) (λ e. rw e (numbered-refused by_eleven 24 none none (omega arith, refl))) (calendar-either s)

read_numbered : (s calendar : List ℕ) → Numbered by_eleven (book_fault s and_then calendar_fault calendar)
read_numbered s calendar = numbered_then by_eleven (book_fault s) (calendar_fault calendar) (book_numbered s) (calendar_numbered calendar)

-- a book that is not read, or whose calendar is not, is refused by one of these numbers
pub unread_numbered : (s calendar : List ℕ) (n f j : ℕ) → read_book s calendar ≡ unread n f j → (1 ≤ n) × (by_eleven n ≡ true)
unfolding read_book
unread_numbered s calendar n f j = go (book_fault s and_then calendar_fault calendar) refl
  where
    go : (v : Verdict) → (book_fault s and_then calendar_fault calendar) ≡ v → reading_of v (book_with s calendar) ≡ unread n f j → (1 ≤ n) × (by_eleven n ≡ true)
    go Pass q e = absurd (let z : ◌≡◌ {A = ℕ} 0 1 = cc in omega arith)
    go (Refused m g i) q e = let d : m ≡ n = cc in rw d at ((read_numbered s calendar).among m g i q)

-- number 0 is answered of a book that is read, by every call that hands on those numbers
pub zero-reads : (s calendar : List ℕ) (number : Reading → ℕ) → ((n f j : ℕ) → number (unread n f j) ≡ n) → number (read_book s calendar) ≡ 0 →
    read_book s calendar ≡ read (book_with s calendar)
unfolding read_book
zero-reads s calendar number refused = go (book_fault s and_then calendar_fault calendar) (read_numbered s calendar)
  where
    go : (v : Verdict) → Numbered by_eleven v → number (reading_of v (book_with s calendar)) ≡ 0 → reading_of v (book_with s calendar) ≡ read (book_with s calendar)
    go Pass h z = refl
    go (Refused n f j) h z = absurd (omega (arith, (h.among n f j refl).0, refused n f j))

-- ---- "14, then 15 to 19 in order for each row, then 20, 21": these numbers, and with them 25 where slots are shut
abbrev pub without_shut : ℕ → Bool
without_shut n = leb 14 n && leb n 21

abbrev pub of_table : ℕ → Bool
of_table n = without_shut n || eqb n 25

-- numbers among which those are, and 25 where a slot is not open
module _ (these : ℕ → Bool) (b : Book) (s : List ℕ) (those : (n : ℕ) → without_shut n ≡ true → these n ≡ true)
    (shut : (t : ℕ) → is_open b.calendar t ≡ false → these 25 ≡ true) where
  abbrev rows : List Row
  rows = table_rows b s

  abbrev opened : ℕ → Bool
  opened = is_open b.calendar

  head_numbered : Numbered these (table_head_fault b s)
  unfolding table_head_fault
  head_numbered =
      numbered_test these
      (ltb (length s) (table_head b) || not (eqb (field 4 s 0) (length s)) || not (eqb (byte s 4) 1)
      || not (eqb (field 2 s 5) b.processors) || not (eqb (byte s 7) (flow_count b)) || not (eqb ((length s - table_head b) % row_length) 0))
      14 none none Pass (omega arith, those 14 refl) (numbered-pass these)

  open_numbered : (t f j : ℕ) (v : Verdict) → Numbered these v → Numbered these (if not (opened t) then Refused 25 f j else v)
  open_numbered t f j v h = go (opened t) refl
    where
      go : (o : Bool) → opened t ≡ o → Numbered these (if not o then Refused 25 f j else v)
      go true e = h
      go false e = numbered-refused these 25 f j (omega arith, shut t e)

  row_numbered : (k : ℕ) → Numbered these (row_fault b opened rows k)
  unfolding row_fault
  row_numbered k =
      let r = get_or rows k no_row in
      numbered_test these
      (leb slots r.slot || leb (flow_count b) r.flow || leb (job_count (flow_of b r.flow)) r.job || eqb r.processors 0)
      15 r.flow r.job _ (omega arith, those 15 refl)
      (open_numbered r.slot r.flow r.job _
      (numbered_test these (not (rises b rows k)) 16 r.flow r.job _ (omega arith, those 16 refl)
      (numbered_test these (ltb (job_of (flow_of b r.flow) r.job).cap r.processors) 17 r.flow r.job _ (omega arith, those 17 refl)
      (numbered_test these (ltb b.processors (used_in (take k rows) r.slot + r.processors)) 18 r.flow r.job _ (omega arith, those 18 refl)
      (numbered_test these (before_release b r || lacks_predecessor b (take k rows) r) 19 r.flow r.job Pass (omega arith, those 19 refl)
      (numbered-pass these))))))

  total_numbered : (f i : ℕ) → Numbered these (total_fault b rows f i)
  unfolding total_fault
  total_numbered f i = numbered_hold these (eqb (total_of rows f i) (job_of (flow_of b f) i).size) 20 f i (omega arith, those 20 refl)

  finish_numbered : (f : ℕ) → Numbered these (finish_fault s rows f)
  unfolding finish_fault
  finish_numbered f = numbered_hold these (eqb (finish_in s f) (finish_of rows f)) 21 f none (omega arith, those 21 refl)

  pub table_numbered_by : Numbered these (table_fault b s)
  unfolding table_fault
  table_numbered_by =
      let walk = first_fault (row_fault b opened rows) (length rows) in
      let totals = first_fault (λ f. first_fault (total_fault b rows f) (job_count (flow_of b f))) (flow_count b) in
      let finishes = first_fault (finish_fault s rows) (flow_count b) in
      numbered_then these (table_head_fault b s) (walk and_then totals and_then finishes) head_numbered
      (numbered_then these walk (totals and_then finishes) (numbered-first these (row_fault b opened rows) (length rows) row_numbered)
      (numbered_then these totals finishes
      (numbered-first these (λ f. first_fault (total_fault b rows f) (job_count (flow_of b f))) (flow_count b)
      (λ f. numbered-first these (total_fault b rows f) (job_count (flow_of b f)) (total_numbered f)))
      (numbered-first these (finish_fault s rows) (flow_count b) finish_numbered)))

pub table_numbered : (b : Book) (s : List ℕ) → Numbered of_table (table_fault b s)
table_numbered b s = table_numbered_by of_table b s (λ n e. ap (◌|| eqb n 25) e) (λ t e. refl)

-- ---- the planner
-- what demand 1 says of an outcome of the planner
record PlannerAnswers (out area : List ℕ) (o : PlanOutcome) : Type 0 where
  number_is : (o.answer.number ≤ 13) ⊎ ((o.answer.number ≡ 22) ⊎ (o.answer.number ≡ 24))
  refusal : 0 < o.answer.number → PlannerRefusal out area o

-- the numbers before or by 11, and those after it
pub early-number : {X : Type 0} (n : ℕ) → by_eleven n ≡ true → (n ≤ 11 → X) → (n ≡ 22 → X) → (n ≡ 24 → X) → X
early-number n e low release last =
    ⊎_elim (λ p. ⊎_elim (λ q. low (leb-true n 11 q)) (λ q. release (eqb-true n 22 q)) (or_cases (leb n 11) (eqb n 22) p)) (λ p. last (eqb-true n 24 p))
    (or_cases (leb n 11 || eqb n 22) (eqb n 24) e)

late-number : (n : ℕ) → 12 ≤ n → (n ≡ 22 → ⊥) → (n ≡ 24 → ⊥) → by_eleven n ≡ false
late-number n l m k = ap₂ ◌||◌ (ap₂ ◌||◌ (lt-leb n 11 (omega arith)) (ne_eqb n 22 m)) (ne_eqb n 24 k)

-- what they leave of the area
area-kept : (n : ℕ) (area : List ℕ) → by_eleven n ≡ true → AreaAfterRefusal n area area
area-kept n area h = record { kept = λ k. refl; zeroed = λ k. absurd (true≢false (sym h ∙ k)) }

area-zeroed : (n : ℕ) (area : List ℕ) → by_eleven n ≡ false → AreaAfterRefusal n area (work_zero slots area)
area-zeroed n area h = record { kept = λ k. absurd (true≢false (sym k ∙ h)); zeroed = λ k. refl }

module _ (out area : List ℕ) where
  planner-refused : (n f j : ℕ) (left : List ℕ) → (n ≤ 13) ⊎ ((n ≡ 22) ⊎ (n ≡ 24)) → AreaAfterRefusal n area left →
      PlannerAnswers out area (record { answer = plan_refused n f j; output = out; area = left })
  planner-refused n f j left is a = record {
    number_is = is;
    refusal = λ l. record { late_zero = refl; length_zero = refl; output_kept = refl; area_left = a };
  }

  planner-kept : (n f j : ℕ) → by_eleven n ≡ true → PlannerAnswers out area (record { answer = plan_refused n f j; output = out; area = area })
  planner-kept n f j h =
      planner-refused n f j area (early-number n h (λ l. inl (omega arith)) (λ e. inr (inl e)) (λ e. inr (inr e))) (area-kept n area h)

  case-answers : {b : Book} {o : PlanOutcome} → PlanCase b out area o → PlannerAnswers out area o
  case-answers (short_11 h) = planner-kept 11 none none refl
  case-answers (stopped_12 h f e) = planner-refused 12 f none (work_zero slots area) (inl (omega arith)) (area-zeroed 12 area refl)
  case-answers (long_13 h rows e l) = planner-refused 13 none none (work_zero slots area) (inl (omega arith)) (area-zeroed 13 area refl)
  case-answers (written_0 h rows e l) = record { number_is = inl (omega arith); refusal = λ p. absurd (omega arith) }

  plan_reading-answers : (v : Verdict) (b : Book) → Numbered by_eleven v → PlannerAnswers out area (plan_reading out area (reading_of v b))
  plan_reading-answers Pass b h = case-answers (reading_case b out area)
  plan_reading-answers (Refused n f j) b h = unfold plan_reading in planner-kept n f j (h.among n f j refl).1

planner-answers : (book calendar out area : List ℕ) → PlannerAnswers out area (plan_call book calendar out area)
unfolding plan_call read_book
planner-answers book calendar out area =
    plan_reading-answers out area (book_fault book and_then calendar_fault calendar) (book_with book calendar) (read_numbered book calendar)

-- ---- the table check
record CheckAnswers (area : List ℕ) (o : CheckOutcome) : Type 0 where
  number_is : (o.answer.number ≤ 11) ⊎
      (((14 ≤ o.answer.number) × (o.answer.number ≤ 22)) ⊎ ((24 ≤ o.answer.number) × (o.answer.number ≤ 25)))
  refusal : 0 < o.answer.number → CheckRefusal area o

check-kept : (area : List ℕ) (n f j : ℕ) → by_eleven n ≡ true → CheckAnswers area (record { answer = check_refused n f j; area = area })
check-kept area n f j h = record {
  number_is = early-number n h inl (λ e. inr (inl (omega arith, omega arith))) (λ e. inr (inr (omega arith, omega arith)));
  refusal = λ l. record { late_zero = refl; area_left = area-kept n area h };
}

check-zeroed : (area : List ℕ) (n f j : ℕ) → by_eleven n ≡ false → (((14 ≤ n) × (n ≤ 22)) ⊎ ((24 ≤ n) × (n ≤ 25))) →
    CheckAnswers area (record { answer = check_refused n f j; area = work_zero slots area })
check-zeroed area n f j l is = record {
  number_is = inr is;
  refusal = λ z. record { late_zero = refl; area_left = area-zeroed n area l };
}

check-outcome-answers : (b : Book) (s area : List ℕ) (v : Verdict) → Numbered of_table v → CheckAnswers area (check_outcome b s area v)
unfolding check_outcome
check-outcome-answers b s area Pass h = record { number_is = inl (omega arith); refusal = λ l. absurd (omega arith) }
check-outcome-answers b s area (Refused n f j) h =
    ⊎_elim
    (λ e.
    let both = (and-eq-true_iff (leb 14 n) (leb n 21)).0 e in
    let least = leb-true 14 n both.0 in
    let most = leb-true n 21 both.1 in
    check-zeroed area n f j (late-number n (omega (arith, least)) (λ q. omega (arith, most)) (λ q. omega (arith, most))) (inl (least, omega (arith, most))))
    (λ e. rw (eqb-true n 25 e) (check-zeroed area 25 f j refl (inr (omega arith, omega arith)))) (or_cases (without_shut n) (eqb n 25) (h.among n f j refl).1)

check_reading-answers : (s area : List ℕ) (v : Verdict) (b : Book) → Numbered by_eleven v → CheckAnswers area (check_reading s area (reading_of v b))
unfolding check_reading
check_reading-answers s area (Refused n f j) b h = check-kept area n f j (h.among n f j refl).1
check_reading-answers s area Pass b h =
    check_cases b s area (CheckAnswers area) (λ l. check-kept area 11 none none refl)
    (λ l. check-outcome-answers b s area (table_fault b s) (table_numbered b s))

check-answers : (book calendar s area : List ℕ) → CheckAnswers area (check_call book calendar s area)
unfolding check_call read_book
check-answers book calendar s area =
    check_reading-answers s area (book_fault book and_then calendar_fault calendar) (book_with book calendar) (read_numbered book calendar)

-- ---- an answer says the verdict: that on the book and its calendar, and then that on the table
module _ (book calendar : List ℕ) where
  plan_says_of : (out area : List ℕ) (v : Verdict) (b : Book) → 0 < number_of v →
      PlanSays v (plan_reading out area (reading_of v b)).answer
  unfolding plan_reading
  plan_says_of out area Pass b l = absurd (omega arith)
  plan_says_of out area (Refused n f j) b l = record { number_is = refl; flow_is = refl; job_is = refl }

  check_says_of : (s area : List ℕ) (v : Verdict) (b : Book) → 0 < number_of v →
      CheckSays v (check_reading s area (reading_of v b)).answer
  unfolding check_reading
  check_says_of s area Pass b l = absurd (omega arith)
  check_says_of s area (Refused n f j) b l = record { number_is = refl; flow_is = refl; job_is = refl }

  planner_says : (out area : List ℕ) → 0 < number_of (book_verdict book calendar) →
      PlanSays (book_verdict book calendar) (plan_call book calendar out area).answer
  unfolding plan_call read_book
  planner_says out area = plan_says_of out area (book_verdict book calendar) (book_with book calendar)

  check_says : (s area : List ℕ) → 0 < number_of (book_verdict book calendar) →
      CheckSays (book_verdict book calendar) (check_call book calendar s area).answer
  unfolding check_call read_book
  check_says s area = check_says_of s area (book_verdict book calendar) (book_with book calendar)

  table_says : (s area : List ℕ) (b : Book) → read_book book calendar ≡ read b → work_bytes ≤ length area →
      CheckSays (table_fault b s) (check_call book calendar s area).answer
  unfolding check_call check_reading check_outcome
  table_says s area b reads long = rw (reads, le-ltb (length area) work_bytes long) (said (table_fault b s))
    where
      said : (v : Verdict) → CheckSays v (check_outcome b s area v).answer
      said Pass = record { number_is = refl; flow_is = refl; job_is = refl }
      said (Refused n f j) = record { number_is = refl; flow_is = refl; job_is = refl }

pub demand_1 : Demand1
unfolding plan_call plan_reading check_call check_reading
demand_1 = record {
  planner_says = planner_says;
  check_says = check_says;
  planner_11 = λ book calendar out area b reads short. rw (reads, lt-ltb (length area) work_bytes short) refl;
  check_11 = λ book calendar table area b reads short. rw (reads, lt-ltb (length area) work_bytes short) refl;
  table_says = table_says;
  planner_number = λ book calendar out area. (planner-answers book calendar out area).number_is;
  planner_refusal = λ book calendar out area. (planner-answers book calendar out area).refusal;
  check_number = λ book calendar table area. (check-answers book calendar table area).number_is;
  check_refusal = λ book calendar table area. (check-answers book calendar table area).refusal;
}
