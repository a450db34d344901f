-- A row's verdict, test by test: what the tests in the walk say of it. The tests of 15, 25 and 16, of 17 and 18, of 19
-- by the release and of 19 by the predecessors stand one after the other, each group counting where those before it
-- pass. Assumes nothing.
use mathlib.Core.Path.{◌≡◌, refl, sym, ap, ◌∙◌, subst}
use Prim.Native.Nat.{ℕ, ◌+◌, ◌≤◌, ◌<◌}
use mathlib.Core.Bool.{Bool, true, false, not, ◌&&◌, ◌||◌, or-true, or-false}
use mathlib.Core.List.{List}
use native.Mathlib.Omega.{arith}
use lib.ListN.{get_or, take}
use lib.Dec.{ltb, leb, eqb}
use borrow.Author.Tests.{le-leb, lt-leb, ltb-true, ltb-false, leb-true}
use Rattle.rules.specs.Verdicts.{Verdict, Pass, Refused}
use Rattle.std.specs.Prelude.{if◌then◌else◌, Option, None}
use Rattle.rules.specs.Walks.{any_to}
use Rattle.rules.specs.Limits.{slots}
use Rattle.rules.specs.Answers.{first_fault}
use Rattle.rules.specs.Book.{Book, flow_count, job_count, flow_of, job_of, has_bit, InRange}
use Rattle.rules.specs.Rows.{Row, used_in, done_before, finish_of}
use Rattle.rules.specs.Check.{no_row, rises, before_release, lacks_predecessor, row_fault}
use Rattle.rules.proofs.Laws.Walks.{any_ext}
use Rattle.rules.proofs.Laws.Faults.{fault-pass}
use Rattle.rules.proofs.Reading.Passing.{test-passed}
use Rattle.rules.proofs.Tables.TablePasses.{in-book_of}
use Rattle.table_check.specs.Tests.{row_key, least_key, standing_number, amount_number, not_yet, lacks_at}
use Rattle.table_check.specs.Tally.{FlowTally}
use Rattle.table_check.proofs.Keys.{KeyFits, key_fits, rises_key}

-- ---- the verdict by its tests
abbrev verdict_by : (out shut falls over crowded unreleased lacks : Bool) → ℕ → ℕ → Verdict
verdict_by out shut falls over crowded unreleased lacks f j =
    if out then Refused 15 f j
    else if shut then Refused 25 f j
    else if falls then Refused 16 f j
    else if over then Refused 17 f j
    else if crowded then Refused 18 f j
    else if unreleased || lacks then Refused 19 f j
    else Pass

-- "row's slot above 8,191, flow or job not in the book, or 0 processors"
abbrev out_of_book : Book → Row → Bool
out_of_book b r = leb slots r.slot || leb (flow_count b) r.flow || leb (job_count (flow_of b r.flow)) r.job || eqb r.processors 0

-- "more than the cap"
abbrev over_cap : Book → Row → Bool
over_cap b r = ltb (job_of (flow_of b r.flow) r.job).cap r.processors

-- "more than P used in the slot by the rows so far, this one counted"
abbrev over_use : Book → List Row → Row → Bool
over_use b so_far r = ltb b.processors (used_in so_far r.slot + r.processors)

-- of row k, which is r, with these slots open
abbrev verdict_at : Book → (ℕ → Bool) → List Row → ℕ → Row → Verdict
verdict_at b opened rows k r =
    verdict_by (out_of_book b r) (not (opened r.slot)) (not (rises b rows k)) (over_cap b r) (over_use b (take k rows) r) (before_release b r)
    (lacks_predecessor b (take k rows) r) r.flow r.job

-- the tests of a row that is in the book
out_of-known : (b : Book) (r : Row) → r.flow < flow_count b →
    out_of_book b r ≡ (leb slots r.slot || leb (job_count (flow_of b r.flow)) r.job || eqb r.processors 0)
out_of-known b r h = rw (lt-leb (flow_count b) r.flow h, or-false (leb slots r.slot)) refl

inside-fits : (b : Book) (r : Row) → InRange b → out_of_book b r ≡ false → KeyFits r
inside-fits b r h e = let i = in-book_of b r e in key_fits b r h i.0 i.1 i.2

-- what 15, 25 and 16 leave of row k, which is r
pub record StandingPassed (b : Book) (opened : ℕ → Bool) (rows : List Row) (k : ℕ) (r : Row) : Type 0 where
  pub fits : KeyFits r
  pub inside : out_of_book b r ≡ false
  pub in_open : opened r.slot ≡ true
  pub rising : rises b rows k ≡ true
  pub after_least : least_key b rows k ≤ row_key b r

-- what 17 and 18 leave of it
pub record AmountPassed (b : Book) (so_far : List Row) (r : Row) : Type 0 where
  pub cap_kept : over_cap b r ≡ false
  pub room_kept : over_use b so_far r ≡ false

module _ (b : Book) (opened : ℕ → Bool) (rows : List Row) (k : ℕ) (r : Row) (at-k : get_or rows k no_row ≡ r) where
  by_tests : row_fault b opened rows k ≡ verdict_at b opened rows k r
  unfolding row_fault
  by_tests = rw (← at-k) refl

  -- a row that passes has a key
  pub passed-fits : InRange b → row_fault b opened rows k ≡ Pass → KeyFits r
  passed-fits h e = inside-fits b r h (test-passed _ _ _ _ _ (sym by_tests ∙ e)).0

module _ (b : Book) (opened : ℕ → Bool) (rows : List Row) (k : ℕ) (r : Row) (at-k : get_or rows k no_row ≡ r) where
  tests : row_fault b opened rows k ≡ verdict_at b opened rows k r
  tests = by_tests b opened rows k r at-k

  pub flow_unknown : flow_count b ≤ r.flow → row_fault b opened rows k ≡ Refused 15 r.flow r.job
  flow_unknown h =
      let out : out_of_book b r ≡ true =
      rw (le-leb (flow_count b) r.flow h, or-true (leb slots r.slot)) refl in
      tests ∙ rw out refl

  -- 15, 25 and 16, by a key that tells whether the row rises
  module _ (range : InRange b) (passed : first_fault (row_fault b opened rows) k ≡ Pass) (least key n : ℕ)
      (order : KeyFits r → leb (least_key b rows k) (row_key b r) ≡ leb least key) (known : r.flow < flow_count b)
      (n-is : n ≡ standing_number (job_count (flow_of b r.flow)) (opened r.slot) least key r) where
    n-by_tests : n ≡ (if out_of_book b r then 15 else if not (opened r.slot) then 25 else if ltb key least then 16 else 0)
    unfolding standing_number
    n-by_tests = n-is ∙ ap (λ (t : Bool). if t then 15 else if not (opened r.slot) then 25 else if ltb key least then 16 else 0) (sym (out_of-known b r known))

    rises_by_key : out_of_book b r ≡ false → rises b rows k ≡ leb least key
    rises_by_key e = rises-at_key ∙ rw at-k (order (inside-fits b r range e))
      where
        rises-at_key : rises b rows k ≡ leb (least_key b rows k) (row_key b (get_or rows k no_row))
        rises-at_key =
            rises_key b rows k (λ j h. earlier j (fault-pass (row_fault b opened rows) k passed j h)) (subst KeyFits (sym at-k) (inside-fits b r range e))
          where
            earlier : (j : ℕ) → row_fault b opened rows j ≡ Pass → KeyFits (get_or rows j no_row)
            earlier j d = passed-fits b opened rows j (get_or rows j no_row) refl range d

    pub standing_fault : (n ≡ 0 → ⊥) → row_fault b opened rows k ≡ Refused n r.flow r.job
    standing_fault h = go (out_of_book b r) refl (opened r.slot) refl (ltb key least) refl
      where
        go : (t : Bool) → out_of_book b r ≡ t → (o : Bool) → opened r.slot ≡ o → (u : Bool) → ltb key least ≡ u →
            row_fault b opened rows k ≡ Refused n r.flow r.job
        go true e o s u d = tests ∙ rw (e, n-by_tests, e) refl
        go false e false s u d = tests ∙ rw (e, s, n-by_tests, e, s) refl
        go false e true s true d =
            let falls : rises b rows k ≡ false = rises_by_key e ∙ lt-leb least key (ltb-true key least d) in
            tests ∙ rw (e, s, falls, n-by_tests, e, s, d) refl
        go false e true s false d = absurd (h (n-by_tests ∙ rw (e, s, d) refl))

    pub standing-passed : n ≡ 0 → StandingPassed b opened rows k r
    standing-passed h = go (out_of_book b r) refl (opened r.slot) refl (ltb key least) refl
      where
        go : (t : Bool) → out_of_book b r ≡ t → (o : Bool) → opened r.slot ≡ o → (u : Bool) → ltb key least ≡ u → StandingPassed b opened rows k r
        go true e o s u d = absurd (let z : n ≡ 15 = n-by_tests ∙ rw e refl in omega arith)
        go false e false s u d = absurd (let z : n ≡ 25 = n-by_tests ∙ rw (e, s) refl in omega arith)
        go false e true s true d = absurd (let z : n ≡ 16 = n-by_tests ∙ rw (e, s, d) refl in omega arith)
        go false e true s false d =
            let at_least : leb least key ≡ true = le-leb least key (ltb-false key least d) in
            record {
              fits = inside-fits b r range e;
              inside = e;
              in_open = s;
              rising = rises_by_key e ∙ at_least;
              after_least = leb-true (least_key b rows k) (row_key b r) (order (inside-fits b r range e) ∙ at_least);
            }

  -- 17 and 18
  module _ (standing : StandingPassed b opened rows k r) (used cap n : ℕ) (used_is : used ≡ used_in (take k rows) r.slot)
      (cap-is : cap ≡ (job_of (flow_of b r.flow) r.job).cap) (n-is : n ≡ amount_number cap used b.processors r) where
    n_by-amount : n ≡ (if over_cap b r then 17 else if over_use b (take k rows) r then 18 else 0)
    unfolding amount_number
    n_by-amount = n-is ∙ rw (used_is, cap-is) refl

    pub amount_fault : (n ≡ 0 → ⊥) → row_fault b opened rows k ≡ Refused n r.flow r.job
    amount_fault h = go (over_cap b r) refl (over_use b (take k rows) r) refl
      where
        go : (t : Bool) → over_cap b r ≡ t → (u : Bool) → over_use b (take k rows) r ≡ u → row_fault b opened rows k ≡ Refused n r.flow r.job
        go true e u d = tests ∙ rw (standing.inside, standing.in_open, standing.rising, e, n_by-amount, e) refl
        go false e true d = tests ∙ rw (standing.inside, standing.in_open, standing.rising, e, d, n_by-amount, e, d) refl
        go false e false d = absurd (h (n_by-amount ∙ rw (e, d) refl))

    pub amount-passed : n ≡ 0 → AmountPassed b (take k rows) r
    amount-passed h = go (over_cap b r) refl (over_use b (take k rows) r) refl
      where
        go : (t : Bool) → over_cap b r ≡ t → (u : Bool) → over_use b (take k rows) r ≡ u → AmountPassed b (take k rows) r
        go true e u d = absurd (let z : n ≡ 17 = n_by-amount ∙ rw e refl in omega arith)
        go false e true d = absurd (let z : n ≡ 18 = n_by-amount ∙ rw (e, d) refl in omega arith)
        go false e false d = record { cap_kept = e; room_kept = d }

  -- 19 by the release, then by the predecessors
  module _ (standing : StandingPassed b opened rows k r) (amount : AmountPassed b (take k rows) r) where
    pub release_fault : before_release b r ≡ true → row_fault b opened rows k ≡ Refused 19 r.flow r.job
    release_fault e = tests ∙ rw (standing.inside, standing.in_open, standing.rising, amount.cap_kept, amount.room_kept, e) refl

    module _ (released : before_release b r ≡ false) where
      pub lacks_fault : lacks_predecessor b (take k rows) r ≡ true → row_fault b opened rows k ≡ Refused 19 r.flow r.job
      lacks_fault e = tests ∙ rw (standing.inside, standing.in_open, standing.rising, amount.cap_kept, amount.room_kept, released, e) refl

      pub row-passes : lacks_predecessor b (take k rows) r ≡ false → row_fault b opened rows k ≡ Pass
      row-passes e = tests ∙ rw (standing.inside, standing.in_open, standing.rising, amount.cap_kept, amount.room_kept, released, e) refl

-- 19 as the walk tests it: by the slots from which jobs are complete
pub lacks_by_ready : (b : Book) (f : ℕ) (so_far : List Row) (totals : List ℕ) (ready : List (Option ℕ)) (r : Row) → FlowTally b f so_far totals ready → r.flow ≡ f →
    r.job < job_count (flow_of b f) → r.slot < slots → finish_of so_far f ≤ r.slot + 1 →
    lacks_predecessor b so_far r ≡ any_to (λ m. lacks_at (job_of (flow_of b f) r.job).predecessors m r.slot (get_or ready m None)) r.job
unfolding lacks_predecessor lacks_at
lacks_by_ready b f so_far totals ready r tally own job_in slot_in latest =
    let p = (job_of (flow_of b f) r.job).predecessors in
    rw own
    (any_ext (λ m. has_bit p m && ltb (done_before so_far f m r.slot) (job_of (flow_of b f) m).size)
    (λ m. has_bit p m && not_yet r.slot (get_or ready m None)) r.job
    (λ m h. ap (λ (t : Bool). has_bit p m && t) (tally.complete m r.slot (omega arith) latest slot_in)))
