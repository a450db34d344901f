-- The jobs of a flow as they are held, read out one more at a time, and as a row is counted. Assumes nothing.
use mathlib.Core.Path.{◌≡◌, refl, sym, ap, ◌∙◌}
use Prim.Native.Nat.{ℕ, ◌+◌, ◌*◌, ◌-◌, ◌≤◌, ◌<◌}
use mathlib.Core.List.{List}
use Rattle.std.specs.Prelude.{Option, Some, None, if◌then◌else◌}
use native.Mathlib.Omega.{arith}
use lib.ListN.{length, get_or, set}
use lib.Seq.{sets, map-set_same, ext_get_or, get_or-set_same, get_or-set_other}
use lib.Dec.{eqb, leb}
use borrow.Author.Tests.{eqb-true, eqb-false, eq-eqb, ne_eqb, le-leb, lt-leb, lt-ltb, le-ltb}
use mathlib.Core.Bool.{Bool, true, false}
use Rattle.std.proofs.lemmas.List.{length-map, map-set}
use Rattle.std.proofs.Math.ListN.{get_or-map}
use mathlib.Core.Logic.{◌⊎◌, inl, inr}
use Rattle.rules.specs.Limits.{slots}
use Rattle.rules.proofs.Laws.Division.{lt-or_ge}
use Rattle.rules.specs.Fields.{bytes_of}
use Rattle.rules.specs.Book.{Book, Job, no_job, job_count, flow_of, job_of}
use Rattle.rules.specs.Rows.{Row}
use Rattle.book.specs.Promise.{job_from}
use Rattle.table_check.specs.declared.row.Ready.{Ready}
use Rattle.table_check.specs.declared.row.JobState.{JobState}
use Rattle.table_check.specs.Tests.{not_yet, ready_after}
use Rattle.table_check.specs.Tally.{records_of, totals_of, ready_of, readies_of, JobsHeld, AmountsHeld, JobsLoaded, Countable, RowCounted}

-- ---- from which slot on a job is complete
pub ready_none : (r : Ready) → r.last ≡ 0 → ready_of r ≡ None
unfolding ready_of
ready_none r e = rw (eq-eqb r.last 0 e) refl

pub ready_after-slot : (slot : ℕ) → slot < slots → ready_of (record { last = 65535 - slot }) ≡ Some (slot + 1)
unfolding ready_of
ready_after-slot slot h = rw (ne_eqb (65535 - slot) 0 (λ e. omega arith)) (ap Some (omega arith))

pub not_yet_by-last : (r : Ready) (slot : ℕ) → slot < 65536 → leb r.last (65535 - slot) ≡ not_yet slot (ready_of r)
unfolding ready_of
not_yet_by-last r slot h = go (eqb r.last 0) refl (lt-or_ge (65535 - slot) r.last)
  where
    go : (t : Bool) → eqb r.last 0 ≡ t → (65535 - slot < r.last) ⊎ (r.last ≤ 65535 - slot) →
        leb r.last (65535 - slot) ≡ not_yet slot (if eqb r.last 0 then None else Some (65536 - r.last))
    go true e o = rw e (le-leb r.last (65535 - slot) (omega (arith, eqb-true r.last 0 e)))
    go false e (inl l) = rw e (lt-leb r.last (65535 - slot) l ∙ sym (le-ltb slot (65536 - r.last) (omega arith)))
    go false e (inr l) = rw e (le-leb r.last (65535 - slot) l ∙ sym (lt-ltb slot (65536 - r.last) (omega (arith, eqb-false r.last 0 e))))

-- past the last job
abbrev pub blank : JobState
blank = record { job = record { size = 0; cap = 0; predecessors = 0 }; total = 0; ready = record { last = 0 } }

-- what is held of job i
pub record_at : (jobs : List JobState) (i : ℕ) → get_or (records_of jobs) i no_job ≡ job_from (get_or jobs i blank).job
record_at jobs i = get_or-map (λ (j : JobState). job_from j.job) jobs i blank

pub total_at : (jobs : List JobState) (i : ℕ) → get_or (totals_of jobs) i 0 ≡ (get_or jobs i blank).total
total_at jobs i = get_or-map (λ (j : JobState). j.total) jobs i blank

pub ready_at : (jobs : List JobState) (i : ℕ) → get_or (readies_of jobs) i None ≡ ready_of (get_or jobs i blank).ready
ready_at jobs i =
    ap (λ (d : Option ℕ). get_or (readies_of jobs) i d) (sym (ready_none (record { last = 0 }) refl)) ∙ get_or-map (λ (j : JobState). ready_of j.ready) jobs i blank

module _ {b : Book} {f : ℕ} {jobs : List JobState} (held : JobsHeld b f jobs) where
  pub held_count : length jobs ≡ job_count (flow_of b f)
  held_count = sym (length-map jobs (λ (j : JobState). job_from j.job)) ∙ ap length held.same

  pub held_job : (i : ℕ) → get_or (records_of jobs) i no_job ≡ job_of (flow_of b f) i
  unfolding job_of
  held_job i = ap (λ (l : List Job). get_or l i no_job) held.same

  pub held_record : (i : ℕ) → job_from (get_or jobs i blank).job ≡ job_of (flow_of b f) i
  held_record i = sym (record_at jobs i) ∙ held_job i

  pub held_amounts : AmountsHeld b f jobs
  held_amounts = record {
    enough = omega (arith, held_count);
    size_of = λ i h. ap (λ (j : Job). j.size) (held_job i);
    cap_of = λ i h. ap (λ (j : Job). j.cap) (held_job i);
  }

-- what holds of the value that is stored at index n, and of the values before at the other ones, holds of each value
-- after
pub after_stored : {A : Type 0} (X : ℕ → A → Type 0) (l : List A) (n : ℕ) (v d : A) → n < length l → X n v → ((i : ℕ) → (i ≡ n → ⊥) → X i (get_or l i d)) →
    (i : ℕ) → X i (get_or (set l n v) i d)
after_stored X l n v d room here others i = go (eqb i n) refl
  where
    go : (t : Bool) → eqb i n ≡ t → X i (get_or (set l n v) i d)
    go true e = rw (eqb-true i n e, get_or-set_same l n v d room) here
    go false e = let other = eqb-false i n e in rw (get_or-set_other l n i v d other) (others i other)

-- ---- jobs read out, one more at a time
pub record JobLoaded (b : Book) (f i : ℕ) (j : JobState) : Type 0 where
  pub as_in_book : job_from j.job ≡ job_of (flow_of b f) i
  pub no_total : j.total ≡ 0
  pub not_complete : ready_of j.ready ≡ None

pub loaded_next : (b : Book) (f n : ℕ) (jobs : List JobState) (v : JobState) → n < length jobs → JobLoaded b f n v →
    ((k : ℕ) → k < n → JobLoaded b f k (get_or jobs k blank)) → (k : ℕ) → k < n + 1 → JobLoaded b f k (get_or (set jobs n v) k blank)
loaded_next b f n jobs v room here so_far =
    after_stored (λ k j. k < n + 1 → JobLoaded b f k j) jobs n v blank room (λ h. here) (λ k other h. so_far k (omega arith))

pub loaded_all : (b : Book) (f : ℕ) (jobs : List JobState) → length jobs ≡ job_count (flow_of b f) →
    ((k : ℕ) → k < length jobs → JobLoaded b f k (get_or jobs k blank)) → JobsLoaded b f jobs
unfolding job_of
loaded_all b f jobs count each = record {
  held = record {
    same = ext_get_or no_job (records_of jobs) (flow_of b f).jobs (length-map jobs (λ (j : JobState). job_from j.job) ∙ count)
        (λ k h. record_at jobs k ∙ (each k (omega (arith, length-map jobs (λ (j : JobState). job_from j.job)))).as_in_book);
  };
  no_total = λ i h. total_at jobs i ∙ (each i (omega (arith, count))).no_total;
  not_complete = λ i h. ready_at jobs i ∙ (each i (omega (arith, count))).not_complete;
}

-- a row is counted in the total of its job, and completes it or not
pub row-counted : {used i p : ℕ} {r : Row} {jobs : List JobState} {work work' : List ℕ} {after : JobState} → Countable jobs work used r → i ≡ r.job → p ≡ r.processors →
    after ≡ record { job = (get_or jobs i blank).job; total = (get_or jobs i blank).total + p; ready = after.ready } →
    ready_of after.ready
    ≡ ready_after (ready_of (get_or jobs i blank).ready) (get_or jobs i blank).total ((get_or jobs i blank).total + p) (get_or jobs i blank).job.size r.slot →
    work' ≡ sets work (2 * r.slot) (bytes_of 2 (used + r.processors)) → RowCounted used r jobs work (set jobs i after) work'
row-counted {i = i} {r = r} {jobs = jobs} {after = after} room i-is p-is is ready-is in_use = record {
  records = map-set_same (λ (j : JobState). job_from j.job) jobs i after blank (ap (λ (j : JobState). job_from j.job) is);
  total = rw (map-set (λ (j : JobState). j.total) jobs i after, ap (λ (j : JobState). j.total) is, i-is, p-is, total_at jobs r.job) refl;
  complete = rw (map-set (λ (j : JobState). ready_of j.ready) jobs i after, ready-is, i-is, p-is, total_at jobs r.job, ready_at jobs r.job, record_at jobs r.job) refl;
  in_use = in_use;
}
