-- The flows of a book that passes, as the reader holds them: one more each turn of the reader, and what each says of its flow. Assumes nothing.
use mathlib.Core.Path.{◌≡◌, refl, sym, ap, ◌∙◌}
use mathlib.Core.List.{List, [], ◌∷◌, ◌++◌}
use Prim.Native.Nat.{ℕ, zero, suc, ◌+◌, ◌<◌, ◌≤◌}
use native.Mathlib.Nat.{add-zero}
use native.Mathlib.Numerals.{add-one}
use native.Mathlib.Omega.{arith}
use lib.ListN.{length, get_or}
use lib.Seq.{ext_get_or}
use Rattle.std.specs.Prelude.{map}
use Rattle.std.proofs.lemmas.List.{length-map, get_or-take}
use Rattle.std.proofs.Math.ListN.{get_or-map}
use Rattle.rules.specs.Walks.{list_from}
use Rattle.rules.specs.Book.{Flow, no_job, flow_count, job_count, job_of}
use Rattle.rules.specs.Reading.{flow_start, job_start, book_of}
use Rattle.rules.proofs.Laws.Walks.{length-list_from, list-at-zero}
use Rattle.rules.proofs.Reading.Caps.{used_in-range}
use Rattle.rules.proofs.Reading.Passing.{flow-count, pass_in-range}
use Rattle.book.specs.declared.passing.Book.{Book}
use Rattle.book.specs.declared.FlowHead.{FlowHead}
use Rattle.book.specs.declared.JobRecord.{JobRecord}
use Rattle.book.specs.Promise.{FlowStands, HeadOf, job_from}
use Rattle.book.specs.Starts.{starts_of, no_record, flow_read}
use Rattle.book.proofs.Stands.{stands_at}

-- no flow yet, and one more
pub starts-none : (s : List ℕ) → starts_of s 0 ≡ []
unfolding starts_of list_from
starts-none s = refl

list-more : {A : Type 0} (g : ℕ → A) (n s : ℕ) → list_from g (suc n) s ≡ list_from g n s ++ g (s + n) ∷ []
unfolding list_from
list-more g zero s = rw add-zero refl
list-more g (suc n) s = let e : s + 1 + n ≡ s + suc n = omega arith in rw (← e) (ap (g s ∷◌) (list-more g n (s + 1)))

pub starts-more : (s : List ℕ) (n : ℕ) (l : List ℕ) (start : ℕ) → l ≡ starts_of s n → start ≡ flow_start s n → l ++ start ∷ [] ≡ starts_of s (n + 1)
unfolding starts_of
starts-more s n l start so_far at =
    let e : 0 + n ≡ n = omega arith in
    rw (so_far, at, add-one) (sym (list-more (flow_start s) n 0 ∙ ap (λ k. list_from (flow_start s) n 0 ++ flow_start s k ∷ []) e))

pub starts-length : (s : List ℕ) (n : ℕ) → length (starts_of s n) ≡ n
unfolding starts_of
starts-length s n = length-list_from (flow_start s) n 0

-- a head and a list of jobs are a flow where each job is the flow's
pub flow-read-is : (w : Flow) (h : FlowHead) (jobs : List JobRecord) → h.deadline ≡ w.deadline → h.release ≡ w.release → length jobs ≡ job_count w →
    ((k : ℕ) → k < length jobs → job_from (get_or jobs k no_record) ≡ job_of w k) → flow_read h jobs ≡ w
unfolding job_of
flow-read-is w h jobs d r n each =
    rw (d, r, ext_get_or no_job (map job_from jobs) w.jobs (length-map jobs job_from ∙ n) (λ k l. get_or-map job_from jobs k no_record ∙ each k (rw (length-map jobs job_from) at l))) refl

-- ---- the flows of a book
module _ (b : Book) where
  pub flows-count : b.flows ≡ flow_count (book_of b.bytes.now)
  flows-count = b.flows_are

  pub flows-few : flow_count (book_of b.bytes.now) ≤ 64
  flows-few = (pass_in-range b.bytes.now b.passes).flows_most

  module _ {f : ℕ} (flow_in : f < flow_count (book_of b.bytes.now)) where
    pub start-is : get_or b.starts f 0 ≡ flow_start b.bytes.now f
    unfolding starts_of
    start-is =
        let l : f < b.flows = omega (arith, b.flows_are) in
        sym (get_or-take b.flows b.starts f 0 l) ∙ rw b.starts_are (list-at-zero (flow_start b.bytes.now) b.flows f 0 l)

    pub flow-stands : {records : ℕ} → records ≡ job_start b.bytes.now (flow_start b.bytes.now f) 0 → FlowStands b.bytes.now f records
    flow-stands e = stands_at b.bytes.now f b.passes (rw (← flow-count b.bytes.now) flow_in) e

    pub jobs-few : {h : FlowHead} → HeadOf b.bytes.now f h → h.jobs ≤ 64
    jobs-few head = omega (arith, head.jobs, (used_in-range (pass_in-range b.bytes.now b.passes) f flow_in).jobs_most)

-- what is known of the flows of a book
pub ruleset flows = (flows-count, flows-few, start-is)
