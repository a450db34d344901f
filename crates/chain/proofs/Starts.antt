-- The start of a job by the ends of lower jobs: from the lowest set bit of its predecessors to the next, and within any
-- bound on those ends; and a list that the ends of lower jobs fill from the front. Assumes nothing.
use mathlib.Core.Path.{◌≡◌, refl, ap, sym, ◌∙◌}
use mathlib.Core.Bool.{Bool, true, false}
use mathlib.Core.List.{List, [], ◌∷◌, ◌++◌}
use Prim.Native.Nat.{ℕ, zero, suc, ◌+◌, ◌*◌, ◌<◌, ◌≤◌, max}
use native.Mathlib.Nat.{not-suc-le-zero, le_refl}
use native.Mathlib.Omega.{arith}
use lib.ListN.{length, get_or, set, drop, length-append, get_or-append}
use lib.Seq.{drop-cons, get_or_at, set_at, append_snoc}
use Rattle.std.specs.Prelude.{if◌then◌else◌}
use Rattle.rules.specs.Walks.{max_to}
use Rattle.rules.specs.Book.{Flow, job_count, job_of, has_bit, precedes}
use Rattle.rules.specs.Ideal.{duration, start_after, start_of, end_of, ends_below, path}
use Rattle.rules.proofs.Laws.Walks.{last_or, max_ext, max_least}
use Rattle.rules.proofs.Chains.Ideal.{ends-length, ends_at, end_is_start_plus-duration, start_is_largest_end}
use Rattle.chain.specs.Jobs.{start_among, ends_by}
use Rattle.chain.proofs.Lowest.{Lowest}

-- ---- the start of a job
-- no bit is set
pub start_none : (b : ℕ) (ends : List ℕ) (n : ℕ) → ((i : ℕ) → i < n → has_bit b i ≡ false) → start_among b ends n ≡ 0
unfolding start_among max_to
start_none b ends zero none = refl
start_none b ends (suc n) none = rw (start_none b ends n (λ i l. none i (omega arith)), none n (omega arith)) refl

-- the job of the lowest set bit, and the others
pub start-lowest : (b z c : ℕ) (ends : List ℕ) → Lowest b z c → (n : ℕ) → z < n → start_among b ends n ≡ max (get_or ends z 0) (start_among c ends n)
unfolding start_among max_to
start-lowest b z c ends o zero h = absurd (not-suc-le-zero h)
start-lowest b z c ends o (suc n) h =
    last_or z n h
    (λ q. rw (← q, o.set, o.off z (le_refl z), start_none b ends z o.below, start_none c ends z (λ i l. o.off i (omega arith))) (omega arith))
    (λ l. rw (o.kept n l, start-lowest b z c ends o n l) (omega arith))

choice-within : (b : Bool) (e most : ℕ) → e ≤ most → (if b then e else 0) ≤ most
choice-within true e most h = h
choice-within false e most h = omega arith

-- a start is within any bound on the ends of lower jobs
pub start-within : (w : Flow) (i most : ℕ) → ((k : ℕ) → k < i → end_of w k ≤ most) → start_of w i ≤ most
start-within w i most h =
    rw (start_is_largest_end w i)
    (max_least (λ k. if precedes w k i then end_of w k else 0) i most (λ k l. choice-within (precedes w k i) (end_of w k) most (h k l)))

-- ---- the ends by predecessors and durations, at the front of a list
module _ (p d : List ℕ) where
  ends-by_length : (n : ℕ) → length (ends_by p d n) ≡ n
  unfolding ends_by
  ends-by_length zero = refl
  ends-by_length (suc n) = rw (length-append, ends-by_length n) (omega arith)

  -- what stands behind the ends of lower jobs does not count
  start-from_array : (k : ℕ) (ends rest : List ℕ) → ends ≡ ends_by p d k ++ rest →
      start_among (get_or p k 0) ends k ≡ start_among (get_or p k 0) (ends_by p d k) k
  unfolding start_among
  start-from_array k ends rest e =
      rw e
      (max_ext
      (λ i. if has_bit (get_or p k 0) i then get_or (ends_by p d k ++ rest) i 0 else 0)
      (λ i. if has_bit (get_or p k 0) i then get_or (ends_by p d k) i 0 else 0)
      k
      (λ i l. rw (get_or-append (ends_by p d k) rest 0 i (rw (ends-by_length k) l)) refl))

  start-among-within : (k q most : ℕ) (ends : List ℕ) → ((i : ℕ) → i < k → get_or ends i 0 ≤ most) → start_among q ends k ≤ most
  unfolding start_among
  start-among-within k q most ends h =
      max_least (λ i. if has_bit q i then get_or ends i 0 else 0) k most (λ i l. choice-within (has_bit q i) (get_or ends i 0) most (h i l))

  -- n jobs of at most 1,000,000 slots have ended after as many each
  ends_by_most : (n : ℕ) → ((i : ℕ) → i < n → get_or d i 0 ≤ 1000000) → (i : ℕ) → i < n → get_or (ends_by p d n) i 0 ≤ 1000000 * n
  unfolding ends_by
  ends_by_most zero most i h = absurd (not-suc-le-zero h)
  ends_by_most (suc n) most i h =
      let below = ends_by_most n (λ j l. most j (omega arith)) in
      let e = ends_by p d n in
      let end = start_among (get_or p n 0) e n + get_or d n 0 in
      last_or i n h
      (λ q. rw (q, get_or_at e end [] 0 n (ends-by_length n))
      (omega (arith, start-among-within n (get_or p n 0) (1000000 * n) e below, most n (omega arith))))
      (λ l. rw (get_or-append e (end ∷ []) 0 i (rw (ends-by_length n) l)) (omega (arith, below i l)))

  pub ends-none : (n : ℕ) (before : List ℕ) → n ≡ 0 → before ≡ ends_by p d n ++ drop n before
  unfolding ends_by
  ends-none n before e = rw e refl

  module _ (k s : ℕ) (before ends : List ℕ) (ee : ends ≡ ends_by p d k ++ drop k before) (es : s ≡ start_among (get_or p k 0) ends k) where
    start_is : s ≡ start_among (get_or p k 0) (ends_by p d k) k
    start_is = es ∙ start-from_array k ends (drop k before) ee

    pub end_fits : k < 64 → ((i : ℕ) → i < suc k → get_or d i 0 ≤ 1000000) → s + get_or d k 0 ≤ 64000000
    end_fits room most =
        omega (
          arith,
          start_is,
          start-among-within k (get_or p k 0) (1000000 * k) (ends_by p d k) (ends_by_most k (λ i l. most i (omega arith))),
          most k (omega arith),
        )

    -- the list after the end of job k is stored
    pub ends_next : k < length before → (n : ℕ) → n ≡ suc k → set ends k (s + get_or d k 0) ≡ ends_by p d n ++ drop n before
    unfolding ends_by
    ends_next room n en =
        rw (en, start_is, ee, drop-cons before k 0 room)
        (set_at (ends_by p d k) (get_or before k 0) (drop (suc k) before) _ k (ends-by_length k)
        ∙ sym (append_snoc (ends_by p d k) _ (drop (suc k) before)))

-- ---- .. which are a flow's, where the lists are of its jobs
module _ (w : Flow) (p d : List ℕ) (n : ℕ) (preds : (i : ℕ) → i < n → get_or p i 0 ≡ (job_of w i).predecessors)
    (durations : (i : ℕ) → i < n → get_or d i 0 ≡ duration (job_of w i)) where
  start-among_is : (k : ℕ) (ends : List ℕ) → k < n → start_among (get_or p k 0) ends k ≡ start_after w k ends
  unfolding start_among start_after
  start-among_is k ends h = rw (preds k h) refl

  pub ends_of-flow : (m : ℕ) → m ≤ n → ends_by p d m ≡ ends_below w m
  unfolding ends_by ends_below
  ends_of-flow zero h = refl
  ends_of-flow (suc m) h = rw (ends_of-flow m (omega arith), start-among_is m (ends_below w m) (omega arith), durations m (omega arith)) refl

  module _ (ends rest : List ℕ) (ee : ends ≡ ends_by p d n ++ rest) where
    pub end-held : (i : ℕ) → i < n → get_or ends i 0 ≡ end_of w i
    end-held i h =
        let held : ends ≡ ends_below w n ++ rest = ee ∙ ap (◌++ rest) (ends_of-flow n (le_refl n)) in
        rw (held, get_or-append (ends_below w n) rest 0 i (rw (ends-length w n) h)) (ends_at w n i h)

    -- the path is the largest end
    pub path-held : n ≡ job_count w → max_to (λ i. get_or ends i 0) n ≡ path w
    unfolding path
    path-held e = rw (← e) (max_ext (λ i. get_or ends i 0) (end_of w) n end-held)

    -- the start stands the job's slots before its end
    pub start_by_end : (i : ℕ) → i < n → start_of w i + get_or d i 0 ≡ get_or ends i 0
    start_by_end i h = omega (arith, end-held i h, durations i h, end_is_start_plus-duration w i)
