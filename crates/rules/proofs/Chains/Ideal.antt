-- What follows from rules 1 and 2: ends, starts and takes of jobs on endless processors. The take is first brought to one formula,
-- min cap (size - slots since the start * cap); sums of takes, the last slots and the changes are read off that formula. Assumes nothing.
use mathlib.Core.Path.{◌≡◌, refl, sym, ap, ◌∙◌}
use mathlib.Core.Logic.{◌⊎◌, inl, inr}
use mathlib.Core.Bool.{Bool, true, false, ◌||◌}
use mathlib.Core.List.{[]}
use Prim.Native.Nat.{ℕ, zero, suc, ◌+◌, ◌*◌, ◌-◌, ◌≤◌, ◌<◌, min}
use native.Mathlib.Nat.{zero-sub, mul-le-mul_right, not-suc-le-zero}
use native.Mathlib.Omega.{arith}
use lib.ListN.{get_or, length, length-append, get_or-append}
use lib.Seq.{get_or_at}
use lib.Dec.{ltb, leb, eqb}
use borrow.Author.Tests.{lt-ltb, le-ltb, le-leb, lt-leb, eq-eqb, ne_eqb}
use Rattle.std.specs.Prelude.{if◌then◌else◌}
use Rattle.rules.specs.Walks.{sum_to, max_to}
use Rattle.rules.specs.Book.{Job, Flow, job_count, job_of, precedes, FlowInRange}
use Rattle.rules.specs.Ideal.{quotient_up, duration, last_take, start_after, ends_below, start_of, end_of, path, take_of}
use Rattle.rules.proofs.Laws.Division.{lt-or_ge, quotient_up-le, le-quotient_up, quotient_up_pos, quotient_up-eq}
use Rattle.rules.proofs.Laws.Walks.{last_or, max_ext, max-above, max_met}

-- every job of the flow has a size and a cap
pub record Sized (w : Flow) : Type 0 where
  pub size_positive : (i : ℕ) → i < job_count w → 1 ≤ (job_of w i).size
  pub cap_positive : (i : ℕ) → i < job_count w → 1 ≤ (job_of w i).cap

pub in-range-sized : {P : ℕ} {w : Flow} → FlowInRange P w → Sized w
in-range-sized r = record { size_positive = λ i l. (r.each_job i l).size_least; cap_positive = λ i l. (r.each_job i l).cap_least }

-- ---- ends and starts
module _ (w : Flow) where
  pub ends-length : (n : ℕ) → length (ends_below w n) ≡ n
  unfolding ends_below
  ends-length zero = refl
  ends-length (suc n) = rw (length-append, ends-length n) (omega arith)

  -- what stands in the list of ends is the end
  pub ends_at : (n i : ℕ) → i < n → get_or (ends_below w n) i 0 ≡ end_of w i
  unfolding ends_below start_of end_of
  ends_at zero i h = absurd (not-suc-le-zero h)
  ends_at (suc n) i h =
      last_or i n h
      (λ q. rw q (get_or_at (ends_below w n) _ [] 0 n (ends-length n)))
      (λ l. get_or-append (ends_below w n) _ 0 i (rw ends-length l) ∙ ends_at n i l)

  pub end_is_start_plus-duration : (i : ℕ) → end_of w i ≡ start_of w i + duration (job_of w i)
  unfolding end_of
  end_is_start_plus-duration i = refl

  -- rule 2, as it reads
  pub start_is_largest_end : (i : ℕ) → start_of w i ≡ max_to (λ k. if precedes w k i then end_of w k else 0) i
  unfolding start_of start_after
  start_is_largest_end i =
      max_ext (λ k. if precedes w k i then get_or (ends_below w i) k 0 else 0) (λ k. if precedes w k i then end_of w k else 0) i (λ k l. rw (ends_at i k l) refl)

  -- a job starts when its predecessors have ended
  pub predecessor-ends_by_start : (k i : ℕ) → k < i → precedes w k i ≡ true → end_of w k ≤ start_of w i
  predecessor-ends_by_start k i l e =
      let chosen : (if precedes w k i then end_of w k else 0) ≡ end_of w k = rw e refl in
      omega (arith, start_is_largest_end i, max-above (λ j. if precedes w j i then end_of w j else 0) i k l, chosen)

  -- a start that is not 0 is the end of a predecessor
  pub start_is_an_end : (i : ℕ) → 0 < start_of w i → (k : ℕ) × (k < i) × (precedes w k i ≡ true) × (end_of w k ≡ start_of w i)
  start_is_an_end i h =
      let m = max_met (λ k. if precedes w k i then end_of w k else 0) i (omega (arith, start_is_largest_end i)) in
      go m.0 m.1 (m.2 ∙ sym (start_is_largest_end i)) (precedes w m.0 i) refl
    where
      go : (k : ℕ) → k < i → (if precedes w k i then end_of w k else 0) ≡ start_of w i → (b : Bool) → precedes w k i ≡ b →
          (k : ℕ) × (k < i) × (precedes w k i ≡ true) × (end_of w k ≡ start_of w i)
      go k l q true e = (k, l, e, sym (ap (λ (b : Bool). if b then end_of w k else 0) e) ∙ q)
      go k l q false e = absurd (omega (arith, q, ap (λ (b : Bool). if b then end_of w k else 0) e))

  pub end-within-path : (i : ℕ) → i < job_count w → end_of w i ≤ path w
  unfolding path
  end-within-path i l = max-above (end_of w) (job_count w) i l

  -- a path that is not 0 is the end of a job
  pub path_is_an_end : 0 < path w → (k : ℕ) × (k < job_count w) × (end_of w k ≡ path w)
  unfolding path
  path_is_an_end h = max_met (end_of w) (job_count w) h

-- ---- durations and last takes of one job
module _ (j : Job) (pos : 1 ≤ j.cap) where
  pub size-within-duration : j.size ≤ duration j * j.cap
  unfolding duration
  size-within-duration = le-quotient_up j.size pos

  -- the duration is the least number of slots that the size fits into
  pub duration_is-least : (d : ℕ) → j.size ≤ d * j.cap → duration j ≤ d
  unfolding duration
  duration_is-least d h = quotient_up-le j.size d pos h

  pub duration-positive : 1 ≤ j.size → 1 ≤ duration j
  unfolding duration
  duration-positive h = quotient_up_pos j.size pos h

  -- before the duration is over, size is left
  pub size-left : (d : ℕ) → d < duration j → d * j.cap < j.size
  size-left d h = go (lt-or_ge (d * j.cap) j.size)
    where
      go : (d * j.cap < j.size) ⊎ (j.size ≤ d * j.cap) → d * j.cap < j.size
      go (inl l) = l
      go (inr l) = absurd (omega (arith, duration_is-least d l))

  -- d slots after the start: the cap, the rest in the last slot, and then nothing
  full-take : (d : ℕ) → suc d < duration j → j.cap ≡ min j.cap (j.size - d * j.cap)
  full-take d h = omega (arith, size-left (suc d) h)

  last-take : (d : ℕ) → suc d ≡ duration j → last_take j ≡ min j.cap (j.size - d * j.cap)
  unfolding last_take
  last-take d e =
      let enough : j.size ≤ suc d * j.cap = rw e size-within-duration in
      let before : (duration j - 1) * j.cap ≡ d * j.cap = ap (◌* j.cap) (omega arith) in
      omega arith

  no-take : (d : ℕ) → duration j ≤ d → 0 ≡ min j.cap (j.size - d * j.cap)
  no-take d h = omega (arith, size-within-duration, mul-le-mul_right j.cap h)

  -- two takes that differ are the last two
  last_two : (d : ℕ) → (min j.cap (j.size - d * j.cap) ≡ min j.cap (j.size - suc d * j.cap) → ⊥) → (duration j ≡ suc d) ⊎ (duration j ≡ suc (suc d))
  unfolding duration
  last_two d ne = go (lt-or_ge (d * j.cap) j.size) (lt-or_ge (suc d * j.cap) j.size) (lt-or_ge (suc (suc d) * j.cap) j.size)
    where
      go : (d * j.cap < j.size) ⊎ (j.size ≤ d * j.cap) → (suc d * j.cap < j.size) ⊎ (j.size ≤ suc d * j.cap) →
          (suc (suc d) * j.cap < j.size) ⊎ (j.size ≤ suc (suc d) * j.cap) →
          (quotient_up j.size j.cap ≡ suc d) ⊎ (quotient_up j.size j.cap ≡ suc (suc d))
      go (inr a) o o' = absurd (ne (omega arith))
      go (inl a) (inr b) o' = inl (quotient_up-eq j.size d pos a b)
      go (inl a) (inl b) (inr e) = inr (quotient_up-eq j.size (suc d) pos b e)
      go (inl a) (inl b) (inl e) = absurd (ne (omega arith))

-- ---- takes
module _ (w : Flow) (i : ℕ) where
  pub take-before_start : (u : ℕ) → u < start_of w i → take_of w i u ≡ 0
  unfolding take_of
  take-before_start u h = rw (lt-ltb u (start_of w i) h) refl

  pub take-from_end : (u : ℕ) → end_of w i ≤ u → take_of w i u ≡ 0
  unfolding take_of
  take-from_end u h = go (ltb u (start_of w i))
    where
      go : (b : Bool) → (if b || leb (end_of w i) u then 0 else if eqb (u + 1) (end_of w i) then last_take (job_of w i) else (job_of w i).cap) ≡ 0
      go true = refl
      go false = rw (le-leb (end_of w i) u h) refl

  -- while a job runs, it takes the rest in its last slot, and else its cap
  take_running : (u : ℕ) → start_of w i ≤ u → u < end_of w i → take_of w i u ≡ (if eqb (u + 1) (end_of w i) then last_take (job_of w i) else (job_of w i).cap)
  unfolding take_of
  take_running u h l = rw (le-ltb u (start_of w i) h, lt-leb (end_of w i) u l) refl

  pub take_is-cap : (u : ℕ) → start_of w i ≤ u → u + 1 < end_of w i → take_of w i u ≡ (job_of w i).cap
  take_is-cap u h l =
      take_running u h (omega arith) ∙ ap (λ (b : Bool). if b then last_take (job_of w i) else (job_of w i).cap) (ne_eqb (u + 1) (end_of w i) (λ q. omega arith))

  pub take_is-last : (u : ℕ) → start_of w i ≤ u → u + 1 ≡ end_of w i → take_of w i u ≡ last_take (job_of w i)
  take_is-last u h q =
      take_running u h (omega arith) ∙ ap (λ (b : Bool). if b then last_take (job_of w i) else (job_of w i).cap) (eq-eqb (u + 1) (end_of w i) q)

  pub take_only-from_start : (u : ℕ) → 0 < take_of w i u → start_of w i ≤ u
  take_only-from_start u h = go (lt-or_ge u (start_of w i))
    where
      go : (u < start_of w i) ⊎ (start_of w i ≤ u) → start_of w i ≤ u
      go (inl l) = absurd (omega (arith, take-before_start u l))
      go (inr l) = l

  pub take_only-before_end : (u : ℕ) → 0 < take_of w i u → u < end_of w i
  take_only-before_end u h = go (lt-or_ge u (end_of w i))
    where
      go : (u < end_of w i) ⊎ (end_of w i ≤ u) → u < end_of w i
      go (inl l) = l
      go (inr l) = absurd (omega (arith, take-from_end u l))

  module _ (pos : 1 ≤ (job_of w i).cap) where
    -- rule 1 as one formula
    pub take_formula : (u : ℕ) → start_of w i ≤ u → take_of w i u ≡ min (job_of w i).cap ((job_of w i).size - (u - start_of w i) * (job_of w i).cap)
    take_formula u h = go (lt-or_ge (u + 1) (end_of w i)) (lt-or_ge u (end_of w i))
      where
        go : (u + 1 < end_of w i) ⊎ (end_of w i ≤ u + 1) → (u < end_of w i) ⊎ (end_of w i ≤ u) →
            take_of w i u ≡ min (job_of w i).cap ((job_of w i).size - (u - start_of w i) * (job_of w i).cap)
        go (inl m) o = take_is-cap u h m ∙ full-take (job_of w i) pos (u - start_of w i) (omega (arith, end_is_start_plus-duration w i))
        go (inr m) (inl l) =
            take_is-last u h (omega arith) ∙ last-take (job_of w i) pos (u - start_of w i) (omega (arith, end_is_start_plus-duration w i))
        go (inr m) (inr l) = take-from_end u l ∙ no-take (job_of w i) pos (u - start_of w i) (omega (arith, end_is_start_plus-duration w i))

    pub take-within-cap : (u : ℕ) → take_of w i u ≤ (job_of w i).cap
    take-within-cap u = go (lt-or_ge u (start_of w i))
      where
        go : (u < start_of w i) ⊎ (start_of w i ≤ u) → take_of w i u ≤ (job_of w i).cap
        go (inl l) = omega (arith, take-before_start u l)
        go (inr l) = omega (arith, take_formula u l)

    -- a job works in every slot from its start to its end
    pub take-positive : (u : ℕ) → start_of w i ≤ u → u < end_of w i → 0 < take_of w i u
    take-positive u h l =
        let left : (u - start_of w i) * (job_of w i).cap < (job_of w i).size =
        size-left (job_of w i) pos (u - start_of w i) (omega (arith, end_is_start_plus-duration w i)) in
        omega (arith, take_formula u h)

    -- what a job has taken in the ideal slots before u
    pub take-sum : (u : ℕ) → sum_to (take_of w i) u ≡ min (job_of w i).size ((u - start_of w i) * (job_of w i).cap)
    unfolding sum_to
    take-sum zero = rw (zero-sub (start_of w i)) (omega arith)
    take-sum (suc u) = go (lt-or_ge u (start_of w i)) (take-sum u)
      where
        go : (u < start_of w i) ⊎ (start_of w i ≤ u) → sum_to (take_of w i) u ≡ min (job_of w i).size ((u - start_of w i) * (job_of w i).cap) →
            sum_to (take_of w i) u + take_of w i u ≡ min (job_of w i).size ((suc u - start_of w i) * (job_of w i).cap)
        go (inl l) ih =
            let z : u - start_of w i ≡ 0 = omega arith in
            let z' : suc u - start_of w i ≡ 0 = omega arith in
            let ih' : sum_to (take_of w i) u ≡ min (job_of w i).size (0 * (job_of w i).cap) = rw z at ih in
            rw z' (omega (arith, take-before_start u l))
        go (inr l) ih =
            let q : suc u - start_of w i ≡ suc (u - start_of w i) = omega arith in
            rw q (omega (arith, take_formula u l))

    -- from its end on a job has its size
    pub take-sum-whole : (u : ℕ) → end_of w i ≤ u → sum_to (take_of w i) u ≡ (job_of w i).size
    take-sum-whole u h =
        omega (
          arith,
          take-sum u,
          size-within-duration (job_of w i) pos,
          mul-le-mul_right {m = duration (job_of w i)} {n = u - start_of w i} (job_of w i).cap (omega (arith, end_is_start_plus-duration w i)),
        )

    -- a take changes at the start, at the end and one slot before the end, and nowhere else
    pub take-changes : (u : ℕ) → (take_of w i u ≡ take_of w i (u + 1) → ⊥) → (u + 1 ≡ start_of w i) ⊎ ((u + 1 ≡ end_of w i) ⊎ (u + 2 ≡ end_of w i))
    take-changes u ne = early (lt-or_ge (u + 1) (start_of w i)) (lt-or_ge u (start_of w i))
      where
        late : start_of w i ≤ u → (duration (job_of w i) ≡ suc (u - start_of w i)) ⊎ (duration (job_of w i) ≡ suc (suc (u - start_of w i))) →
            (u + 1 ≡ start_of w i) ⊎ ((u + 1 ≡ end_of w i) ⊎ (u + 2 ≡ end_of w i))
        late l (inl e) = inr (inl (omega (arith, end_is_start_plus-duration w i)))
        late l (inr e) = inr (inr (omega (arith, end_is_start_plus-duration w i)))

        early : (u + 1 < start_of w i) ⊎ (start_of w i ≤ u + 1) → (u < start_of w i) ⊎ (start_of w i ≤ u) →
            (u + 1 ≡ start_of w i) ⊎ ((u + 1 ≡ end_of w i) ⊎ (u + 2 ≡ end_of w i))
        early (inl l) o = absurd (ne (take-before_start u (omega arith) ∙ sym (take-before_start (u + 1) l)))
        early (inr l) (inl g) = inl (omega arith)
        early (inr l) (inr g) =
            let q : u + 1 - start_of w i ≡ suc (u - start_of w i) = omega arith in
            let next : take_of w i (u + 1) ≡ min (job_of w i).cap ((job_of w i).size - suc (u - start_of w i) * (job_of w i).cap) =
            take_formula (u + 1) l ∙ ap (λ (d : ℕ). min (job_of w i).cap ((job_of w i).size - d * (job_of w i).cap)) q in
            late g (last_two (job_of w i) pos (u - start_of w i) (λ e. ne (take_formula u g ∙ (e ∙ sym next))))

-- on endless processors each job of a sized flow has its size by the end of the path
pub take-sum-path : (w : Flow) → Sized w → (i : ℕ) → i < job_count w → sum_to (take_of w i) (path w) ≡ (job_of w i).size
take-sum-path w sized i l = take-sum-whole w i (sized.cap_positive i l) (path w) (end-within-path w i l)
