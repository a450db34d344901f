-- A book cut after its first k flows in service order: its flows are those flows of the whole book, renumbered in book order, its values are in
-- range where the whole book's are, and its service order is the first k of the whole one's. Two lists that are sorted by a strict order and have
-- the same elements agree at every position, and renumbering keeps the order of service. Assumes nothing.
use mathlib.Core.Path.{◌≡◌, refl, sym, ap, ap₂, ◌∙◌}
use mathlib.Core.Logic.{inl, inr, ⊎_elim}
use Prim.Native.Nat.{ℕ, zero, suc, ◌+◌, ◌≤◌, ◌<◌, ◌*◌}
use mathlib.Core.Bool.{Bool, true, false, false≢true}
use mathlib.Core.List.{List, [], ◌∷◌}
use native.Mathlib.Nat.{add-zero, zero-add, not-suc-le-zero, le_of_suc-le-suc, eq-or-lt_of_le, add-mul}
use native.Mathlib.Numerals.{add-one}
use native.Mathlib.Omega.{arith}
use lib.ListN.{length, get_or}
use lib.Dec.{eqb}
use borrow.Author.Tests.{eqb-true, eq-eqb, ne_eqb}
use Rattle.std.specs.Prelude.{if◌then◌else◌}
use Rattle.rules.specs.Walks.{sum_to, bit, count_to, any_to}
use Rattle.rules.specs.Book.{Flow, Book, flow_count, no_flow, flow_in, lower_caps, flow_of, InRange}
use Rattle.rules.specs.Service.{served_before, served_at}
use Rattle.rules.specs.Cut.{among_first, keep_flows, cut, number_in_cut}
use Rattle.rules.proofs.Laws.Division.{neither-less}
use Rattle.rules.proofs.Laws.Sums.{sum_ext, sum-add, sum_first, count_most, bit_or, sum-nothing, sum_one, sum_const}
use Rattle.rules.proofs.Laws.Walks.{next_start, any_true, any_met}
use Rattle.rules.proofs.Reading.ServiceOrder.{Earlier, served-earlier, earlier-served, service-below, service-position, service_sorted, service-once, SortedTo, EachIn, sorted_agree}
use Rattle.rules.proofs.Reading.RoundTrip.{Writable}

-- ---- the numbers that pass a test
-- of the n numbers from s on, those that pass a test
unfoldable pub chosen : (ℕ → Bool) → ℕ → ℕ → List ℕ
chosen q zero s = []
chosen q (suc n) s = if q s then s ∷ chosen q n (s + 1) else chosen q n (s + 1)

-- each passes and is one of the n numbers; they rise; every number that passes is there
pub record Chosen (q : ℕ → Bool) (n s : ℕ) (fs : List ℕ) : Type 0 where
  pub count : length fs ≡ count_to (λ i. q (s + i)) n
  pub each_chosen : (m : ℕ) → m < length fs → q (get_or fs m 0) ≡ true
  pub each_from : (m : ℕ) → m < length fs → s ≤ get_or fs m 0
  pub each_below : (m : ℕ) → m < length fs → get_or fs m 0 < s + n
  pub rises : (m k : ℕ) → m < k → k < length fs → get_or fs m 0 < get_or fs k 0
  pub found : (f : ℕ) → s ≤ f → f < s + n → q f ≡ true → (m : ℕ) × (m < length fs) × (get_or fs m 0 ≡ f)

count_next : (q : ℕ → Bool) (s n : ℕ) → count_to (λ i. q (s + i)) (suc n) ≡ bit (q s) + count_to (λ i. q (s + 1 + i)) n
count_next q s n =
    sum_first (λ i. bit (q (s + i))) n
    ∙ ap₂ ◌+◌ (ap (λ x. bit (q x)) (add-zero s))
    (sum_ext (λ i. bit (q (s + suc i))) (λ i. bit (q (s + 1 + i))) n (λ i l. ap (λ x. bit (q x)) (next_start s i)))

pub chosen_laws : (q : ℕ → Bool) (n s : ℕ) → Chosen q n s (chosen q n s)
unfolding chosen sum_to
chosen_laws q zero s = record {
  count = refl;
  each_chosen = λ m l. absurd (not-suc-le-zero l);
  each_from = λ m l. absurd (not-suc-le-zero l);
  each_below = λ m l. absurd (not-suc-le-zero l);
  rises = λ m k l h. absurd (not-suc-le-zero h);
  found = λ f l h e. absurd (omega arith);
}
chosen_laws q (suc n) s = go (q s) refl (chosen q n (s + 1)) (chosen_laws q n (s + 1))
  where
    go : (t : Bool) → q s ≡ t → (fs : List ℕ) → Chosen q n (s + 1) fs → Chosen q (suc n) s (if t then s ∷ fs else fs)
    go true e fs p = record {
      count = omega (arith, p.count, count_next q s n, ap bit e);
      each_chosen = passes;
      each_from = from;
      each_below = below;
      rises = rise;
      found = find;
    }
      where
        passes : (m : ℕ) → m < suc (length fs) → q (get_or (s ∷ fs) m 0) ≡ true
        passes zero l = e
        passes (suc m) l = p.each_chosen m (le_of_suc-le-suc l)

        from : (m : ℕ) → m < suc (length fs) → s ≤ get_or (s ∷ fs) m 0
        from zero l = omega arith
        from (suc m) l = omega (arith, p.each_from m (le_of_suc-le-suc l))

        below : (m : ℕ) → m < suc (length fs) → get_or (s ∷ fs) m 0 < s + suc n
        below zero l = omega arith
        below (suc m) l = omega (arith, p.each_below m (le_of_suc-le-suc l))

        rise : (m k : ℕ) → m < k → k < suc (length fs) → get_or (s ∷ fs) m 0 < get_or (s ∷ fs) k 0
        rise m zero l h = absurd (not-suc-le-zero l)
        rise zero (suc k) l h = omega (arith, p.each_from k (le_of_suc-le-suc h))
        rise (suc m) (suc k) l h = p.rises m k (le_of_suc-le-suc l) (le_of_suc-le-suc h)

        find : (f : ℕ) → s ≤ f → f < s + suc n → q f ≡ true → (m : ℕ) × (m < suc (length fs)) × (get_or (s ∷ fs) m 0 ≡ f)
        find f l h d = ⊎_elim (λ z. (0, omega arith, z)) (λ z. later (p.found f (omega arith) (omega arith) d)) (eq-or-lt_of_le l)
          where
            later : (m : ℕ) × (m < length fs) × (get_or fs m 0 ≡ f) → (m : ℕ) × (m < suc (length fs)) × (get_or (s ∷ fs) m 0 ≡ f)
            later w = (suc w.0, omega (arith, w.1), w.2)
    go false e fs p = record {
      count = omega (arith, p.count, count_next q s n, ap bit e);
      each_chosen = p.each_chosen;
      each_from = λ m l. omega (arith, p.each_from m l);
      each_below = λ m l. omega (arith, p.each_below m l);
      rises = p.rises;
      found = λ f l h d. ⊎_elim (λ z. absurd (false≢true (sym e ∙ ap q z ∙ d))) (λ z. p.found f (omega arith) (omega arith) d) (eq-or-lt_of_le l);
    }

-- as many pass before the m-th of them as before the first number, and m more
pub chosen-counted : (q : ℕ → Bool) (n s m : ℕ) → m < length (chosen q n s) → count_to q (get_or (chosen q n s) m 0) ≡ count_to q s + m
unfolding chosen sum_to
chosen-counted q zero s m l = absurd (not-suc-le-zero l)
chosen-counted q (suc n) s m l = go (q s) refl m l (chosen-counted q n (s + 1))
  where
    next : count_to q (s + 1) ≡ count_to q s + bit (q s)
    next = ap (count_to q) (add-one s)

    go : (t : Bool) → q s ≡ t → (m : ℕ) → m < length (if t then s ∷ chosen q n (s + 1) else chosen q n (s + 1)) →
        ((m : ℕ) → m < length (chosen q n (s + 1)) → count_to q (get_or (chosen q n (s + 1)) m 0) ≡ count_to q (s + 1) + m) →
        count_to q (get_or (if t then s ∷ chosen q n (s + 1) else chosen q n (s + 1)) m 0) ≡ count_to q s + m
    go true e zero h ih = sym (add-zero (count_to q s))
    go true e (suc m) h ih = ih m (le_of_suc-le-suc h) ∙ omega (arith, next, ap bit e)
    go false e m h ih = ih m h ∙ omega (arith, next, ap bit e)

-- ---- the flows that are kept
-- as many flows are kept as numbers are chosen
pub keep-length : (q : ℕ → Bool) (s : ℕ) (ws : List Flow) → length (keep_flows q s ws) ≡ length (chosen q (length ws) s)
unfolding keep_flows chosen
keep-length q s [] = refl
keep-length q s (w ∷ ws) = go (q s) (keep-length q (s + 1) ws)
  where
    go : (t : Bool) → length (keep_flows q (s + 1) ws) ≡ length (chosen q (length ws) (s + 1)) →
        length (if t then w ∷ keep_flows q (s + 1) ws else keep_flows q (s + 1) ws)
        ≡ length (if t then s ∷ chosen q (length ws) (s + 1) else chosen q (length ws) (s + 1))
    go true ih = ap suc ih
    go false ih = ih

-- the flow kept at n is the one whose number is chosen at n; flows are numbered by g
pub keep_at : (q : ℕ → Bool) (g : ℕ → Flow) (s : ℕ) (ws : List Flow) → ((i : ℕ) → i < length ws → get_or ws i no_flow ≡ g (s + i)) →
    (n : ℕ) → n < length (chosen q (length ws) s) → get_or (keep_flows q s ws) n no_flow ≡ g (get_or (chosen q (length ws) s) n 0)
unfolding keep_flows chosen
keep_at q g s [] h n l = absurd (not-suc-le-zero l)
keep_at q g s (w ∷ ws) h n l =
    go (q s) n l (keep_at q g (s + 1) ws (λ i m. h (suc i) (omega arith) ∙ ap g (next_start s i)))
  where
    go : (t : Bool) (n : ℕ) → n < length (if t then s ∷ chosen q (length ws) (s + 1) else chosen q (length ws) (s + 1)) →
        ((n : ℕ) → n < length (chosen q (length ws) (s + 1)) → get_or (keep_flows q (s + 1) ws) n no_flow ≡ g (get_or (chosen q (length ws) (s + 1)) n 0)) →
        get_or (if t then w ∷ keep_flows q (s + 1) ws else keep_flows q (s + 1) ws) n no_flow
        ≡ g (get_or (if t then s ∷ chosen q (length ws) (s + 1) else chosen q (length ws) (s + 1)) n 0)
    go true zero m ih = h 0 (omega arith) ∙ ap g (add-zero s)
    go true (suc n) m ih = ih n (le_of_suc-le-suc m)
    go false n m ih = ih n m

-- ---- the renumbering
-- the number in the whole book of flow n of the book cut after k
unfoldable pub kept : Book → ℕ → ℕ → ℕ
kept b k n = get_or (chosen (among_first b k) (flow_count b) 0) n 0

module _ (b : Book) (k : ℕ) where
  chosen-here : Chosen (among_first b k) (flow_count b) 0 (chosen (among_first b k) (flow_count b) 0)
  chosen-here = chosen_laws (among_first b k) (flow_count b) 0

  pub cut-length : flow_count (cut b k) ≡ length (chosen (among_first b k) (flow_count b) 0)
  unfolding cut
  cut-length = keep-length (among_first b k) 0 b.flows

  -- flow n of the cut book is a flow of the whole book, among the first k
  pub kept-below : (n : ℕ) → n < flow_count (cut b k) → kept b k n < flow_count b
  unfolding kept
  kept-below n l = omega (arith, chosen-here.each_below n (omega (arith, cut-length)))

  pub kept-among : (n : ℕ) → n < flow_count (cut b k) → among_first b k (kept b k n) ≡ true
  unfolding kept
  kept-among n l = chosen-here.each_chosen n (omega (arith, cut-length))

  -- it keeps the order of the book
  pub kept-rises : (m n : ℕ) → m < n → n < flow_count (cut b k) → kept b k m < kept b k n
  unfolding kept
  kept-rises m n l h = chosen-here.rises m n l (omega (arith, cut-length))

  -- so flows that differ stay so
  pub kept-once : (m n : ℕ) → m < flow_count (cut b k) → n < flow_count (cut b k) → kept b k m ≡ kept b k n → m ≡ n
  kept-once m n p q e = neither-less m n (λ l. omega (arith, kept-rises m n l q)) (λ l. omega (arith, kept-rises n m l p))

  -- and the number that it has in the cut book is counted off there
  pub number-kept : (n : ℕ) → n < flow_count (cut b k) → number_in_cut b k (kept b k n) ≡ n
  unfolding number_in_cut kept
  number-kept n l = chosen-counted (among_first b k) (flow_count b) 0 n (omega (arith, cut-length)) ∙ (unfold sum_to in zero-add n)

  -- every flow among the first k is kept
  pub among-kept : (f : ℕ) → f < flow_count b → among_first b k f ≡ true → (n : ℕ) × (n < flow_count (cut b k)) × (kept b k n ≡ f)
  unfolding kept
  among-kept f l e =
      let w = chosen-here.found f (omega arith) (omega arith) e in
      (w.0, omega (arith, w.1, cut-length), w.2)

  -- flow n of the cut book is that flow, as it stands and, under the same P, as it is used
  pub cut-flow_in : (n : ℕ) → n < flow_count (cut b k) → flow_in (cut b k) n ≡ flow_in b (kept b k n)
  unfolding cut kept flow_in
  cut-flow_in n l =
      let numbered : ℕ → Flow = λ f. get_or b.flows f no_flow in
      keep_at (among_first b k) numbered 0 b.flows (λ i m. ap numbered (sym (zero-add i))) n (omega (arith, cut-length))

  pub cut-flow : (n : ℕ) → n < flow_count (cut b k) → flow_of (cut b k) n ≡ flow_of b (kept b k n)
  unfolding cut flow_of
  cut-flow n l = ap (lower_caps b.processors) (cut-flow_in n l)

  pub cut-processors : (cut b k).processors ≡ b.processors
  unfolding cut
  cut-processors = refl

  pub cut-calendar : (cut b k).calendar ≡ b.calendar
  unfolding cut
  cut-calendar = refl

  pub cut-at_most : flow_count (cut b k) ≤ flow_count b
  cut-at_most = omega (arith, cut-length, chosen-here.count, count_most (λ i. among_first b k (0 + i)) (flow_count b))

  -- a book in range stays so when it is cut
  pub cut_in-range : InRange b → InRange (cut b k)
  cut_in-range r = record {
    processors_least = rw cut-processors r.processors_least;
    processors_most = rw cut-processors r.processors_most;
    flows_most = omega (arith, cut-at_most, r.flows_most);
    each_flow = λ f l. rw (cut-flow_in f l) (r.each_flow (kept b k f) (kept-below f l));
    calendar_in_range = rw cut-calendar r.calendar_in_range;
  }

  -- its releases fit where those of the whole book do
  pub cut_writable : (v : ℕ) → Writable v b → Writable v (cut b k)
  cut_writable v can = record {
    version_known = can.version_known;
    release_fits = λ f l. rw (cut-flow_in f l) (can.release_fits (kept b k f) (kept-below f l));
  }

-- ---- how many flows are kept
-- the flows among the first k are those at the positions below k
pub among-position : (b : Book) (k f : ℕ) → among_first b k f ≡ true → (n : ℕ) × (n < k) × (served_at b n ≡ f)
unfolding among_first
among-position b k f e =
    let w = any_met (λ n. eqb (served_at b n) f) k e in
    (w.0, w.1, eqb-true (served_at b w.0) f w.2)

pub position-among : (b : Book) (k n : ℕ) → n < k → among_first b k (served_at b n) ≡ true
unfolding among_first
position-among b k n l =
    any_true (λ m. eqb (served_at b m) (served_at b n)) k n l (eq-eqb (served_at b n) (served_at b n) refl)

-- every flow is among all
pub among-all : (b : Book) (f : ℕ) → f < flow_count b → among_first b (flow_count b) f ≡ true
among-all b f l = let w = service-position b f l in rw w.2 at (position-among b (flow_count b) w.0 w.1)

-- the flow at position k is not among the first k, so that each position adds one
among_next : (b : Book) (k f : ℕ) → k < flow_count b → bit (among_first b (suc k) f) ≡ bit (among_first b k f) + bit (eqb (served_at b k) f)
unfolding among_first any_to
among_next b k f l = bit_or (among_first b k f) (eqb (served_at b k) f) (λ p q. apart (among-position b k f p) (eqb-true (served_at b k) f q))
  where
    apart : (n : ℕ) × (n < k) × (served_at b n ≡ f) → served_at b k ≡ f → ⊥
    apart w e = omega (arith, w.1, service-once b w.0 k (omega (arith, w.1)) l (w.2 ∙ sym e))

among_none : (b : Book) (f : ℕ) → among_first b zero f ≡ false
unfolding among_first any_to
among_none b f = refl

-- so what the flows among the first k have together is added flow by flow of the book, or position by position
pub among-sum : (b : Book) (h : ℕ → ℕ) (k : ℕ) → k ≤ flow_count b → sum_to (λ f. bit (among_first b k f) * h f) (flow_count b) ≡ sum_to (λ n. h (served_at b n)) k
unfolding sum_to
among-sum b h zero l = sum-nothing (λ f. bit (among_first b zero f) * h f) (flow_count b) (λ f m. rw (among_none b f) (omega arith))
among-sum b h (suc k) l =
    let first : ℕ → ℕ = λ f. bit (among_first b k f) * h f in
    let this : ℕ → ℕ = λ f. bit (eqb (served_at b k) f) * h f in
    omega (
      arith,
      sum_ext (λ f. bit (among_first b (suc k) f) * h f) (λ f. first f + this f) (flow_count b)
          (λ f m. ap (λ n. n * h f) (among_next b k f l) ∙ add-mul (bit (among_first b k f)) (bit (eqb (served_at b k) f)) (h f)),
      sum-add first this (flow_count b),
      among-sum b h k (omega arith),
      sum_one this (flow_count b) (served_at b k) (service-below b k l) (λ f m ne. rw (ne_eqb (served_at b k) f (λ e. ne (sym e))) (omega arith)),
      ap (λ c. bit c * h (served_at b k)) (eq-eqb (served_at b k) (served_at b k) refl),
    )

-- k flows are among the first k
pub among-count : (b : Book) (k : ℕ) → k ≤ flow_count b → count_to (among_first b k) (flow_count b) ≡ k
among-count b k l =
    omega (
      arith,
      sum_ext (λ f. bit (among_first b k f)) (λ f. bit (among_first b k f) * 1) (flow_count b) (λ f m. omega arith),
      among-sum b (λ f. 1) k l,
      sum_const 1 k,
    )

-- the cut book has k flows
pub cut-count : (b : Book) (k : ℕ) → k ≤ flow_count b → flow_count (cut b k) ≡ k
cut-count b k l =
    cut-length b k
    ∙ (chosen-here b k).count
    ∙ sum_ext (λ i. bit (among_first b k (0 + i))) (λ i. bit (among_first b k i)) (flow_count b) (λ i m. ap (λ f. bit (among_first b k f)) (zero-add i))
    ∙ among-count b k l

-- ---- the service order of the cut book
-- renumbering keeps the order of service
pub kept-served : (b : Book) (k m n : ℕ) → m < flow_count (cut b k) → n < flow_count (cut b k) →
    served_before (cut b k) m n ≡ true → served_before b (kept b k m) (kept b k n) ≡ true
kept-served b k m n p q e = earlier-served b (kept b k m) (kept b k n) (go (served-earlier (cut b k) m n e))
  where
    dm : (flow_of (cut b k) m).deadline ≡ (flow_of b (kept b k m)).deadline
    dm = ap (λ w. w.deadline) (cut-flow b k m p)

    dn : (flow_of (cut b k) n).deadline ≡ (flow_of b (kept b k n)).deadline
    dn = ap (λ w. w.deadline) (cut-flow b k n q)

    go : Earlier (cut b k) m n → Earlier b (kept b k m) (kept b k n)
    go (inl l) = inl (omega (arith, dm, dn))
    go (inr (z, l)) = inr (omega (arith, dm, dn), kept-rises b k m n l q)

module _ (b : Book) (k : ℕ) (fits : k ≤ flow_count b) where
  -- the flow that the cut book serves at n, by its number there
  cut-served-below : (n : ℕ) → n < k → served_at (cut b k) n < flow_count (cut b k)
  cut-served-below n l = service-below (cut b k) n (omega (arith, cut-count b k fits))

  cut-served_sorted : SortedTo b (λ n. kept b k (served_at (cut b k) n)) k
  cut-served_sorted m n l h =
      kept-served b k (served_at (cut b k) m) (served_at (cut b k) n) (cut-served-below m (omega arith)) (cut-served-below n h)
      (service_sorted (cut b k) m n l (omega (arith, cut-count b k fits)))

  cut-served_in : EachIn (λ n. kept b k (served_at (cut b k) n)) (λ n. served_at b n) k
  cut-served_in n l =
      among-position b k (kept b k (served_at (cut b k) n)) (kept-among b k (served_at (cut b k) n) (cut-served-below n l))

  in-cut-served : EachIn (λ n. served_at b n) (λ n. kept b k (served_at (cut b k) n)) k
  in-cut-served n l =
      let w = among-kept b k (served_at b n) (service-below b n (omega arith)) (position-among b k n l) in
      let v = service-position (cut b k) w.0 w.1 in
      (v.0, omega (arith, v.1, cut-count b k fits), ap (kept b k) v.2 ∙ w.2)

  -- "Cut after its first k flows in service order": the cut book's service order is the first k of the whole book's
  pub cut_service : (n : ℕ) → n < k → kept b k (served_at (cut b k) n) ≡ served_at b n
  cut_service =
      sorted_agree b (λ n. kept b k (served_at (cut b k) n)) (λ n. served_at b n) k
      cut-served_sorted (λ m n l h. service_sorted b m n l (omega arith)) cut-served_in in-cut-served

  -- the flow served at n is the same
  pub cut_service-flow : (n : ℕ) → n < k → flow_of (cut b k) (served_at (cut b k) n) ≡ flow_of b (served_at b n)
  cut_service-flow n l = cut-flow b k (served_at (cut b k) n) (cut-served-below n l) ∙ ap (flow_of b) (cut_service n l)

-- cut after all its flows, a book is whole
keep_all : (q : ℕ → Bool) (s : ℕ) (ws : List Flow) → ((i : ℕ) → i < length ws → q (s + i) ≡ true) → keep_flows q s ws ≡ ws
unfolding keep_flows
keep_all q s [] h = refl
keep_all q s (w ∷ ws) h =
    let first : q s ≡ true = ap q (sym (add-zero s)) ∙ h 0 (omega arith) in
    rw first (ap (w ∷◌) (keep_all q (s + 1) ws (λ i l. ap q (sym (next_start s i)) ∙ h (suc i) (omega arith))))

pub cut-whole : (b : Book) → cut b (flow_count b) ≡ b
unfolding cut
cut-whole b = λ x. record { processors = b.processors; flows = keep_all (among_first b (flow_count b)) 0 b.flows (λ i l. among-all b (0 + i) (omega arith)) x; calendar = b.calendar }
