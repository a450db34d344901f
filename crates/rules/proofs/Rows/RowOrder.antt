-- The order of rows: by deadline, flow number, slot and job, one after the other.
-- A test of two rows is true where the first number in which they differ is less in the first row; so the order is transitive and
-- asymmetric, and rows each of which comes after the one before it are in rising order. Assumes nothing.
use mathlib.Core.Path.{◌≡◌, refl, ap}
use mathlib.Core.Logic.{◌⊎◌, inl, inr}
use mathlib.Core.Bool.{Bool, true, ◌&&◌, ◌||◌, and-eq-true_iff, or-true}
use Prim.Native.Nat.{ℕ, zero, suc, ◌≤◌, ◌<◌}
use native.Mathlib.Nat.{lt-suc_self}
use native.Mathlib.Omega.{arith}
use mathlib.Core.List.Memᴰ
use mathlib.Core.List.{List, [], ◌∷◌}
use lib.ListN.{length, get_or}
use lib.Dec.{ltb, eqb}
use borrow.Author.Tests.{ltb-true, eqb-true, lt-ltb, eq-eqb}
use Rattle.rules.specs.Book.{Book, flow_of}
use Rattle.rules.specs.Service.{served_before}
use Rattle.rules.specs.Rows.{Row}
use Rattle.rules.specs.Check.{row_before, no_row, rises}
use Rattle.rules.proofs.Laws.Walks.{or_cases}
use Rattle.rules.proofs.Laws.Lexical.{Lexical, lexical_trans, lexical-rest, lexical-map, less-or-same, less-or-same_test}
use Rattle.rules.proofs.Reading.ServiceOrder.{Earlier, served-earlier, earlier-served}
use Rattle.rules.proofs.Rows.Rising.{◌∈◌, Rising, rising-at}

-- ---- rows
unfoldable pub deadline_of : Book → Row → ℕ
deadline_of b r = (flow_of b r.flow).deadline

-- row q comes before row r
unfoldable pub Before : Book → Row → Row → Type 0
Before b q r = Lexical (deadline_of b q) (deadline_of b r) (Lexical q.flow r.flow (Lexical q.slot r.slot (q.job < r.job)))

pub before_trans : (b : Book) (q r s : Row) → Before b q r → Before b r s → Before b q s
unfolding Before
before_trans b q r s x y = lexical_trans x y (λ x' y'. lexical_trans x' y' (λ x'' y''. lexical_trans x'' y'' (λ l m. omega arith)))

pub before-same_flow : (b : Book) (q r : Row) → Before b q r → q.flow ≡ r.flow → Lexical q.slot r.slot (q.job < r.job)
unfolding Before deadline_of
before-same_flow b q r x e = lexical-rest (lexical-rest x (ap (λ f. (flow_of b f).deadline) e)) e

-- rows in rising order are not of the same flow, slot and job
pub before_differs : (b : Book) (q r : Row) → Before b q r → q.flow ≡ r.flow → q.slot ≡ r.slot → q.job ≡ r.job → ⊥
before_differs b q r x e d c = let l : q.job < r.job = lexical-rest (before-same_flow b q r x e) d in omega arith

pub before_asymmetric : (b : Book) (q r : Row) → Before b q r → Before b r q → ⊥
before_asymmetric b q r x y = before_differs b q q (before_trans b q r q x y) refl refl refl

-- rows of one flow stand by slot
pub before-slot : (b : Book) (q r : Row) → Before b q r → q.flow ≡ r.flow → q.slot ≤ r.slot
before-slot b q r x e = go (before-same_flow b q r x e)
  where
    go : Lexical q.slot r.slot (q.job < r.job) → q.slot ≤ r.slot
    go (inl l) = omega arith
    go (inr l) = omega (arith, l.0)

-- ---- the test
pub served-before : (b : Book) (q r : Row) → served_before b q.flow r.flow ≡ true → Before b q r
unfolding Before deadline_of
served-before b q r e = lexical-map (λ l. inl l) (served-earlier b q.flow r.flow e)

pub same-flow-before : (b : Book) (q r : Row) → q.flow ≡ r.flow → Lexical q.slot r.slot (q.job < r.job) → Before b q r
unfolding Before deadline_of
same-flow-before b q r e x = inr (ap (λ f. (flow_of b f).deadline) e, inr (e, x))

-- the test says that q comes before r, and it says so wherever that is
pub row_before_lem : (b : Book) (q r : Row) → row_before b q r ≡ true → Before b q r
unfolding row_before
row_before_lem b q r e =
    go (or_cases (served_before b q.flow r.flow) (eqb q.flow r.flow && later) e)
  where
    later : Bool
    later = ltb q.slot r.slot || eqb q.slot r.slot && ltb q.job r.job

    go : (served_before b q.flow r.flow ≡ true) ⊎ ((eqb q.flow r.flow && later) ≡ true) → Before b q r
    go (inl s) = served-before b q r s
    go (inr s) =
        let w = (and-eq-true_iff (eqb q.flow r.flow) later).0 s in
        same-flow-before b q r (eqb-true q.flow r.flow w.0)
        (lexical-map (ltb-true q.job r.job) (less-or-same q.slot r.slot (ltb q.job r.job) w.1))

pub before-row : (b : Book) (q r : Row) → Before b q r → row_before b q r ≡ true
unfolding row_before Before deadline_of
before-row b q r x = go x
  where
    later : Bool
    later = ltb q.slot r.slot || eqb q.slot r.slot && ltb q.job r.job

    served : Earlier b q.flow r.flow → (served_before b q.flow r.flow || eqb q.flow r.flow && later) ≡ true
    served s = rw (earlier-served b q.flow r.flow s) refl

    go : Before b q r → (served_before b q.flow r.flow || eqb q.flow r.flow && later) ≡ true
    go (inl d) = served (inl d)
    go (inr (d, inl f)) = served (inr (d, f))
    go (inr (d, inr (e, s))) =
        rw (eq-eqb q.flow r.flow e, less-or-same_test q.slot r.slot (ltb q.job r.job) (lexical-map (lt-ltb q.job r.job) s))
        (or-true (served_before b q.flow r.flow))

-- ---- rows each of which comes after the one before it
pub rises-rising : (b : Book) (rows : List Row) → ((k : ℕ) → k < length rows → rises b rows k ≡ true) → Rising (Before b) rows
unfolding Rising rises
rises-rising b [] h = tt
rises-rising b (r ∷ rs) h = let rest = rises-rising b rs (later rs h) in (above rs h rest, rest)
  where
    later : (qs : List Row) → ((k : ℕ) → k < length (r ∷ qs) → rises b (r ∷ qs) k ≡ true) → (k : ℕ) → k < length qs → rises b qs k ≡ true
    later qs g zero l = refl
    later qs g (suc k) l = g (suc (suc k)) (omega arith)

    above : (qs : List Row) → ((k : ℕ) → k < length (r ∷ qs) → rises b (r ∷ qs) k ≡ true) → Rising (Before b) qs →
        (y : Row) → y ∈ qs → Before b r y
    above [] g rest y m = absurd (Memᴰ.not-nil m)
    above (q ∷ qs) g rest y m = go (Memᴰ.cases_cons m)
      where
        next : Before b r q
        next = row_before_lem b r q (g 1 (omega arith))

        go : (y ≡ q) ⊎ (y ∈ qs) → Before b r y
        go (inl e) = rw e next
        go (inr l) = before_trans b r q y next (rest.0 y l)

pub rising-rises : (b : Book) (rows : List Row) → Rising (Before b) rows → (k : ℕ) → k < length rows → rises b rows k ≡ true
unfolding rises
rising-rises b rows h zero l = refl
rising-rises b rows h (suc k) l = before-row b (get_or rows k no_row) (get_or rows (suc k) no_row) (rising-at (Before b) rows no_row h k (suc k) (lt-suc_self k) l)
