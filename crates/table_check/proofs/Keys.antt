-- Rows in range stand in their order by one number. The number is built from pairs: of two pairs the lesser is that
-- with the lesser first part, or with the same first part and the lesser second part. Assumes nothing.
use mathlib.Core.Path.{◌≡◌, refl, sym, ap, ◌∙◌}
use Prim.Native.Nat.{ℕ, zero, suc, ◌+◌, ◌*◌, ◌≤◌, ◌<◌}
use mathlib.Core.Bool.{Bool, true, false, ◌&&◌, ◌||◌, and-false}
use mathlib.Core.Logic.{◌⊎◌, inl, inr}
use mathlib.Core.List.{List}
use native.Mathlib.Nat.{mul-le-mul_right}
use native.Mathlib.Omega.{arith}
use lib.ListN.{get_or}
use lib.Dec.{ltb, leb, eqb}
use borrow.Author.Tests.{lt-ltb, le-ltb, eq-eqb, ne_eqb, eqb-true, eqb-false, le-leb}
use Rattle.rules.specs.Limits.{slots}
use Rattle.rules.specs.Book.{Book, flow_count, job_count, flow_of, InRange}
use Rattle.rules.specs.Service.{served_before}
use Rattle.rules.specs.Rows.{Row}
use Rattle.rules.specs.Check.{no_row, row_before, rises}
use Rattle.rules.proofs.Reading.Caps.{used_in-range}
use Rattle.rules.proofs.Laws.Division.{lt-or_ge}
use Rattle.table_check.specs.Tests.{service_key, rank_of, ranks, row_key, least_key}

-- ---- pairs
module _ (m a x c y : ℕ) (h : x < m) (l : y < m) where
  pub pair_lt : ltb (a * m + x) (c * m + y) ≡ (ltb a c || eqb a c && ltb x y)
  pair_lt = go (lt-or_ge a c) (lt-or_ge c a)
    where
      go : (a < c) ⊎ (c ≤ a) → (c < a) ⊎ (a ≤ c) → ltb (a * m + x) (c * m + y) ≡ (ltb a c || eqb a c && ltb x y)
      go (inl g) o = rw (lt-ltb (a * m + x) (c * m + y) (omega (arith, mul-le-mul_right m g)), lt-ltb a c g) refl
      go (inr g) (inl o) =
          rw (le-ltb (a * m + x) (c * m + y) (omega (arith, mul-le-mul_right m o)), le-ltb a c g, ne_eqb a c (λ e. omega arith)) refl
      go (inr g) (inr o) =
          let e : a ≡ c = omega arith in
          rw (le-ltb a c g, eq-eqb a c e, e) (shifted (c * m) x y)
        where
          shifted : (k u v : ℕ) → ltb (k + u) (k + v) ≡ ltb u v
          shifted k u v = either (lt-or_ge u v)
            where
              either : (u < v) ⊎ (v ≤ u) → ltb (k + u) (k + v) ≡ ltb u v
              either (inl q) = rw (lt-ltb (k + u) (k + v) (omega arith), lt-ltb u v q) refl
              either (inr q) = rw (le-ltb (k + u) (k + v) (omega arith), le-ltb u v q) refl

  pub pair_eq : eqb (a * m + x) (c * m + y) ≡ (eqb a c && eqb x y)
  pair_eq = go (eqb a c) refl (eqb x y) refl
    where
      same : a * m + x ≡ c * m + y → (a ≡ c) × (x ≡ y)
      same e = go (lt-or_ge a c) (lt-or_ge c a)
        where
          go : (a < c) ⊎ (c ≤ a) → (c < a) ⊎ (a ≤ c) → (a ≡ c) × (x ≡ y)
          go (inl g) o = absurd (omega (arith, mul-le-mul_right m g))
          go (inr g) (inl o) = absurd (omega (arith, mul-le-mul_right m o))
          go (inr g) (inr o) = (omega arith, omega (arith, mul-le-mul_right m g, mul-le-mul_right m o))

      go : (s : Bool) → eqb a c ≡ s → (t : Bool) → eqb x y ≡ t → eqb (a * m + x) (c * m + y) ≡ (eqb a c && eqb x y)
      go false e t d = rw (e, ne_eqb (a * m + x) (c * m + y) (λ q. eqb-false a c e (same q).0)) refl
      go true e false d = rw (e, d, ne_eqb (a * m + x) (c * m + y) (λ q. eqb-false x y d (same q).1)) refl
      go true e true d =
          let p : a ≡ c = eqb-true a c e in
          rw (e, d, eq-eqb (a * m + x) (c * m + y) (omega (arith, ap (λ (k : ℕ). k * m) p, eqb-true x y d))) refl

-- ---- rows
-- what a key needs of a row
pub record KeyFits (r : Row) : Type 0 where
  pub flow_fits : r.flow < 64
  pub slot_fits : r.slot < slots
  pub job_fits : r.job < 64

-- a row of the book in a slot of a table has it
pub key_fits : (b : Book) (r : Row) → InRange b → r.slot < slots → r.flow < flow_count b → r.job < job_count (flow_of b r.flow) → KeyFits r
key_fits b r range s f j = record {
  flow_fits = omega (arith, range.flows_most);
  slot_fits = s;
  job_fits = omega (arith, (used_in-range range r.flow f).jobs_most);
}

-- flows compare as their deadlines and numbers do
served : (b : Book) (g f : ℕ) → g < 64 → f < 64 → ltb (service_key b g) (service_key b f) ≡ served_before b g f
unfolding served_before
served b g f h l = pair_lt 64 (flow_of b g).deadline g (flow_of b f).deadline f h l

same_flow : (b : Book) (g f : ℕ) → g < 64 → f < 64 → eqb (service_key b g) (service_key b f) ≡ eqb g f
same_flow b g f h l = pair_eq 64 (flow_of b g).deadline g (flow_of b f).deadline f h l ∙ go (eqb g f) refl
  where
    go : (t : Bool) → eqb g f ≡ t → (eqb (flow_of b g).deadline (flow_of b f).deadline && eqb g f) ≡ eqb g f
    go true e = rw (e, eq-eqb (flow_of b g).deadline (flow_of b f).deadline (ap (λ (k : ℕ). (flow_of b k).deadline) (eqb-true g f e))) refl
    go false e = rw e (and-false (eqb (flow_of b g).deadline (flow_of b f).deadline))

-- two flows have two numbers
pub service-apart : (b : Book) (g f : ℕ) → g < 64 → f < 64 → (g ≡ f → ⊥) → service_key b g ≡ service_key b f → ⊥
service-apart b g f h l n e = n (omega arith)

pub rank_below : (r : Row) → KeyFits r → rank_of r < ranks
rank_below r h = omega (arith, h.slot_fits, h.job_fits)

pub before_key : (b : Book) (q r : Row) → KeyFits q → KeyFits r → row_before b q r ≡ ltb (row_key b q) (row_key b r)
unfolding row_before row_key
before_key b q r h l =
    sym (rw (
      pair_lt ranks (service_key b q.flow) (rank_of q) (service_key b r.flow) (rank_of r) (rank_below q h) (rank_below r l),
      pair_lt 64 q.slot q.job r.slot r.job h.job_fits l.job_fits,
      served b q.flow r.flow h.flow_fits l.flow_fits,
      same_flow b q.flow r.flow h.flow_fits l.flow_fits,
    ) refl)

-- of two rows of a flow, that with the greater key stands in no earlier slot
pub key-slots : (b : Book) (q r : Row) → KeyFits q → KeyFits r → q.flow ≡ r.flow → row_key b q < row_key b r → q.slot ≤ r.slot
unfolding row_key
key-slots b q r h l e k = omega (arith, ap (λ (f : ℕ). (flow_of b f).deadline) e, h.job_fits, l.job_fits)

-- and of two rows of a job in a later one
pub key-slots-less : (b : Book) (q r : Row) → q.flow ≡ r.flow → q.job ≡ r.job → row_key b q < row_key b r → q.slot < r.slot
unfolding row_key
key-slots-less b q r e d k = omega (arith, ap (λ (f : ℕ). (flow_of b f).deadline) e)

-- row k comes after the one before it where its key is at least the least one
pub rises_key : (b : Book) (rows : List Row) (k : ℕ) → ((j : ℕ) → j < k → KeyFits (get_or rows j no_row)) → KeyFits (get_or rows k no_row) →
    rises b rows k ≡ leb (least_key b rows k) (row_key b (get_or rows k no_row))
unfolding rises least_key
rises_key b rows zero h l = sym (le-leb 0 (row_key b (get_or rows 0 no_row)) (omega arith))
rises_key b rows (suc k) h l = before_key b (get_or rows k no_row) (get_or rows (suc k) no_row) (h k (omega arith)) l
