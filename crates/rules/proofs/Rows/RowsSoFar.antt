-- What one row more adds to totals and finishes, and what a job has before a slot that no row of its flow has passed.
-- Each is the sum over the rows of one test, so one law of `sum_where` carries them. Assumes nothing.
use mathlib.Core.Path.{◌≡◌, refl, ◌∙◌}
use Prim.Native.Nat.{ℕ, ◌+◌, ◌≤◌, max}
use mathlib.Core.Bool.{Bool, true, false, ◌&&◌}
use mathlib.Core.List.{List, [], ◌∷◌, ◌++◌}
use native.Mathlib.Omega.{arith}
use lib.Dec.{ltb, eqb}
use borrow.Author.Tests.{lt-ltb}
use Rattle.std.specs.Prelude.{if◌then◌else◌}
use Rattle.rules.proofs.Rows.RowSums.{counted, sum_where-append}
use Rattle.rules.specs.Rows.{Row, sum_where, is_of, total_of, done_before, finish_of}

pub sum_where-last : (q : Row → Bool) (rows : List Row) (r : Row) → sum_where q (rows ++ r ∷ []) ≡ sum_where q rows + counted q r
unfolding sum_where
sum_where-last q rows r = sum_where-append q rows (r ∷ []) ∙ omega arith

pub total-last : (rows : List Row) (r : Row) (f i : ℕ) → total_of (rows ++ r ∷ []) f i ≡ total_of rows f i + (if is_of f i r then r.processors else 0)
unfolding total_of
total-last rows r f i = sum_where-last (λ p. is_of f i p) rows r

pub done-last : (rows : List Row) (r : Row) (f i t : ℕ) →
    done_before (rows ++ r ∷ []) f i t ≡ done_before rows f i t + (if is_of f i r && ltb r.slot t then r.processors else 0)
unfolding done_before
done-last rows r f i t = sum_where-last (λ p. is_of f i p && ltb p.slot t) rows r

pub finish-last : (rows : List Row) (r : Row) (f : ℕ) →
    finish_of (rows ++ r ∷ []) f ≡ max (finish_of rows f) (if eqb r.flow f then r.slot + 1 else 0)
unfolding finish_of
finish-last [] r f = omega arith
finish-last (p ∷ rows) r f = omega (arith, finish-last rows r f)

-- before a slot at or past the flow's finish a job has its total
pub done_is-total : (rows : List Row) (f i t : ℕ) → finish_of rows f ≤ t → done_before rows f i t ≡ total_of rows f i
unfolding done_before total_of finish_of sum_where
done_is-total [] f i t h = refl
done_is-total (r ∷ rows) f i t h = go (eqb r.flow f) refl (eqb r.job i) refl (done_is-total rows f i t (omega arith))
  where
    go : (c : Bool) → eqb r.flow f ≡ c → (d : Bool) → eqb r.job i ≡ d →
        sum_where (λ p. is_of f i p && ltb p.slot t) rows ≡ sum_where (λ p. is_of f i p) rows →
        (if is_of f i r && ltb r.slot t then r.processors else 0) + sum_where (λ p. is_of f i p && ltb p.slot t) rows
        ≡ (if is_of f i r then r.processors else 0) + sum_where (λ p. is_of f i p) rows
    go false e d k ih = rw e (omega arith)
    go true e false k ih = rw (e, k) (omega arith)
    go true e true k ih =
        let m : max (r.slot + 1) (finish_of rows f) ≤ t = rw e at h in
        let l : ltb r.slot t ≡ true = lt-ltb r.slot t (omega arith) in
        rw (e, k, l) (omega arith)
