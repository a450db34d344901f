-- Rows put into an output, one after the other. Assumes nothing.
use mathlib.Core.Path.{◌≡◌, refl, sym, ◌∙◌}
use Prim.Native.Nat.{ℕ, zero, suc, ◌+◌, ◌*◌, ◌≤◌, ◌<◌}
use native.Mathlib.Nat.{add-zero}
use native.Mathlib.Omega.{arith}
use mathlib.Core.Bool.{Bool, true, false}
use mathlib.Core.List.{List, [], ◌∷◌, ◌++◌}
use lib.ListN.{length, length-append}
use lib.Seq.{sets, length-sets}
use lib.Dec.{leb}
use borrow.Author.Tests.{le-leb, lt-leb}
use Rattle.std.specs.Prelude.{if◌then◌else◌}
use Rattle.rules.specs.Rows.{Row, row_for}
use Rattle.rules.specs.Table.{row_bytes}
use Rattle.place.specs.Output.{put_row, put_rows, Put}

-- a row
abbrev pub row : ℕ → ℕ → ℕ → ℕ → Row
row t f i n = record { slot = t; flow = f; job = i; processors = n }

pub row_for-some : (t f i n : ℕ) → (n ≡ 0 → ⊥) → row_for t f i n ≡ row t f i n ∷ []
unfolding row_for
row_for-some t f i zero ne = absurd (ne refl)
row_for-some t f i (suc n) ne = refl

pub row_for-none : (t f i n : ℕ) → n ≡ 0 → row_for t f i n ≡ []
unfolding row_for
row_for-none t f i n e = rw e refl

-- a row that fits
pub put_one : (out : List ℕ) (at : ℕ) (r : Row) → at + 6 ≤ length out → Put out at (r ∷ []) (sets out at (row_bytes r)) (at + 6)
unfolding put_rows put_row
put_one out at r l = record { output = rw (le-leb (at + 6) (length out) l) refl; offset = refl }

pub put-fits : (out : List ℕ) (at t f i n : ℕ) → (n ≡ 0 → ⊥) → at + 6 ≤ length out →
    Put out at (row_for t f i n) (sets out at (row_bytes (row t f i n))) (at + 6)
put-fits out at t f i n ne l = rw (row_for-some t f i n ne) (put_one out at (row t f i n) l)

-- rows of which not even one fits
row_too_far : (out : List ℕ) (at : ℕ) (r : Row) → length out < at + 6 → put_row out at r ≡ out
unfolding put_row
row_too_far out at r l = rw (lt-leb (at + 6) (length out) l) refl

rows_too_far : (out : List ℕ) (at : ℕ) (rows : List Row) → length out < at + 6 → put_rows out at rows ≡ out
unfolding put_rows
rows_too_far out at [] l = refl
rows_too_far out at (r ∷ rs) l = rw (row_too_far out at r l) (rows_too_far out (at + 6) rs (omega arith))

pub put-rows_too_far : (out : List ℕ) (at : ℕ) (rows : List Row) → length out < at + 6 → Put out at rows out (at + 6 * length rows)
put-rows_too_far out at rows l = record { output = sym (rows_too_far out at rows l); offset = refl }

pub put_too_far : (out : List ℕ) (at t f i n : ℕ) → (n ≡ 0 → ⊥) → length out < at + 6 → Put out at (row_for t f i n) out (at + 6)
put_too_far out at t f i n ne l = rw (row_for-some t f i n ne) (put-rows_too_far out at (row t f i n ∷ []) l)

-- no row
pub put-none : (out : List ℕ) (at : ℕ) → Put out at [] out at
unfolding put_rows
put-none out at = record { output = refl; offset = sym (add-zero at) }

pub put-nothing : (out : List ℕ) (at t f i n : ℕ) → n ≡ 0 → Put out at (row_for t f i n) out at
put-nothing out at t f i n e = rw (row_for-none t f i n e) (put-none out at)

-- rows after rows
pub put-append : (out : List ℕ) (at : ℕ) (xs ys : List Row) → put_rows out at (xs ++ ys) ≡ put_rows (put_rows out at xs) (at + 6 * length xs) ys
unfolding put_rows
put-append out at [] ys = rw add-zero refl
put-append out at (x ∷ xs) ys =
    let e : at + 6 + 6 * length xs ≡ at + 6 * suc (length xs) = omega arith in
    rw (← e) (put-append (put_row out at x) (at + 6) xs ys)

put-row_length : (out : List ℕ) (at : ℕ) (r : Row) → length (put_row out at r) ≡ length out
unfolding put_row
put-row_length out at r = go (leb (at + 6) (length out))
  where
    go : (b : Bool) → length (if b then sets out at (row_bytes r) else out) ≡ length out
    go true = length-sets out at (row_bytes r)
    go false = refl

pub put-length : (out : List ℕ) (at : ℕ) (rows : List Row) → length (put_rows out at rows) ≡ length out
unfolding put_rows
put-length out at [] = refl
put-length out at (r ∷ rs) = put-length (put_row out at r) (at + 6) rs ∙ put-row_length out at r

-- rows put after rows
pub put-more : (out out' out'' : List ℕ) (at next next' : ℕ) (xs ys : List Row) → Put out at xs out' next → Put out' next ys out'' next' →
    Put out at (xs ++ ys) out'' next'
put-more out out' out'' at next next' xs ys p q =
    record {
      output = q.output ∙ rw (p.output, p.offset) (sym (put-append out at xs ys));
      offset = rw length-append (omega (arith, p.offset, q.offset));
    }

pub put-same-length : (out out' : List ℕ) (at next : ℕ) (rows : List Row) → Put out at rows out' next → length out' ≡ length out
put-same-length out out' at next rows p = rw p.output (put-length out at rows)

-- an output of no bytes
pub no_bytes : (out : List ℕ) → length out ≡ 0 → out ≡ []
no_bytes [] e = refl
no_bytes (x ∷ xs) e = absurd (omega arith)
