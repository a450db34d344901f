-- Rows packed in one number without their slot: what stands in the number is the row, also when stored byte by byte,
-- and a list of such numbers is as many rows. Assumes nothing.
use mathlib.Core.Path.{◌≡◌, refl, sym, ap, ◌∙◌}
use Prim.Native.Nat.{ℕ, zero, suc, ◌+◌, ◌*◌, ◌/◌, ◌%◌, ◌≤◌, ◌<◌}
use native.Mathlib.Nat.{div-one, mod-eq_of_lt}
use native.Mathlib.Numerals.{towards_suc}
use native.Mathlib.Omega.{arith}
use mathlib.Core.List.{List, [], ◌∷◌, ◌++◌}
use lib.ListN.{length, length-append, get_or, set}
use lib.Seq.{sets}
use Rattle.std.specs.Int.{w32, to_le_bytes}
use Rattle.rules.specs.Walks.{join_from}
use Rattle.rules.specs.Fields.{bytes_of}
use Rattle.rules.specs.Table.{row_bytes}
use Rattle.rules.proofs.Laws.Walks.{join_last}
use Rattle.book.proofs.Stores.{row_stores}
use Rattle.place.specs.Output.{Put}
use Rattle.place.specs.Service.{Packs, packed_row, packed_rows}
use Rattle.place.proofs.Output.{put_one, put-more, put-rows_too_far}

-- ---- one row
-- the bytes of a number, the lowest first
bytes_of_packed : (v f j h l : ℕ) → f < 256 → j < 256 → h < 256 → v ≡ f + 256 * j + 65536 * h + 16777216 * l →
    (v % 256 ≡ f) × (v / 256 % 256 ≡ j) × (v / 65536 % 256 ≡ h) × (v / 16777216 ≡ l)
bytes_of_packed v f j h l hf hj hh e =
    let after-flow : v / 256 ≡ j + 256 * h + 65536 * l = omega arith in
    let after-job : v / 65536 ≡ h + 256 * l = omega arith in
    (omega arith, rw after-flow (omega arith), rw after-job (omega arith), omega arith)

pub packed-row : (v f j n : ℕ) → f < 256 → j < 256 → n < 65536 → v ≡ f + 256 * j + 65536 * (n / 256) + 16777216 * (n % 256) → Packs v f j n
unfolding packed_row
packed-row v f j n hf hj hn e t =
    let b = bytes_of_packed v f j (n / 256) (n % 256) hf hj (omega arith) e in
    let processors : 256 * (n / 256) + n % 256 ≡ n = omega arith in
    rw (b.0, b.1, b.2, b.3, processors) refl

-- its bytes, stored one by one
two_stores : (s : List ℕ) (at h l : ℕ) → h < 256 → l < 256 → sets s (at + 4) (bytes_of 2 (256 * h + l)) ≡ set (set s (at + 4) h) (at + 5) l
unfolding bytes_of
two_stores s at h l hh hl =
    let high : (256 * h + l) / 256 ≡ h = omega arith in
    let low : (256 * h + l) % 256 ≡ l = omega arith in
    simp (towards_suc, div-one, high, low, mod-eq_of_lt hh)

four_stores : (s : List ℕ) (at t v : ℕ) → v < 4294967296 →
    set (set (set (set (sets s at (bytes_of 2 t)) (at + 2) (v % 256)) (at + 3) (v / 256 % 256)) (at + 4) (v / 65536 % 256)) (at + 5) (v / 16777216)
    ≡ sets s at (row_bytes (packed_row t v))
unfolding packed_row
four_stores s at t v l =
    sym (two_stores _ at (v / 65536 % 256) (v / 16777216) (omega arith) (omega arith))
    ∙ row_stores s at t (v % 256) (v / 256 % 256) _ (omega arith) (omega arith)

low_bytes : (v : ℕ) → v < 4294967296 → to_le_bytes w32 v ≡ v % 256 ∷ v / 256 % 256 ∷ v / 65536 % 256 ∷ v / 16777216 ∷ []
low_bytes v l =
    let top : v / 16777216 % 256 ≡ v / 16777216 = omega arith in
    rw top refl

stored_low : (s : List ℕ) (at a b c d : ℕ) → sets s (at + 2) (a ∷ b ∷ c ∷ d ∷ []) ≡ set (set (set (set s (at + 2) a) (at + 3) b) (at + 4) c) (at + 5) d
stored_low s at a b c d = simp towards_suc

-- it is put, where it fits, once its slot is written
pub packed-put : (out out' out'' low : List ℕ) (at t v : ℕ) → v < 4294967296 → at + 6 ≤ length out → out' ≡ sets out at (bytes_of 2 t) →
    low ≡ to_le_bytes w32 v → out'' ≡ sets out' (at + 2) low → Put out at (packed_row t v ∷ []) out'' (at + 6)
packed-put out out' out'' low at t v l h e q r =
    let same : out'' ≡ sets out at (row_bytes (packed_row t v)) =
    r ∙ ap (sets out' (at + 2)) (q ∙ low_bytes v l) ∙ stored_low out' at (v % 256) (v / 256 % 256) (v / 65536 % 256) (v / 16777216)
    ∙ ap (λ (s : List ℕ). set (set (set (set s (at + 2) (v % 256)) (at + 3) (v / 256 % 256)) (at + 4) (v / 65536 % 256)) (at + 5) (v / 16777216)) e
    ∙ four_stores out at t v l in
    rw same (put_one out at (packed_row t v) h)

-- ---- the first n of a list
pub packed-rows-none : (t : ℕ) (a : List ℕ) → packed_rows t a 0 ≡ []
unfolding packed_rows join_from
packed-rows-none t a = refl

pub packed-rows_next : (t : ℕ) (a : List ℕ) (n : ℕ) → packed_rows t a (n + 1) ≡ packed_rows t a n ++ (packed_row t (get_or a n 0) ∷ [])
unfolding packed_rows
packed-rows_next t a n =
    let e : n + 1 ≡ suc n = omega arith in
    rw e (join_last _ n)

pub packed-rows-length : (t : ℕ) (a : List ℕ) (n : ℕ) → length (packed_rows t a n) ≡ n
packed-rows-length t a zero = rw (packed-rows-none t a) refl
packed-rows-length t a (suc n) =
    let e : suc n ≡ n + 1 = omega arith in
    rw (e, packed-rows_next t a n, length-append, packed-rows-length t a n) refl

-- put with the next one after them, and where not even one fits
pub packed-rows-put : (t : ℕ) (a : List ℕ) (n : ℕ) (out out' out'' : List ℕ) (at next next' : ℕ) → Put out at (packed_rows t a n) out' next →
    Put out' next (packed_row t (get_or a n 0) ∷ []) out'' next' → Put out at (packed_rows t a (n + 1)) out'' next'
packed-rows-put t a n out out' out'' at next next' put one =
    rw (packed-rows_next t a n) (put-more out out' out'' at next next' (packed_rows t a n) (packed_row t (get_or a n 0) ∷ []) put one)

pub packed-rows_too_far : (t : ℕ) (a : List ℕ) (n : ℕ) (out : List ℕ) (at : ℕ) → length out < at + 6 → Put out at (packed_rows t a n) out (at + 6 * n)
packed-rows_too_far t a n out at l = rw (packed-rows-length t a n) at (put-rows_too_far out at (packed_rows t a n) l)
