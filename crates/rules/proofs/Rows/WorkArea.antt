-- Laws of the work area: two bytes per slot hold the use of rows. A pair reads as the use of its slot, and rows in one slot change its pair
-- alone. The number of slots is a parameter throughout. Assumes nothing.
use mathlib.Core.Path.{◌≡◌, refl, sym, ap, ◌∙◌}
use Prim.Native.Nat.{ℕ, zero, suc, ◌+◌, ◌*◌, ◌-◌, ◌≤◌, ◌<◌}
use native.Mathlib.Nat.{zero-add}
use native.Mathlib.Omega.{arith}
use mathlib.Core.List.{List, [], ◌∷◌, ◌++◌, append_assoc}
use lib.ListN.{length, take, drop, replicate, length-append, length-drop, length-replicate}
use lib.Seq.{sets, sets-eq, take_at, drop_at}
use borrow.Author.Tests.{eq-eqb, ne_eqb}
use Rattle.rules.specs.Walks.{join_from}
use Rattle.rules.specs.Fields.{field, bytes_of}
use Rattle.rules.specs.Rows.{Row, sum_where, used_in, work_used, work_zero}
use Rattle.rules.proofs.Laws.Sums.{sum_ext, sum_const}
use Rattle.rules.proofs.Rows.FlowRows.{used-append}
use Rattle.rules.proofs.Laws.Walks.{join-ext, join-length, join-split}
use Rattle.rules.proofs.Laws.Fields.{bytes-length, field_between}

-- the pairs of n slots from s on, with g t in slot t
abbrev pub pairs : (ℕ → ℕ) → ℕ → ℕ → List ℕ
pairs g n s = join_from (λ t. bytes_of 2 (g t)) n s

pub pairs-length : (g : ℕ → ℕ) (n s : ℕ) → length (pairs g n s) ≡ 2 * n
pairs-length g n s =
    join-length (λ t. bytes_of 2 (g t)) n s
    ∙ sum_ext (λ k. length (bytes_of 2 (g (s + k)))) (λ k. 2) n (λ k l. bytes-length 2 (g (s + k)))
    ∙ sum_const 2 n

-- a slot's pair between those before it and those after it
pub pairs-around : (g : ℕ → ℕ) (n t : ℕ) → t < n → pairs g n 0 ≡ pairs g t 0 ++ bytes_of 2 (g t) ++ pairs g (n - suc t) (suc t)
unfolding join_from
pairs-around g n t l =
    let e : n ≡ t + suc (n - suc t) = omega arith in
    let o : 0 + t ≡ t = zero-add t in
    let u : t + 1 ≡ suc t = omega arith in
    ap (λ m. pairs g m 0) e ∙ join-split (λ k. bytes_of 2 (g k)) t (suc (n - suc t)) 0 ∙ rw (o, u, append_assoc) refl

module _ (n : ℕ) (rows : List Row) (area : List ℕ) where
  pub used-length : 2 * n ≤ length area → length (work_used n rows area) ≡ length area
  unfolding work_used
  used-length l = rw (length-append, length-drop, pairs-length (used_in rows) n 0) (omega arith)

  -- past the slots nothing is touched
  pub used-rest : drop (2 * n) (work_used n rows area) ≡ drop (2 * n) area
  unfolding work_used
  used-rest = drop_at (pairs (used_in rows) n 0) (drop (2 * n) area) (2 * n) (pairs-length (used_in rows) n 0)

  pub used-cleared : work_zero n (work_used n rows area) ≡ work_zero n area
  unfolding work_zero
  used-cleared = rw used-rest refl

  around : (t : ℕ) → t < n → work_used n rows area ≡ pairs (used_in rows) t 0 ++ bytes_of 2 (used_in rows t) ++ (pairs (used_in rows) (n - suc t) (suc t) ++ drop (2 * n) area)
  unfolding work_used
  around t l = ap (◌++ drop (2 * n) area) (pairs-around (used_in rows) n t l) ∙ simp append_assoc

  -- a pair reads as the use of its slot
  pub used_pair : (t : ℕ) → t < n → used_in rows t < 65536 → field 2 (work_used n rows area) (2 * t) ≡ used_in rows t
  used_pair t l h =
      rw (around t l, ← pairs-length (used_in rows) t 0) (field_between 2 (used_in rows t) (pairs (used_in rows) t 0) (pairs (used_in rows) (n - suc t) (suc t) ++ drop (2 * n) area) h)

zeros : (m s : ℕ) → join_from (λ t. bytes_of 2 0) m s ≡ replicate (2 * m) 0
unfolding join_from bytes_of
zeros zero s = refl
zeros (suc m) s =
    let e : 2 * suc m ≡ suc (suc (2 * m)) = omega arith in
    rw (zeros m (s + 1), e) refl

-- without rows every pair is zero
pub used-none : (n : ℕ) (area : List ℕ) → work_used n [] area ≡ work_zero n area
unfolding work_used work_zero used_in sum_where
used-none n area = ap (◌++ drop (2 * n) area) (zeros n 0)

-- three lists in a row, with the middle one replaced
pub sets_between : (a v w c : List ℕ) (at : ℕ) → length a ≡ at → length v ≡ length w → sets (a ++ v ++ c) at w ≡ a ++ w ++ c
sets_between a v w c at e d =
    let f : at + length w ≤ length (a ++ v ++ c) = rw (length-append, length-append) (omega arith) in
    let g : length (a ++ v) ≡ at + length w = rw length-append (omega arith) in
    let h : take at (a ++ v ++ c) ≡ a = rw append_assoc (take_at a (v ++ c) at e) in
    let k : drop (at + length w) (a ++ v ++ c) ≡ c = drop_at (a ++ v) c (at + length w) g in
    sets-eq w (a ++ v ++ c) at f ∙ rw (h, k) refl

-- rows that add x in slot t, and nothing in another, change the pair of slot t
pub used-more : (n t x : ℕ) (rows more : List Row) (area : List ℕ) → t < n → used_in more t ≡ x → ((u : ℕ) → (u ≡ t → ⊥) → used_in more u ≡ 0) →
    work_used n (rows ++ more) area ≡ sets (work_used n rows area) (2 * t) (bytes_of 2 (used_in rows t + x))
used-more n t x rows more area l e z =
    let same : (u : ℕ) → (u ≡ t → ⊥) → used_in (rows ++ more) u ≡ used_in rows u = λ u ne. omega (arith, used-append rows more u, z u ne) in
    let here : used_in (rows ++ more) t ≡ used_in rows t + x = omega (arith, used-append rows more t, e) in
    let first : pairs (used_in (rows ++ more)) t 0 ≡ pairs (used_in rows) t 0 = join-ext _ _ t 0 (λ k m. ap (bytes_of 2) (same (0 + k) (λ (q : 0 + k ≡ t). omega arith))) in
    let last : pairs (used_in (rows ++ more)) (n - suc t) (suc t) ≡ pairs (used_in rows) (n - suc t) (suc t) = join-ext _ _ (n - suc t) (suc t) (λ k m. ap (bytes_of 2) (same (suc t + k) (λ (q : suc t + k ≡ t). omega arith))) in
    around n (rows ++ more) area t l
    ∙ rw (first, last, here) refl
    ∙ sym (sets_between (pairs (used_in rows) t 0) (bytes_of 2 (used_in rows t)) (bytes_of 2 (used_in rows t + x)) (pairs (used_in rows) (n - suc t) (suc t) ++ drop (2 * n) area) (2 * t) (pairs-length (used_in rows) t 0) (bytes-length 2 (used_in rows t) ∙ sym (bytes-length 2 (used_in rows t + x))))
    ∙ ap (λ y. sets y (2 * t) (bytes_of 2 (used_in rows t + x))) (sym (around n rows area t l))

row-used : (r : Row) → used_in (r ∷ []) r.slot ≡ r.processors
unfolding used_in sum_where
row-used r = rw (eq-eqb r.slot r.slot refl) (omega arith)

row-not-used : (r : Row) (u : ℕ) → (u ≡ r.slot → ⊥) → used_in (r ∷ []) u ≡ 0
unfolding used_in sum_where
row-not-used r u ne = rw (ne_eqb r.slot u (λ q. ne (sym q))) (omega arith)

-- one row more: the pair of its slot holds its processors too
pub used-row : (n : ℕ) (rows : List Row) (r : Row) (area : List ℕ) → r.slot < n →
    work_used n (rows ++ r ∷ []) area ≡ sets (work_used n rows area) (2 * r.slot) (bytes_of 2 (used_in rows r.slot + r.processors))
used-row n rows r area l = used-more n r.slot r.processors rows (r ∷ []) area l (row-used r) (row-not-used r)

-- ---- a cleared area: clearing it again changes nothing, and rows counted over it are counted over the area that it was
pub cleared-past : (n : ℕ) (area : List ℕ) → drop (2 * n) (work_zero n area) ≡ drop (2 * n) area
unfolding work_zero
cleared-past n area = drop_at (replicate (2 * n) 0) (drop (2 * n) area) (2 * n) (length-replicate (2 * n) 0)

pub cleared-twice : (n : ℕ) (area : List ℕ) → work_zero n (work_zero n area) ≡ work_zero n area
unfolding work_zero
cleared-twice n area = ap (λ (l : List ℕ). replicate (2 * n) 0 ++ l) (cleared-past n area)

pub used-over-cleared : (n : ℕ) (rows : List Row) (area : List ℕ) → work_used n rows (work_zero n area) ≡ work_used n rows area
unfolding work_used
used-over-cleared n rows area = ap (λ (l : List ℕ). pairs (used_in rows) n 0 ++ l) (cleared-past n area)

pub cleared-length : (n : ℕ) (area : List ℕ) → 2 * n ≤ length area → length (work_zero n area) ≡ length area
unfolding work_zero
cleared-length n area h = simp (length-append, length-drop, length-replicate) (omega arith)
