-- The rows slot by slot, flow by flow, are the list.
-- Both rise by slot, flow and job, and both have the table's rows: a slot's rows by flow number, a flow's rows of a
-- slot in the table's order, which there is by job. So they are equal; and what is listed up to a slot is the front
-- of it. Assumes nothing.
use mathlib.Core.Path.{◌≡◌, refl, sym, ap, ◌∙◌}
use mathlib.Core.Logic.{◌⊎◌, inl, inr}
use Prim.Native.Nat.{ℕ, suc, ◌+◌, ◌-◌, ◌≤◌, ◌<◌}
use native.Mathlib.Omega.{arith}
use mathlib.Core.List.Memᴰ
use mathlib.Core.List.{List, [], ◌∷◌, ◌++◌, append-nil}
use lib.ListN.{length, length-append}
use Rattle.rules.specs.Walks.{join_from}
use Rattle.rules.specs.Limits.{slots}
use Rattle.rules.specs.Book.{Book, flow_count}
use Rattle.rules.specs.Reading.{book_of}
use Rattle.rules.specs.Rows.{Row}
use Rattle.rules.specs.Check.{no_row}
use Rattle.rules.specs.Dispatch.{in_list_order}
use Rattle.rules.proofs.Laws.Division.{lt-or_ge}
use Rattle.rules.proofs.Laws.Walks.{join_last, join-split}
use Rattle.rules.proofs.Rows.Rising.{◌∈◌, first_in, in-at, join_in, in_join, Rising, rising_join, rising_unique}
use Rattle.rules.proofs.Laws.Lexical.{Lexical, lexical-rest}
use Rattle.rules.proofs.Rows.RowOrder.{Before, before-same_flow}
use Rattle.rules.proofs.Rows.ListOrder as order
use Rattle.rules.proofs.Rows.ListOrder.{listed_asymmetric, list_in, in_list, length-in_list_order, list-rising}
use Rattle.dispatch.specs.Accepted.{Accepted, accepted_rows}
use Rattle.dispatch.specs.Merge.{keep_rows, rows_at, rows_in, rows_below}
use Rattle.dispatch.proofs.Keeping.{no_rows, keep_in, in_keep, keep-rising}
use Rattle.dispatch.proofs.Cursors.{is_in, is_in_lem, in_is}
use Rattle.dispatch.proofs.Tables.{row-passes, rows-rising}

-- ---- rows of one flow in one slot rise by job
rising-map : (B C : Row → Row → Type 0) (xs : List Row) → ((q r : Row) → q ∈ xs → r ∈ xs → B q r → C q r) → Rising B xs → Rising C xs
unfolding Rising
rising-map B C [] h p = tt
rising-map B C (x ∷ xs) h p = (
  λ y m. h x y (first_in x xs) (Memᴰ.tail m) (p.0 y m),
  rising-map B C xs (λ q r m n. h q r (Memᴰ.tail m) (Memᴰ.tail n)) p.1,
)

module _ (b : Book) (rows : List Row) (rising : Rising (Before b) rows) where
  at_slot : (t f : ℕ) (r : Row) → r ∈ rows_at rows t f → (r.slot ≡ t) × (r.flow ≡ f)
  unfolding rows_at
  at_slot t f r m = in_is t f r (keep_in (is_in t f) rows r m).1

  flow-rising : (t f : ℕ) → Rising order.Listed (rows_at rows t f)
  unfolding rows_at order.Listed
  flow-rising t f = rising-map (Before b) order.Listed (keep_rows (is_in t f) rows) by-job (keep-rising (is_in t f) (Before b) rows rising)
    where
      by-job : (q r : Row) → q ∈ keep_rows (is_in t f) rows → r ∈ keep_rows (is_in t f) rows → Before b q r →
          Lexical q.slot r.slot (Lexical q.flow r.flow (q.job < r.job))
      by-job q r m n x =
          let u = in_is t f q (keep_in (is_in t f) rows q m).1 in
          let v = in_is t f r (keep_in (is_in t f) rows r n).1 in
          let s : q.slot ≡ r.slot = u.0 ∙ sym v.0 in
          let w : q.flow ≡ r.flow = u.1 ∙ sym v.1 in
          inr (s, inr (w, lexical-rest (before-same_flow b q r x w) s))

  -- ---- the rows of a slot by flow, and the slots one after the other
  in-slot : (n t : ℕ) (r : Row) → r ∈ rows_in rows n t → (f : ℕ) × (f < n) × (r.slot ≡ t) × (r.flow ≡ f)
  unfolding rows_in
  in-slot n t r m = let w = join_in (rows_at rows t) n m in let e = at_slot t w.0 r w.2 in (w.0, w.1, e.0, e.1)

  slot-rising : (n t : ℕ) → Rising order.Listed (rows_in rows n t)
  unfolding rows_in order.Listed
  slot-rising n t = rising_join order.Listed (rows_at rows t) n (λ f l. flow-rising t f) across
    where
      across : (f g : ℕ) → f < g → g < n → (q r : Row) → q ∈ rows_at rows t f → r ∈ rows_at rows t g →
          Lexical q.slot r.slot (Lexical q.flow r.flow (q.job < r.job))
      across f g l m q r x y = let u = at_slot t f q x in let v = at_slot t g r y in inr (u.0 ∙ sym v.0, inl (omega (arith, u.1, v.1)))

  below-rising : (n t : ℕ) → Rising order.Listed (rows_below rows n t)
  unfolding rows_below order.Listed
  below-rising n t = rising_join order.Listed (rows_in rows n) t (λ u l. slot-rising n u) across
    where
      across : (u v : ℕ) → u < v → v < t → (q r : Row) → q ∈ rows_in rows n u → r ∈ rows_in rows n v →
          Lexical q.slot r.slot (Lexical q.flow r.flow (q.job < r.job))
      across u v l m q r x y = let p = in-slot n u q x in let s = in-slot n v r y in inl (omega (arith, p.2, s.2))

  below_in : (n t : ℕ) (r : Row) → r ∈ rows_below rows n t → r ∈ rows
  unfolding rows_below rows_in rows_at
  below_in n t r m =
      let u = join_in (rows_in rows n) t m in
      let v = join_in (rows_at rows u.0) n u.2 in
      (keep_in (is_in u.0 v.0) rows r v.2).0

  in-below : (n t : ℕ) (r : Row) → r ∈ rows → r.flow < n → r.slot < t → r ∈ rows_below rows n t
  unfolding rows_below rows_in rows_at
  in-below n t r m f s =
      in_join (rows_in rows n) t r.slot s
      (in_join (rows_at rows r.slot) n r.flow f (in_keep (is_in r.slot r.flow) rows r m (is_in_lem r.slot r.flow r refl refl)))

-- ---- an accepted table
module _ (book table : List ℕ) (accepted : Accepted book table) where
  abbrev b : Book
  b = book_of book

  abbrev rows : List Row
  rows = accepted_rows book table

  abbrev flows : ℕ
  flows = flow_count b

  -- the slots one after the other are the list
  pub all_listed : rows_below rows flows slots ≡ in_list_order rows
  all_listed =
      rising_unique order.Listed listed_asymmetric (rows_below rows flows slots) (in_list_order rows)
      (below-rising b rows (rows-rising book table accepted) flows slots)
      (list-rising b rows (rows-rising book table accepted))
      (λ r m. in_list rows r (below_in b rows (rows-rising book table accepted) flows slots r m))
      (λ r m. inside r (list_in rows r m))
    where
      inside : (r : Row) → r ∈ rows → r ∈ rows_below rows flows slots
      inside r m =
          let w = in-at no_row m in
          let p = row-passes book table accepted w.0 w.1 in
          in-below b rows (rows-rising book table accepted) flows slots r m
          (omega (arith, p.flow_in_is, ap (λ (x : Row). x.flow) w.2))
          (omega (arith, p.slot_in, ap (λ (x : Row). x.slot) w.2))

  -- up to a slot they are the front of it
  front : (t : ℕ) → t ≤ slots → in_list_order rows ≡ rows_below rows flows t ++ join_from (rows_in rows flows) (slots - t) t
  unfolding rows_below
  front t l =
      let e : t + (slots - t) ≡ slots = omega arith in
      let z : 0 + t ≡ t = omega arith in
      sym all_listed
      ∙ ap (λ (n : ℕ). join_from (rows_in rows flows) n 0) (sym e)
      ∙ join-split (rows_in rows flows) t (slots - t) 0
      ∙ ap (λ (n : ℕ). join_from (rows_in rows flows) t 0 ++ join_from (rows_in rows flows) (slots - t) n) z

  front_length : (t : ℕ) → t ≤ slots → length (rows_below rows flows t) ≤ length rows
  front_length t l =
      omega (arith, ap length (front t l) ∙ length-append (rows_below rows flows t) (join_from (rows_in rows flows) (slots - t) t), length-in_list_order rows)

  -- a front as long as the list is the list
  pub whole-front : (t : ℕ) → t ≤ slots → length rows ≤ length (rows_below rows flows t) → rows_below rows flows t ≡ in_list_order rows
  whole-front t l h =
      let e = ap length (front t l) ∙ length-append (rows_below rows flows t) (join_from (rows_in rows flows) (slots - t) t) in
      let z : length (join_from (rows_in rows flows) (slots - t) t) ≡ 0 = omega (arith, e, length-in_list_order rows) in
      sym (append-nil (rows_below rows flows t)) ∙ ap (rows_below rows flows t ++◌) (sym (no_rows (join_from (rows_in rows flows) (slots - t) t) z)) ∙ sym (front t l)

  -- while the list is longer, a slot is left
  pub slot-left : (t : ℕ) → t ≤ slots → length (rows_below rows flows t) < length rows → t < slots
  slot-left t l h = go (lt-or_ge t slots)
    where
      go : (t < slots) ⊎ (slots ≤ t) → t < slots
      go (inl m) = m
      go (inr m) =
          let e : t ≡ slots = omega arith in
          absurd (omega (arith, ap (λ (n : ℕ). length (rows_below rows flows n)) e ∙ ap length all_listed ∙ length-in_list_order rows))

  pub below_next : (t : ℕ) → rows_below rows flows (suc t) ≡ rows_below rows flows t ++ rows_in rows flows t
  unfolding rows_below
  below_next t = join_last (rows_in rows flows) t

  -- there is room for a slot's rows behind those of the slots before
  pub slot-room : (t : ℕ) → t < slots → length (rows_below rows flows t) + length (rows_in rows flows t) ≤ length rows
  slot-room t l = omega (arith, front_length (suc t) l, ap length (below_next t) ∙ length-append (rows_below rows flows t) (rows_in rows flows t))

-- and in the slot for a flow's rows behind those of the flows before
pub slot_next : (rows : List Row) (t f : ℕ) → rows_in rows (suc f) t ≡ rows_in rows f t ++ rows_at rows t f
unfolding rows_in
slot_next rows t f = join_last (rows_at rows t) f

slot-front : (rows : List Row) (t f n : ℕ) → f < n → rows_in rows n t ≡ rows_in rows (suc f) t ++ join_from (rows_at rows t) (n - suc f) (suc f)
unfolding rows_in
slot-front rows t f n l =
    let e : suc f + (n - suc f) ≡ n = omega arith in
    let z : 0 + suc f ≡ suc f = omega arith in
    ap (λ (k : ℕ). join_from (rows_at rows t) k 0) (sym e)
    ∙ join-split (rows_at rows t) (suc f) (n - suc f) 0
    ∙ ap (λ (k : ℕ). join_from (rows_at rows t) (suc f) 0 ++ join_from (rows_at rows t) (n - suc f) k) z

pub flow-room : (rows : List Row) (t f n : ℕ) → f < n → length (rows_in rows f t) + length (rows_at rows t f) ≤ length (rows_in rows n t)
flow-room rows t f n l =
    omega (
      arith,
      ap length (slot-front rows t f n l) ∙ length-append (rows_in rows (suc f) t) (join_from (rows_at rows t) (n - suc f) (suc f)),
      ap length (slot_next rows t f) ∙ length-append (rows_in rows f t) (rows_at rows t f),
    )
