-- The cursor of a flow among a table's rows.
-- Rows of a flow stand together, since what stands between two of them is served neither before nor after the flow.
-- So a run from the cursor on that ends has all rows of the flow in the slot: those before the cursor are in earlier
-- slots, and none behind the run is in the slot, or the row at the run's end would be. Behind the run stands the
-- cursor before the next slot. Assumes nothing.
use mathlib.Core.Path.{◌≡◌, refl, sym, ap, ◌∙◌}
use mathlib.Core.Logic.{◌⊎◌, inl, inr}
use mathlib.Core.Bool.{Bool, true, false, ◌&&◌, and-eq-true_iff}
use Prim.Native.Nat.{ℕ, zero, suc, ◌+◌, ◌-◌, ◌≤◌, ◌<◌}
use native.Mathlib.Nat.{not-suc-le-zero}
use native.Mathlib.Omega.{arith}
use mathlib.Core.List.{List, [], ◌∷◌, ◌++◌, append-nil}
use lib.ListN.{length, get_or, take, drop, length-append, length-drop, take-append-drop}
use lib.Seq.{drop-drop, get_or-take, get_or-drop, length-take-le}
use lib.Dec.{eqb}
use borrow.Author.Tests.{eqb-true, eq-eqb}
use Rattle.rules.specs.Book.{Book}
use Rattle.rules.specs.Rows.{Row}
use Rattle.rules.specs.Service.{served_before}
use Rattle.rules.specs.Check.{no_row}
use Rattle.rules.proofs.Laws.Division.{lt-or_ge}
use Rattle.rules.proofs.Rows.Rising.{at_in, Rising}
use Rattle.rules.proofs.Rows.RowOrder.{Before, deadline_of, before-slot}
use Rattle.rules.proofs.Reading.ServiceOrder.{earlier-served, served_irreflexive, served_transitive, served_asymmetric}
use Rattle.dispatch.specs.Merge.{keep_rows, rows_at, Cursor, FirstRow}
use Rattle.dispatch.proofs.Keeping.{keep_append, keep-none, keep_all}

-- ---- rows in rising order, by their indices
pub rising-at : (B : Row → Row → Type 0) (xs : List Row) → Rising B xs → (j k : ℕ) → j < k → k < length xs → B (get_or xs j no_row) (get_or xs k no_row)
unfolding Rising
rising-at B [] h j k l m = absurd (not-suc-le-zero m)
rising-at B (x ∷ xs) h zero zero l m = absurd (omega arith)
rising-at B (x ∷ xs) h zero (suc k) l m = h.0 (get_or xs k no_row) (at_in xs k no_row (omega arith))
rising-at B (x ∷ xs) h (suc j) zero l m = absurd (omega arith)
rising-at B (x ∷ xs) h (suc j) (suc k) l m = rising-at B xs h.1 j k (omega arith) (omega arith)

-- a row that comes before another is of the same flow, or of one that is served before the other's
pub before-flow : (b : Book) (q r : Row) → Before b q r → (q.flow ≡ r.flow) ⊎ (served_before b q.flow r.flow ≡ true)
unfolding Before deadline_of
before-flow b q r (inl d) = inr (earlier-served b q.flow r.flow (inl d))
before-flow b q r (inr (d, inl f)) = inr (earlier-served b q.flow r.flow (inr (d, f)))
before-flow b q r (inr (d, inr (e, s))) = inl e

-- the row is of flow f in slot t
abbrev pub is_in : ℕ → ℕ → Row → Bool
is_in t f r = eqb r.slot t && eqb r.flow f

pub is_in_lem : (t f : ℕ) (r : Row) → r.slot ≡ t → r.flow ≡ f → is_in t f r ≡ true
is_in_lem t f r s w = (and-eq-true_iff (eqb r.slot t) (eqb r.flow f)).1 (eq-eqb r.slot t s, eq-eqb r.flow f w)

pub in_is : (t f : ℕ) (r : Row) → is_in t f r ≡ true → (r.slot ≡ t) × (r.flow ≡ f)
in_is t f r e =
    let w = (and-eq-true_iff (eqb r.slot t) (eqb r.flow f)).0 e in
    (eqb-true r.slot t w.0, eqb-true r.flow f w.1)

pub not_in : (t f : ℕ) (r : Row) → (r.slot ≡ t → r.flow ≡ f → ⊥) → is_in t f r ≡ false
not_in t f r h = go (is_in t f r) refl
  where
    go : (x : Bool) → is_in t f r ≡ x → x ≡ false
    go true e = let w = in_is t f r e in absurd (h w.0 w.1)
    go false e = refl

module _ (b : Book) (rows : List Row) (rising : Rising (Before b) rows) where
  abbrev row : ℕ → Row
  row k = get_or rows k no_row

  -- what stands between two rows of a flow is the flow's
  flow_between : (f j m k : ℕ) → j ≤ m → m ≤ k → k < length rows → (row j).flow ≡ f → (row k).flow ≡ f → (row m).flow ≡ f
  flow_between f j m k jm mk kn ej ek = go (lt-or_ge j m) (lt-or_ge m k)
    where
      served : ((row j).flow ≡ (row m).flow) ⊎ (served_before b (row j).flow (row m).flow ≡ true) →
          ((row m).flow ≡ (row k).flow) ⊎ (served_before b (row m).flow (row k).flow ≡ true) → (row m).flow ≡ f
      served (inl e) o = sym e ∙ ej
      served (inr s) (inl e) = e ∙ ek
      served (inr s) (inr u) = absurd (served_asymmetric b f (row m).flow (rw ej at s) (rw ek at u))

      go : (j < m) ⊎ (m ≤ j) → (m < k) ⊎ (k ≤ m) → (row m).flow ≡ f
      go (inr l) o = let e : m ≡ j = omega arith in rw e ej
      go (inl l) (inr o) = let e : m ≡ k = omega arith in rw e ek
      go (inl l) (inl o) =
          served (before-flow b (row j) (row m) (rising-at (Before b) rows rising j m l (omega arith)))
          (before-flow b (row m) (row k) (rising-at (Before b) rows rising m k o kn))

  -- slots of a flow do not fall
  slot-rises : (f j k : ℕ) → j ≤ k → k < length rows → (row j).flow ≡ f → (row k).flow ≡ f → (row j).slot ≤ (row k).slot
  slot-rises f j k l kn ej ek = go (lt-or_ge j k)
    where
      go : (j < k) ⊎ (k ≤ j) → (row j).slot ≤ (row k).slot
      go (inl m) = before-slot b (row j) (row k) (rising-at (Before b) rows rising j k m kn) (ej ∙ sym ek)
      go (inr m) = let e : j ≡ k = omega arith in omega (arith, ap (λ n. (row n).slot) e)

  -- ---- the first row
  pub first_cursor : (f c : ℕ) → FirstRow b rows f c → Cursor rows f 0 c
  first_cursor f c first = record {
    within = first.within;
    before = λ k l e. absurd (served_irreflexive b f (rw e at (first.earlier k l)));
    after = λ k l m e. omega arith;
    here = here;
  }
    where
      here : (k : ℕ) → c ≤ k → k < length rows → (row k).flow ≡ f → (row c).flow ≡ f
      here k l m e = go (lt-or_ge c k)
        where
          served : ((row c).flow ≡ (row k).flow) ⊎ (served_before b (row c).flow (row k).flow ≡ true) → (row c).flow ≡ f
          served (inl d) = d ∙ e
          served (inr s) = absurd (first.others c (omega arith) (omega arith) (rw e at s))

          go : (c < k) ⊎ (k ≤ c) → (row c).flow ≡ f
          go (inl o) = served (before-flow b (row c) (row k) (rising-at (Before b) rows rising c k o m))
          go (inr o) = let d : c ≡ k = omega arith in rw d e

  -- rows that are served before a flow stand in front of the others
  pub served-down : (f j k : ℕ) → j ≤ k → k < length rows → served_before b (row k).flow f ≡ true → served_before b (row j).flow f ≡ true
  served-down f j k l kn s = go (lt-or_ge j k)
    where
      served : ((row j).flow ≡ (row k).flow) ⊎ (served_before b (row j).flow (row k).flow ≡ true) → served_before b (row j).flow f ≡ true
      served (inl e) = rw e s
      served (inr u) = served_transitive b (row j).flow (row k).flow f u s

      go : (j < k) ⊎ (k ≤ j) → served_before b (row j).flow f ≡ true
      go (inl m) = served (before-flow b (row j) (row k) (rising-at (Before b) rows rising j k m kn))
      go (inr m) = let e : j ≡ k = omega arith in rw e s

  -- ---- rows from the cursor on
  -- what stands from the cursor up to a row of the flow in the slot is of the flow and in the slot too
  module _ (f t c j k : ℕ) (cursor : Cursor rows f t c) (from : c ≤ j) (to : j ≤ k) (within : k < length rows) (slot_is : (row k).slot ≡ t)
      (flow_is : (row k).flow ≡ f) where
    pub gapless-flow : (row j).flow ≡ f
    gapless-flow = flow_between f c j k from to within (cursor.here k (omega arith) within flow_is) flow_is

    pub gapless-slot : (row j).slot ≡ t
    gapless-slot =
        omega (arith, cursor.after j from (omega arith) gapless-flow, slot-rises f j k to within gapless-flow flow_is, slot_is)

  -- ---- a run from the cursor on
  module _ (f t c n : ℕ) (cursor : Cursor rows f t c) (within : c + n ≤ length rows)
      (each-slot : (m : ℕ) → m < n → (row (c + m)).slot ≡ t) (each_flow : (m : ℕ) → m < n → (row (c + m)).flow ≡ f) where
    abbrev these : List Row
    these = take n (drop c rows)

    split : rows ≡ take c rows ++ (these ++ drop (c + n) rows)
    split =
        sym (take-append-drop c rows)
        ∙ ap (take c rows ++◌) (sym (take-append-drop n (drop c rows)) ∙ ap (these ++◌) (drop-drop n c rows))

    these-long : length these ≡ n
    these-long = length-take-le n (drop c rows) (rw (length-drop c rows) (omega arith))

    none_before : keep_rows (is_in t f) (take c rows) ≡ []
    none_before = keep-none (is_in t f) (take c rows) each
      where
        each : (k : ℕ) → k < length (take c rows) → is_in t f (get_or (take c rows) k no_row) ≡ false
        each k l =
            let m : k < c = omega (arith, length-take-le c rows cursor.within) in
            rw (get_or-take c rows k no_row m) (not_in t f (row k) (λ s e. let o = cursor.before k m e in omega (arith, s)))

    all-these : keep_rows (is_in t f) these ≡ these
    all-these = keep_all (is_in t f) these each
      where
        each : (k : ℕ) → k < length these → is_in t f (get_or these k no_row) ≡ true
        each k l =
            let m : k < n = omega (arith, these-long) in
            rw (get_or-take n (drop c rows) k no_row m, get_or-drop c rows k no_row) (is_in_lem t f (row (c + k)) (each-slot k m) (each_flow k m))

    parts : rows_at rows t f ≡ these ++ keep_rows (is_in t f) (drop (c + n) rows)
    unfolding rows_at
    parts =
        ap (keep_rows (is_in t f)) split
        ∙ keep_append (is_in t f) (take c rows) (these ++ drop (c + n) rows)
        ∙ ap (◌++ keep_rows (is_in t f) (these ++ drop (c + n) rows)) none_before
        ∙ keep_append (is_in t f) these (drop (c + n) rows)
        ∙ ap (◌++ keep_rows (is_in t f) (drop (c + n) rows)) all-these

    -- there are at least as many rows of the flow in the slot
    pub run-few : n ≤ length (rows_at rows t f)
    run-few = rw (parts, length-append) (omega (arith, these-long))

    module _ (ends : c + n < length rows → (row (c + n)).slot ≡ t → (row (c + n)).flow ≡ f → ⊥) where
      still-here : (k : ℕ) → c + n ≤ k → k < length rows → (row k).flow ≡ f → (row (c + n)).flow ≡ f
      still-here k l m e = flow_between f c (c + n) k (omega arith) l m (cursor.here k (omega arith) m e) e

      later : (k : ℕ) → c + n ≤ k → k < length rows → (row k).flow ≡ f → suc t ≤ (row k).slot
      later k l m e = go (lt-or_ge t (row k).slot)
        where
          go : (t < (row k).slot) ⊎ ((row k).slot ≤ t) → suc t ≤ (row k).slot
          go (inl o) = omega arith
          go (inr o) =
              let w = still-here k l m e in
              let rises = slot-rises f (c + n) k l m w e in
              let from = cursor.after (c + n) (omega arith) (omega arith) w in
              absurd (ends (omega arith) (omega arith) w)

      none_after : keep_rows (is_in t f) (drop (c + n) rows) ≡ []
      none_after = keep-none (is_in t f) (drop (c + n) rows) each
        where
          each : (k : ℕ) → k < length (drop (c + n) rows) → is_in t f (get_or (drop (c + n) rows) k no_row) ≡ false
          each k l =
              let m : c + n + k < length rows = omega (arith, length-drop (c + n) rows) in
              rw (get_or-drop (c + n) rows k no_row)
              (not_in t f (row (c + n + k)) (λ s e. let o = later (c + n + k) (omega arith) m e in omega (arith, s)))

      pub run-rows : rows_at rows t f ≡ these
      run-rows = parts ∙ ap (these ++◌) none_after ∙ append-nil these

      pub run_length : length (rows_at rows t f) ≡ n
      run_length = ap length run-rows ∙ these-long

      pub run_cursor : Cursor rows f (suc t) (c + n)
      run_cursor = record { within = within; before = before; after = later; here = still-here }
        where
          before : (k : ℕ) → k < c + n → (row k).flow ≡ f → (row k).slot < suc t
          before k l e = go (lt-or_ge k c)
            where
              go : (k < c) ⊎ (c ≤ k) → (row k).slot < suc t
              go (inl m) = let o = cursor.before k m e in omega arith
              go (inr m) = let d : c + (k - c) ≡ k = omega arith in omega (arith, rw d at (each-slot (k - c) (omega arith)))
