-- The order of the dispatch list (02, Req 03): rows by slot, flow number and job.
-- The test of two rows says the order, as in the table's. A row put where it belongs is counted once, so the list has each row as often as the table, as
-- many rows and the same sums. Of two rows that differ in slot, flow or job one comes before the other, so putting rows where they belong one by one
-- gives rising order; rows that rise in the table's order differ so. Assumes nothing.
use mathlib.Core.Path.{◌≡◌, refl, sym, subst}
use mathlib.Core.Logic.{◌⊎◌, inl, inr, ⊎_elim}
use mathlib.Core.Bool.{Bool, true, false, ◌&&◌, ◌||◌, and-eq-true_iff}
use Prim.Native.Nat.{ℕ, suc, ◌+◌, ◌≤◌, ◌<◌}
use native.Mathlib.Nat.{not-suc-le-zero, lt-suc_self}
use native.Mathlib.Omega.{arith}
use mathlib.Core.List.Memᴰ
use mathlib.Core.List.{List, [], ◌∷◌}
use lib.ListN.{length, get_or}
use lib.Dec.{ltb, eqb}
use borrow.Author.Tests.{ltb-true, eqb-true, lt-ltb, eq-eqb}
use Rattle.std.specs.Prelude.{if◌then◌else◌}
use Rattle.rules.specs.Walks.{bit}
use Rattle.rules.specs.Book.{Book}
use Rattle.rules.specs.Rows.{Row, sum_where}
use Rattle.rules.specs.Check.{no_row}
use Rattle.rules.specs.Dispatch.{listed_before, insert_row, in_list_order}
use Rattle.rules.specs.Demands.DispatchList.{same_row, times_in}
use Rattle.rules.proofs.Laws.Division.{lt-or_ge}
use Rattle.rules.proofs.Rows.Rising.{◌∈◌, first_in, Rising, rising-at, rising_unique, Inserts, insert-rising}
use Rattle.rules.proofs.Laws.Lexical.{Lexical, lexical_trans, lexical-rest, lexical-map, lexical-either, less-or-more, less-or-same, less-or-same_test}
use Rattle.rules.proofs.Rows.RowOrder.{Before, before_differs, before_asymmetric}
use Rattle.rules.proofs.Rows.RowSums.{counted}
use Rattle.rules.proofs.Rows.ScheduleRows.{row_ext}

-- ---- the order
-- row q comes before row r
unfoldable pub Listed : Row → Row → Type 0
Listed q r = Lexical q.slot r.slot (Lexical q.flow r.flow (q.job < r.job))

pub listed_trans : (q r s : Row) → Listed q r → Listed r s → Listed q s
unfolding Listed
listed_trans q r s x y = lexical_trans x y (λ x' y'. lexical_trans x' y' (λ l m. omega arith))

pub listed_asymmetric : (q r : Row) → Listed q r → Listed r q → ⊥
unfolding Listed
listed_asymmetric q r x y = let l : q.job < q.job = lexical-rest (lexical-rest (listed_trans q r q x y) refl) refl in omega arith

-- the test says that q comes before r, and it says so wherever that is
pub listed-before : (q r : Row) → listed_before q r ≡ true → Listed q r
unfolding Listed listed_before
listed-before q r e =
    lexical-map (λ x. lexical-map (ltb-true q.job r.job) (less-or-same q.flow r.flow (ltb q.job r.job) x))
    (less-or-same q.slot r.slot (ltb q.flow r.flow || eqb q.flow r.flow && ltb q.job r.job) e)

pub before-listed : (q r : Row) → Listed q r → listed_before q r ≡ true
unfolding Listed listed_before
before-listed q r l =
    less-or-same_test q.slot r.slot (ltb q.flow r.flow || eqb q.flow r.flow && ltb q.job r.job)
    (lexical-map (λ x. less-or-same_test q.flow r.flow (ltb q.job r.job) (lexical-map (lt-ltb q.job r.job) x)) l)

-- of two rows that differ in slot, flow or job one comes before the other
differ-listed : (q r : Row) → (q.flow ≡ r.flow → q.slot ≡ r.slot → q.job ≡ r.job → ⊥) → Listed q r ⊎ Listed r q
unfolding Listed
differ-listed q r differ =
    lexical-either q.slot r.slot (λ s. lexical-either q.flow r.flow (λ f. less-or-more q.job r.job (differ f s)))

-- ---- what is counted of rows
-- a count to which each row adds something of its own is the same of the list
module _ (count : List Row → ℕ) (one : Row → ℕ) (adds : (r : Row) (rs : List Row) → count (r ∷ rs) ≡ one r + count rs) where
  insert-count : (r : Row) (qs : List Row) → count (insert_row r qs) ≡ one r + count qs
  unfolding insert_row
  insert-count r [] = adds r []
  insert-count r (q ∷ qs) = go (listed_before q r) (insert-count r qs)
    where
      go : (t : Bool) → count (insert_row r qs) ≡ one r + count qs → count (if t then q ∷ insert_row r qs else r ∷ q ∷ qs) ≡ one r + count (q ∷ qs)
      go true ih = omega (arith, adds q (insert_row r qs), adds q qs)
      go false ih = adds r (q ∷ qs)

  list_count : (rows : List Row) → count (in_list_order rows) ≡ count rows
  unfolding in_list_order
  list_count [] = refl
  list_count (r ∷ rs) = omega (arith, insert-count r (in_list_order rs), list_count rs, adds r rs)

pub length-in_list_order : (rows : List Row) → length (in_list_order rows) ≡ length rows
length-in_list_order = list_count length (λ r. 1) (λ r rs. omega arith)

pub list-sum : (q : Row → Bool) (rows : List Row) → sum_where q (in_list_order rows) ≡ sum_where q rows
unfolding sum_where
list-sum q = list_count (sum_where q) (counted q) (λ r rs. refl)

times_more : (r q : Row) (qs : List Row) → times_in r (q ∷ qs) ≡ bit (same_row q r) + times_in r qs
unfolding times_in
times_more r q qs = refl

pub list_as_often : (r : Row) (rows : List Row) → times_in r (in_list_order rows) ≡ times_in r rows
list_as_often r = list_count (times_in r) (λ q. bit (same_row q r)) (times_more r)

-- ---- elements: a row is among rows where it is there at least once
same_row_lem : (q r : Row) → same_row q r ≡ true → q ≡ r
same_row_lem q r e =
    let last = (and-eq-true_iff (eqb q.slot r.slot && eqb q.flow r.flow && eqb q.job r.job) (eqb q.processors r.processors)).0 e in
    let job = (and-eq-true_iff (eqb q.slot r.slot && eqb q.flow r.flow) (eqb q.job r.job)).0 last.0 in
    let flow = (and-eq-true_iff (eqb q.slot r.slot) (eqb q.flow r.flow)).0 job.0 in
    row_ext q r (eqb-true q.slot r.slot flow.0) (eqb-true q.flow r.flow flow.1) (eqb-true q.job r.job job.1)
    (eqb-true q.processors r.processors last.1)

row-itself : (r : Row) → same_row r r ≡ true
row-itself r =
    rw (eq-eqb r.slot r.slot refl, eq-eqb r.flow r.flow refl, eq-eqb r.job r.job refl, eq-eqb r.processors r.processors refl) refl

pub times_in_lem : (r : Row) (rows : List Row) → 0 < times_in r rows → r ∈ rows
unfolding times_in
times_in_lem r [] h = absurd (not-suc-le-zero h)
times_in_lem r (q ∷ qs) h = go (same_row q r) refl (times_in_lem r qs) h
  where
    go : (t : Bool) → same_row q r ≡ t → (0 < times_in r qs → r ∈ qs) → 0 < bit t + times_in r qs → r ∈ q ∷ qs
    go true e ih l = rw (same_row_lem q r e) (first_in r qs)
    go false e ih l = Memᴰ.tail (ih (omega arith))

pub in_times : (r : Row) (rows : List Row) → r ∈ rows → 0 < times_in r rows
unfolding times_in
in_times r [] m = absurd (Memᴰ.not-nil m)
in_times r (q ∷ qs) m = go (Memᴰ.cases_cons m) (in_times r qs)
  where
    go : (r ≡ q) ⊎ (r ∈ qs) → (r ∈ qs → 0 < times_in r qs) → 0 < bit (same_row q r) + times_in r qs
    go (inl e) ih = rw (← e, row-itself r) (omega arith)
    go (inr l) ih = omega (arith, ih l)

-- rows as often in one as in the other are in both
as_often_in : (r : Row) (xs ys : List Row) → times_in r xs ≡ times_in r ys → r ∈ xs → r ∈ ys
as_often_in r xs ys e m = times_in_lem r ys (omega (arith, in_times r xs m))

pub list_in : (rows : List Row) (r : Row) → r ∈ in_list_order rows → r ∈ rows
list_in rows r = as_often_in r (in_list_order rows) rows (list_as_often r rows)

pub in_list : (rows : List Row) (r : Row) → r ∈ rows → r ∈ in_list_order rows
in_list rows r = as_often_in r rows (in_list_order rows) (sym (list_as_often r rows))

-- ---- rising order
inserts : Inserts listed_before insert_row
unfolding insert_row
inserts = record { first = λ r. refl; next = λ r q qs. refl }

-- rows that rise in the table's order, listed
pub list-rising : (b : Book) (rows : List Row) → Rising (Before b) rows → Rising Listed (in_list_order rows)
unfolding Rising in_list_order
list-rising b [] h = tt
list-rising b (r ∷ rs) h =
    insert-rising inserts Listed listed_trans listed-before before-listed r (in_list_order rs)
    (λ q m. ⊎_elim inr inl (differ-listed r q (before_differs b r q (h.0 q (list_in rs q m))))) (list-rising b rs h.1)

-- equal lists are of the same rows, since these have one order in a table
pub list_injective : (b : Book) (xs ys : List Row) → Rising (Before b) xs → Rising (Before b) ys → in_list_order xs ≡ in_list_order ys → xs ≡ ys
list_injective b xs ys p q e =
    rising_unique (Before b) (before_asymmetric b) xs ys p q
    (λ r m. list_in ys r (subst (λ l. r ∈ l) e (in_list xs r m)))
    (λ r m. list_in xs r (subst (λ l. r ∈ l) (sym e) (in_list ys r m)))

-- ---- rows in rising order: each comes before the next one, and none is there twice
pub listed_next : (rows : List Row) → Rising Listed rows → (k : ℕ) → suc k < length rows → listed_before (get_or rows k no_row) (get_or rows (suc k) no_row) ≡ true
listed_next rows h k l = before-listed (get_or rows k no_row) (get_or rows (suc k) no_row) (rising-at Listed rows no_row h k (suc k) (lt-suc_self k) l)

pub listed-once : (r : Row) (rows : List Row) → Rising Listed rows → times_in r rows ≤ 1
unfolding Rising times_in
listed-once r [] h = omega arith
listed-once r (q ∷ qs) h = go (same_row q r) refl (lt-or_ge 0 (times_in r qs)) (listed-once r qs h.1)
  where
    go : (t : Bool) → same_row q r ≡ t → (0 < times_in r qs) ⊎ (times_in r qs ≤ 0) → times_in r qs ≤ 1 → bit t + times_in r qs ≤ 1
    go false e o ih = omega arith
    go true e (inr l) ih = omega arith
    go true e (inl l) ih = let x : Listed q q = rw (← same_row_lem q r e) at (h.0 r (times_in_lem r qs l)) in absurd (listed_asymmetric q q x x)
