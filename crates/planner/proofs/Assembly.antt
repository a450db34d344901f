-- A table put together in an output that has room for it: the rows behind the bytes of head and finishes, then the
-- finishes, then the head.
-- Each store replaces a part of the output by one as long, so that in the end the parts stand one after the other.
-- Assumes nothing.
use mathlib.Core.Path.{◌≡◌, refl, sym, ap, ◌∙◌}
use Prim.Native.Nat.{ℕ, suc, ◌+◌, ◌*◌, ◌≤◌, ◌<◌}
use native.Mathlib.Nat.{div-one, mod-eq_of_lt}
use native.Mathlib.Numerals.{towards_suc, add-one}
use native.Mathlib.Omega.{arith}
use mathlib.Core.List.{List, [], ◌∷◌, ◌++◌, append_assoc}
use lib.ListN.{length, take, drop, set, get_or, length-drop}
use Rattle.std.proofs.lemmas.List.{get_or-take}
use lib.Seq.{sets, sets-eq, length-sets, length-take-le, take-add}
use borrow.Author.Tests.{le-leb}
use Rattle.rules.specs.Walks.{join_from}
use Rattle.rules.specs.Fields.{bytes_of}
use Rattle.rules.specs.Book.{Book, flow_count}
use Rattle.rules.specs.Rows.{Row, finish_of}
use Rattle.rules.specs.Table.{table_head, table_length, row_bytes, rows_bytes, table_bytes}
use Rattle.rules.proofs.Laws.Walks.{join-ext, join-snoc}
use Rattle.rules.proofs.Laws.Fields.{bytes-length, join-bytes-length, sets-append}
use Rattle.rules.proofs.Tables.TableBytes.{row-bytes-length, rows-bytes-length}
use Rattle.rules.proofs.Rows.WorkArea.{sets_between}
use Rattle.place.specs.Output.{put_row, put_rows}
use Rattle.planner.specs.Head.{table_head_bytes, finish_bytes}

-- ---- rows
-- rows that all fit are their bytes, stored
pub put-all-fit : (out : List ℕ) (at : ℕ) (rows : List Row) → at + 6 * length rows ≤ length out → put_rows out at rows ≡ sets out at (rows_bytes rows)
unfolding put_rows put_row rows_bytes
put-all-fit out at [] h = refl
put-all-fit out at (r ∷ rs) h =
    let fits : at + 6 ≤ length out = omega arith in
    let kept : length (sets out at (row_bytes r)) ≡ length out = length-sets out at (row_bytes r) in
    rw (le-leb (at + 6) (length out) fits) (
    put-all-fit (sets out at (row_bytes r)) (at + 6) rs (omega arith)
    ∙ ap (λ n. sets (sets out at (row_bytes r)) (at + n) (rows_bytes rs)) (sym (row-bytes-length r))
    ∙ sets-append out at (row_bytes r) (rows_bytes rs))

-- ---- head and finishes
pub head-length : (n processors flows : ℕ) → length (table_head_bytes n processors flows) ≡ 8
unfolding table_head_bytes bytes_of
head-length n processors flows = refl

pub finishes-length : (finishes : List ℕ) (n : ℕ) → length (finish_bytes finishes n) ≡ 2 * n
unfolding finish_bytes
finishes-length finishes n = join-bytes-length (λ f. bytes_of 2 (get_or finishes f 0)) 2 n (λ f l. bytes-length 2 (get_or finishes f 0))

-- length, version, processors and flows, stored in turn
pub head_stores : (s : List ℕ) (n processors flows : ℕ) → flows < 256 →
    set (sets (set (sets s 0 (bytes_of 4 n)) 4 1) 5 (bytes_of 2 processors)) 7 flows ≡ sets s 0 (table_head_bytes n processors flows)
unfolding bytes_of table_head_bytes
head_stores s n processors flows h = simp (towards_suc, div-one, mod-eq_of_lt h)

-- no finish, and one finish more
pub finishes-none : (s finishes : List ℕ) → s ≡ sets s 8 (finish_bytes finishes 0)
unfolding finish_bytes join_from
finishes-none s finishes = refl

pub finishes-next : (s finishes : List ℕ) (n : ℕ) →
    sets (sets s 8 (finish_bytes finishes n)) (8 + 2 * n) (bytes_of 2 (get_or finishes n 0)) ≡ sets s 8 (finish_bytes finishes (n + 1))
unfolding finish_bytes
finishes-next s finishes n =
    rw add-one (
    let e : 0 + n ≡ n = omega arith in
    let more : finish_bytes finishes (suc n) ≡ finish_bytes finishes n ++ bytes_of 2 (get_or finishes n 0) = join-snoc (λ f. bytes_of 2 (get_or finishes f 0)) n 0 ∙ rw e refl in
    ap (λ m. sets (sets s 8 (finish_bytes finishes n)) (8 + m) (bytes_of 2 (get_or finishes n 0))) (sym (finishes-length finishes n))
    ∙ sets-append s 8 (finish_bytes finishes n) (bytes_of 2 (get_or finishes n 0))
    ∙ ap (sets s 8) (sym more))

pub ruleset finishes = (finishes-none, finishes-next)

-- those of a part of an array
pub finishes-taken : (finishes : List ℕ) (n : ℕ) → n ≤ length finishes → finish_bytes (take n finishes) (length (take n finishes)) ≡ finish_bytes finishes n
unfolding finish_bytes
finishes-taken finishes n l =
    let e : length (take n finishes) ≡ n = length-take-le n finishes l in
    rw e (
    join-ext _ _ n 0 (λ k h. let z : 0 + k ≡ k = omega arith in rw z (ap (bytes_of 2) (get_or-take n finishes k 0 h))))

-- ---- the whole table
-- three parts and what is behind them, stored from the last to the first
parts-stored : (s h f r : List ℕ) → length h + length f + length r ≤ length s →
    sets (sets (sets s (length h + length f) r) (length h) f) 0 h ≡ h ++ f ++ r ++ drop (length h + length f + length r) s
parts-stored s h f r l =
    let a = take (length h) s in
    let v = take (length f) (drop (length h) s) in
    let d = drop (length h + length f + length r) s in
    let la : length a ≡ length h = length-take-le (length h) s (omega arith) in
    let lv : length v ≡ length f = length-take-le (length f) (drop (length h) s) (rw length-drop (omega arith)) in
    ap (λ x. sets (sets x (length h) f) 0 h) (sets-eq r s (length h + length f) (omega arith) ∙ ap (λ x. x ++ r ++ d) (take-add (length h) (length f) s) ∙ simp append_assoc)
    ∙ ap (λ x. sets x 0 h) (sets_between a v f (r ++ d) (length h) la lv ∙ simp append_assoc)
    ∙ sets_between [] a h (f ++ (r ++ d)) 0 refl la
    ∙ simp append_assoc

pub finishes_of : (finishes : List ℕ) (b : Book) (rows : List Row) → ((f : ℕ) → f < flow_count b → get_or finishes f 0 ≡ finish_of rows f) →
    finish_bytes finishes (flow_count b) ≡ join_from (λ f. bytes_of 2 (finish_of rows f)) (flow_count b) 0
unfolding finish_bytes
finishes_of finishes b rows e = join-ext _ _ (flow_count b) 0 (λ k l. let z : 0 + k ≡ k = omega arith in rw z (ap (bytes_of 2) (e k l)))

-- rows, finishes and head, stored in an output that has room, are the table; past it the output is as it was
pub table-stored : (out finishes : List ℕ) (b : Book) (rows : List Row) → table_length b rows ≤ length out →
    ((f : ℕ) → f < flow_count b → get_or finishes f 0 ≡ finish_of rows f) →
    sets (sets (put_rows out (table_head b) rows) 8 (finish_bytes finishes (flow_count b))) 0 (table_head_bytes (table_length b rows) b.processors (flow_count b))
    ≡ table_bytes b rows ++ drop (table_length b rows) out
unfolding table_length table_bytes table_head_bytes
table-stored out finishes b rows l e =
    let h = table_head_bytes (table_length b rows) b.processors (flow_count b) in
    let f = finish_bytes finishes (flow_count b) in
    let r = rows_bytes rows in
    let lh : length h ≡ 8 = head-length (table_length b rows) b.processors (flow_count b) in
    let lf : length f ≡ 2 * flow_count b = finishes-length finishes (flow_count b) in
    let lr : length r ≡ 6 * length rows = rows-bytes-length rows in
    let stored = parts-stored out h f r (omega arith) in
    ap (λ x. sets (sets x 8 f) 0 h) (put-all-fit out (table_head b) rows l)
    ∙ rw (lh, lf, lr) at stored
    ∙ ap (λ x. h ++ x ++ r ++ drop (table_length b rows) out) (finishes_of finishes b rows e)
