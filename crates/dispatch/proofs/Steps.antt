-- One step of each loop of the merge: a cursor set, a flow's rows listed, a slot passed. Assumes nothing.
use mathlib.Core.Path.{◌≡◌, refl, sym, ap, ◌∙◌}
use mathlib.Core.Bool.{Bool, true, false}
use Prim.Native.Nat.{ℕ, zero, suc, ◌+◌, ◌*◌, ◌-◌, ◌≤◌, ◌<◌}
use native.Mathlib.Omega.{arith}
use mathlib.Core.List.{List, [], ◌∷◌, ◌++◌, map, append_assoc, append-nil}
use lib.ListN.{length, get_or, set, drop, length-set, length-append, length-map}
use lib.Seq.{sets, length-sets, get_or-set_same, get_or-set_other}
use lib.Dec.{eqb}
use borrow.Author.Tests.{eqb-true, eqb-false, eq-eqb}
use borrow.Rule.Slice.PartMut.{put_mid}
use Rattle.std.specs.Prelude.{Some, unwrap_or}
use Rattle.rules.specs.Fields.{field}
use Rattle.rules.specs.Walks.{join_from}
use Rattle.rules.specs.Limits.{slots}
use Rattle.rules.specs.Book.{Book, flow_count}
use Rattle.rules.specs.Reading.{book_of}
use Rattle.rules.specs.Rows.{Row, used_in}
use Rattle.rules.specs.Table.{row_length, row_bytes, rows_bytes}
use Rattle.rules.specs.Check.{no_row}
use Rattle.rules.proofs.Laws.Walks.{last_or, join_last}
use Rattle.rules.proofs.Laws.Fields.{sets-append}
use Rattle.rules.proofs.Rows.Rising.{at_in}
use Rattle.rules.proofs.Rows.RowSums.{sum_where-least}
use Rattle.rules.proofs.Tables.TableBytes.{rows-bytes-length}
use Rattle.rules.proofs.Rows.WorkArea.{used_pair}
use Rattle.dispatch.specs.declared.merge.Cursor as code
use Rattle.dispatch.specs.Accepted.{Accepted, accepted_rows}
use Rattle.dispatch.specs.Runs.{due_at, Run, front, RunCopied}
use Rattle.dispatch.specs.declared.accepted.AcceptedTable.{AcceptedTable}
use Rattle.dispatch.specs.Merge.{book_beside, rows_of, InUse, rows_at, rows_in, rows_below, Cursor, CursorStands, CursorAt, Cursors, no_cursor, RowsListed, FlowAsked, SlotAsked}
use Rattle.dispatch.proofs.Listing.{flow-room, slot-left, slot-room}
use Rattle.dispatch.proofs.Runs.{behind, rest_is, run_none, due-drop, sets_rest}
use Rattle.dispatch.proofs.Keeping.{no_rows, keep-none}
use Rattle.dispatch.proofs.Cursors.{is_in, not_in}
use Rattle.dispatch.proofs.Tables.{in_range, row-passes, use-within, due-within, due-row-slot, after_run, run-size, run-bytes}

-- ---- a cursor that stands at a row, where that is the one before the slot
pub cursor_stands : {rows : List Row} {f t at : ℕ} {c : code.Cursor} → CursorStands rows f at c → Cursor rows f t at → CursorAt rows t c
cursor_stands {rows} {f} {t} {c = c} p q =
    let here : Cursor rows c.flow t c.at = rw (p.flow_is, p.at_is) q in
    let due : c.due ≡ unwrap_or (due_at (map row_bytes rows) c.at c.flow) 65535 = rw (p.flow_is, p.at_is) p.due_is in
    record { stands = here; due_is = due }

-- ---- cursors at the first rows
-- those of the flows below n are set
pub record Started (rows : List Row) (n : ℕ) (cursors : List code.Cursor) : Type 0 where
  pub own : (f : ℕ) → f < n → (get_or cursors f no_cursor).flow ≡ f
  pub at : (f : ℕ) → f < n → CursorAt rows 0 (get_or cursors f no_cursor)

pub started_none : (rows : List Row) (cursors : List code.Cursor) → Started rows 0 cursors
started_none rows cursors = record { own = λ f l. absurd (omega arith); at = λ f l. absurd (omega arith) }

module _ (rows : List Row) (n : ℕ) (c : code.Cursor) (cursors : List code.Cursor) (few : n < length cursors) where
  there : get_or (set cursors n c) n no_cursor ≡ c
  there = get_or-set_same cursors n c no_cursor few

  other : (g : ℕ) → (g ≡ n → ⊥) → get_or (set cursors n c) g no_cursor ≡ get_or cursors g no_cursor
  other g ne = get_or-set_other cursors n g c no_cursor ne

  pub started-next : c.flow ≡ n → CursorAt rows 0 c → Started rows n cursors → Started rows (n + 1) (set cursors n c)
  started-next own here p = record {
    own = λ f l. last_or f n (omega arith) (λ e. rw (e, there) own) (λ m. rw (other f (λ e. omega arith)) (p.own f m));
    at = λ f l. last_or f n (omega arith) (λ e. rw (e, there) here) (λ m. rw (other f (λ e. omega arith)) (p.at f m));
  }

  -- ---- one cursor goes on
  pub cursors-moved : (b : Book) (t : ℕ) → c.flow ≡ n → Cursors b rows t n cursors → CursorAt rows (suc t) c → Cursors b rows t (n + 1) (set cursors n c)
  cursors-moved b t own p here = record {
    one_each = length-set cursors n c ∙ p.one_each;
    own = each;
    passed = λ g l. last_or g n (omega arith) (λ e. rw (e, there) here) (λ m. rw (other g (λ e. omega arith)) (p.passed g m));
    ahead = λ g l m. rw (other g (λ e. omega arith)) (p.ahead g (omega arith) m);
  }
    where
      each : (f : ℕ) → f < flow_count b → (get_or (set cursors n c) f no_cursor).flow ≡ f
      each f l = go (eqb f n) refl
        where
          go : (x : Bool) → eqb f n ≡ x → (get_or (set cursors n c) f no_cursor).flow ≡ f
          go true e = let d = eqb-true f n e in rw (d, there) own
          go false e = rw (other f (eqb-false f n e)) (p.own f l)

module _ (b : Book) (rows : List Row) where
  pub started-all : (n : ℕ) (cursors : List code.Cursor) → length cursors ≡ flow_count b → n ≡ flow_count b → Started rows n cursors → Cursors b rows 0 0 cursors
  started-all n cursors long all p = record {
    one_each = long;
    own = λ f l. p.own f (omega arith);
    passed = λ f l. absurd (omega arith);
    ahead = λ f l m. p.at f (omega arith);
  }

  -- all of them went on
  pub cursors-next : (t : ℕ) (cursors : List code.Cursor) → Cursors b rows t (flow_count b) cursors → Cursors b rows (suc t) 0 cursors
  cursors-next t cursors p = record { one_each = p.one_each; own = p.own; passed = λ f l. absurd (omega arith); ahead = λ f l m. p.passed f m }

-- ---- rows listed, one list behind the other
rows-bytes-append : (xs ys : List Row) → rows_bytes (xs ++ ys) ≡ rows_bytes xs ++ rows_bytes ys
unfolding rows_bytes
rows-bytes-append [] ys = refl
rows-bytes-append (x ∷ xs) ys = ap (row_bytes x ++◌) (rows-bytes-append xs ys) ∙ sym (append_assoc (row_bytes x) (rows_bytes xs) (rows_bytes ys))

pub listed-none : (count : ℕ) (out : List ℕ) → RowsListed [] count out out count
unfolding rows_bytes
listed-none count out = record { written = refl; next_is = omega arith }

pub listed-length : {xs : List Row} {n m : ℕ} {out out' : List ℕ} → RowsListed xs n out out' m → length out' ≡ length out
listed-length {xs} {n} {out = out} p = ap length p.written ∙ length-sets out (row_length * n) (rows_bytes xs)

pub listed-append : {xs ys : List Row} {n m k : ℕ} {out mid out' : List ℕ} → RowsListed xs n out mid m → RowsListed ys m mid out' k →
    RowsListed (xs ++ ys) n out out' k
listed-append {xs} {ys} {n} {m} {k} {out} p q =
    let at : row_length * m ≡ row_length * n + length (rows_bytes xs) = omega (arith, p.next_is, rows-bytes-length xs) in
    record {
      written =
          q.written
          ∙ ap (λ (o : List ℕ). sets o (row_length * m) (rows_bytes ys)) p.written
          ∙ ap (λ (j : ℕ). sets (sets out (row_length * n) (rows_bytes xs)) j (rows_bytes ys)) at
          ∙ sets-append out (row_length * n) (rows_bytes xs) (rows_bytes ys)
          ∙ ap (sets out (row_length * n)) (sym (rows-bytes-append xs ys));
      next_is = omega (arith, q.next_is, p.next_is, length-append xs ys);
    }

-- the flow whose turn it is is one of the book, its cursor stands before the slot, and there is room for its rows
-- behind those of the flows before
pub flow_asked : (a : AcceptedTable) {slot f count next : ℕ} {before cursors : List code.Cursor} {out out' : List ℕ} →
    SlotAsked a slot count before (length out) → f < length cursors → Cursors (book_beside a) (rows_of a) slot f cursors →
    RowsListed (rows_in (rows_of a) f slot) count out out' next → FlowAsked a slot next (get_or cursors f no_cursor) (length out')
flow_asked a {slot} {f} {count} {next} {before} {cursors} {out} {out'} p few q listed =
    let among : f < flow_count (book_beside a) = omega (arith, q.one_each) in
    let own = q.own f among in
    record {
      a_slot = p.a_slot;
      a_flow = omega (arith, own);
      cursor = q.ahead f (omega arith) among;
      fits =
          rw own
          (omega (arith, p.fits, flow-room (rows_of a) slot f (flow_count (book_beside a)) among, listed.next_is, listed-length listed));
    }

-- while a row is left a slot is left, and there is room for its rows behind those of the slots before
pub slot_asked : (a : AcceptedTable) {slot count : ℕ} {cursors : List code.Cursor} {out out' : List ℕ} → 6 * length (rows_of a) ≤ length out → slot ≤ slots →
    count < length a.rows.now → Cursors (book_beside a) (rows_of a) slot 0 cursors →
    RowsListed (rows_below (rows_of a) (flow_count (book_beside a)) slot) 0 out out' count → SlotAsked a slot count cursors (length out')
slot_asked a {slot} room upto more cursors listed =
    let all = ap length a.rows_are ∙ length-map (rows_of a) row_bytes in
    let left : slot < slots = slot-left a.book.now.bytes.now a.table.now a.accepted slot upto (omega (arith, all, listed.next_is)) in
    record {
      a_slot = left;
      cursors_are = cursors;
      fits = omega (arith, room, slot-room a.book.now.bytes.now a.table.now a.accepted slot left, listed.next_is, listed-length listed);
    }

-- ---- a flow in a slot
module _ (book table : List ℕ) (accepted : Accepted book table) (f t at : ℕ) (cursor : Cursor (accepted_rows book table) f t at) where
  abbrev held : List (List ℕ)
  held = map row_bytes (accepted_rows book table)

  -- a run that is copied lists the flow's rows in the slot
  pub run-listed : (count n : ℕ) (out out' : List ℕ) → RunCopied (behind held at) f t (behind out (6 * count)) out' n →
      RowsListed (rows_at (accepted_rows book table) t f) count out (put_mid (6 * count) (length out - 6 * count) out out') (count + n)
  run-listed count n out out' r =
      let rows = rows_at (accepted_rows book table) t f in
      let written : out' ≡ sets (drop (6 * count) out) 0 (rows_bytes rows) =
      r.copied
      ∙ ap (λ (o : List ℕ). sets o 0 (front (behind held at) n)) (rest_is out (6 * count))
      ∙ ap (sets (drop (6 * count) out) 0) (run-bytes book table accepted f t at cursor n r.run) in
      record {
        written = sets_rest out (rows_bytes rows) out' (6 * count) (length out - 6 * count) refl written;
        next_is = ap (count +◌) (run-size book table accepted f t at cursor n r.run);
      }

  -- a cursor at another slot has none there
  module _ (not-due : due_at held at f ≡ Some t → ⊥) where
    nothing : Run (behind held at) f t 0
    nothing =
        let here : at + 0 ≡ at = omega arith in
        rw (rest_is held at)
        (record {
          each = run_none _ f t;
          ends = λ d. not-due (ap (λ (n : ℕ). due_at held n f) (sym here) ∙ sym (due-drop held at 0 f) ∙ d);
        })

    pub kept_cursor : Cursor (accepted_rows book table) f (suc t) at
    kept_cursor =
        let here : at + 0 ≡ at = omega arith in
        rw here at (after_run book table accepted f t at cursor 0 nothing)

    none-there : rows_at (accepted_rows book table) t f ≡ []
    none-there = no_rows (rows_at (accepted_rows book table) t f) (sym (run-size book table accepted f t at cursor 0 nothing))

    pub kept-listed : (count : ℕ) (out : List ℕ) → RowsListed (rows_at (accepted_rows book table) t f) count out out count
    kept-listed count out = rw none-there (listed-none count out)

-- ---- a slot that is not in use
module _ (book table : List ℕ) (accepted : Accepted book table) (t : ℕ) (a_slot : t < slots) where
  abbrev rows : List Row
  rows = accepted_rows book table

  -- the pair of a slot in the work area is its use
  pub pair-used : (work : List ℕ) → InUse book table work → field 2 work (2 * t) ≡ used_in rows t
  pair-used work p =
      ap (λ (w : List ℕ). field 2 w (2 * t)) p.used
      ∙ used_pair slots rows work t a_slot (omega (arith, use-within book table accepted t, (in_range book table accepted).processors_most))

  module _ (unused : used_in rows t ≡ 0) where
    no-row : (k : ℕ) → k < length rows → (get_or rows k no_row).slot ≡ t → ⊥
    unfolding used_in
    no-row k l e =
        let p = row-passes book table accepted k l in
        omega (arith, p.takes, unused, sum_where-least (λ r. eqb r.slot t) rows (get_or rows k no_row) (at_in rows k no_row l) (eq-eqb (get_or rows k no_row).slot t e))

    none_in : (f : ℕ) → rows_at rows t f ≡ []
    unfolding rows_at
    none_in f = keep-none (is_in t f) rows (λ k l. not_in t f (get_or rows k no_row) (λ s e. no-row k l s))

    pub no-rows_in : (n : ℕ) → rows_in rows n t ≡ []
    unfolding rows_in join_from
    no-rows_in zero = refl
    no-rows_in (suc n) = join_last (rows_at rows t) n ∙ rw (none_in n) (append-nil (join_from (rows_at rows t) n 0) ∙ no-rows_in n)

    pub cursors-pass : (cursors : List code.Cursor) → Cursors (book_of book) rows t 0 cursors → Cursors (book_of book) rows (suc t) 0 cursors
    cursors-pass cursors p = record {
      one_each = p.one_each;
      own = p.own;
      passed = λ f l. absurd (omega arith);
      ahead = λ f l m.
          let q = p.ahead f (omega arith) m in
          record { stands = kept_cursor book table accepted _ t _ q.stands (not-due _ _); due_is = q.due_is };
    }
      where
        not-due : (f at : ℕ) → due_at (map row_bytes rows) at f ≡ Some t → ⊥
        not-due f at d = no-row at (due-within book table accepted f t at d) (due-row-slot book table accepted f t at d)
