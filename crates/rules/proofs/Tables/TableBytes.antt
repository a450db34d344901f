-- The bytes of a table, written and read back.
-- A table is its head, its finishes and its rows, one after the other; each stands where the check reads it. What is read of bytes that pass
-- the test of the head gives the same bytes when it is written again. Assumes nothing.
use mathlib.Core.Path.{◌≡◌, refl, sym, subst, ◌∙◌}
use Prim.Native.Nat.{ℕ, zero, suc, ◌+◌, ◌*◌, ◌-◌, ◌/◌, ◌%◌, ◌^◌, ◌≤◌, ◌<◌}
use mathlib.Core.Bool.{false, not}
use mathlib.Core.List.Memᴰ
use mathlib.Core.List.{List, [], ◌∷◌, ◌++◌, append-nil}
use native.Mathlib.Omega.{arith}
use lib.ListN.{length, length-append}
use lib.Dec.{eqb}
use borrow.Author.Tests.{ltb-false, eqb-true, le-ltb, eq-eqb, not-false}
use Rattle.rules.specs.Verdicts.{Pass}
use Rattle.rules.specs.Walks.{list_from, join_from}
use Rattle.rules.specs.Fields.{byte, field, bytes_of, AllBytes}
use Rattle.rules.specs.Answers.{none}
use Rattle.rules.specs.Book.{Book, flow_count, InRange}
use Rattle.rules.specs.Rows.{Row, finish_of}
use Rattle.rules.specs.Table.{table_head, row_length, table_length, row_bytes, rows_bytes, table_bytes, finish_in, row_at}
use Rattle.rules.specs.Check.{no_row, table_rows, table_head_fault}
use Rattle.rules.proofs.Laws.Walks.{length-list_from, list-at-zero}
use Rattle.rules.proofs.Laws.Fields.{bytes-length, field_lt, StandsAt, stands-whole, stands-first, stands_after, stands_empty, stands-append, stands-equal, field-written, byte-written, field-read, byte-read, join-bytes-length, join_stands, stands_join-at}
use Rattle.rules.proofs.Reading.Passing.{test-passed, neither_true}
use Rattle.rules.proofs.Rows.Rising.{◌∈◌, first_in, in-at}

-- ---- one row
-- the fields hold the row
pub record RowFits (r : Row) : Type 0 where
  pub slot_fits : r.slot < 256 ^ 2
  pub flow_fits : r.flow < 256
  pub job_fits : r.job < 256
  pub processors_fit : r.processors < 256 ^ 2

pub row-bytes-length : (r : Row) → length (row_bytes r) ≡ row_length
unfolding row_bytes bytes_of
row-bytes-length r = refl

row_written : (s : List ℕ) (at : ℕ) (r : Row) → RowFits r → StandsAt s at (row_bytes r) → row_at s at ≡ r
unfolding row_bytes row_at
row_written s at r f whole =
    let slot = bytes_of 2 r.slot in
    let flow = bytes_of 1 r.flow in
    let job = bytes_of 1 r.job in
    let to-job = stands-first s at (slot ++ flow ++ job) (bytes_of 2 r.processors) whole in
    let to-flow = stands-first s at (slot ++ flow) job to-job in
    let slot_is = field-written 2 r.slot s at f.slot_fits (stands-first s at slot flow to-flow) in
    let flow_is = byte-written r.flow s (at + 2) f.flow_fits (stands_after s at 2 slot flow (bytes-length 2 r.slot) to-flow) in
    let job_is = byte-written r.job s (at + 3) f.job_fits (stands_after s at 3 (slot ++ flow) job (simp (length-append, bytes-length)) to-job) in
    let processors_are =
    field-written 2 r.processors s (at + 4) f.processors_fit
    (stands_after s at 4 (slot ++ flow ++ job) (bytes_of 2 r.processors) (simp (length-append, bytes-length)) whole) in
    rw (slot_is, flow_is, job_is, processors_are) refl

row_read : (s : List ℕ) (at : ℕ) → AllBytes s → StandsAt s at (row_bytes (row_at s at))
unfolding row_bytes row_at
row_read s at h =
    stands-append s at 4 _ _ (simp (length-append, bytes-length))
    (stands-append s at 3 _ _ (simp (length-append, bytes-length))
    (stands-append s at 2 _ _ (bytes-length 2 (field 2 s at)) (field-read 2 s at h) (byte-read s (at + 2) h))
    (byte-read s (at + 3) h))
    (field-read 2 s (at + 4) h)

-- ---- the rows
pub rows-bytes-length : (rows : List Row) → length (rows_bytes rows) ≡ row_length * length rows
unfolding rows_bytes
rows-bytes-length [] = refl
rows-bytes-length (r ∷ rs) = length-append (row_bytes r) (rows_bytes rs) ∙ omega (arith, row-bytes-length r, rows-bytes-length rs)

pub rows_written : (s : List ℕ) (at k : ℕ) (rows : List Row) → ((r : Row) → r ∈ rows → RowFits r) → StandsAt s (at + row_length * k) (rows_bytes rows) →
    list_from (λ j. row_at s (at + row_length * j)) (length rows) k ≡ rows
unfolding rows_bytes list_from
rows_written s at k [] fits h = refl
rows_written s at k (r ∷ rs) fits h =
    let e : at + row_length * k + row_length ≡ at + row_length * (k + 1) = omega arith in
    let rest = rw e at (stands_after s (at + row_length * k) row_length (row_bytes r) (rows_bytes rs) (row-bytes-length r) h) in
    rw (
      row_written s (at + row_length * k) r (fits r (first_in r rs)) (stands-first s (at + row_length * k) (row_bytes r) (rows_bytes rs) h),
      rows_written s at (k + 1) rs (λ x m. fits x (Memᴰ.tail m)) rest,
    ) refl

pub rows-read : (s : List ℕ) (at n k : ℕ) → AllBytes s → StandsAt s (at + row_length * k) (rows_bytes (list_from (λ j. row_at s (at + row_length * j)) n k))
unfolding rows_bytes list_from
rows-read s at zero k h = stands_empty s (at + row_length * k)
rows-read s at (suc n) k h =
    let e : at + row_length * k + row_length ≡ at + row_length * (k + 1) = omega arith in
    stands-append s (at + row_length * k) row_length (row_bytes (row_at s (at + row_length * k)))
    (rows_bytes (list_from (λ j. row_at s (at + row_length * j)) n (k + 1)))
    (row-bytes-length (row_at s (at + row_length * k))) (row_read s (at + row_length * k) h) (rw e (rows-read s at n (k + 1) h))

-- ---- the whole table
-- where the parts of a table stand
record TableStands (b : Book) (rows : List Row) (s : List ℕ) : Type 0 where
  length_stands : StandsAt s 0 (bytes_of 4 (table_length b rows))
  version_stands : StandsAt s 4 (bytes_of 1 1)
  processors_stand : StandsAt s 5 (bytes_of 2 b.processors)
  flows_stand : StandsAt s 7 (bytes_of 1 (flow_count b))
  finish_stands : (f : ℕ) → f < flow_count b → StandsAt s (8 + 2 * f) (bytes_of 2 (finish_of rows f))
  rows_stand : StandsAt s (table_head b) (rows_bytes rows)

module _ (b : Book) (rows : List Row) where
  abbrev up_to_version : List ℕ
  up_to_version = bytes_of 4 (table_length b rows) ++ bytes_of 1 1

  abbrev up_to_processors : List ℕ
  up_to_processors = up_to_version ++ bytes_of 2 b.processors

  abbrev up_to_flows : List ℕ
  up_to_flows = up_to_processors ++ bytes_of 1 (flow_count b)

  abbrev finishes : List ℕ
  finishes = join_from (λ f. bytes_of 2 (finish_of rows f)) (flow_count b) 0

  abbrev up_to_finishes : List ℕ
  up_to_finishes = up_to_flows ++ finishes

  up_to-version : length up_to_version ≡ 5
  up_to-version = simp (length-append, bytes-length)

  up_to-processors : length up_to_processors ≡ 7
  up_to-processors = simp (length-append, bytes-length)

  up_to-flows : length up_to_flows ≡ 8
  up_to-flows = simp (length-append, bytes-length)

  each-finish : (f : ℕ) → f < flow_count b → length (bytes_of 2 (finish_of rows f)) ≡ 2
  each-finish f l = bytes-length 2 (finish_of rows f)

  up_to-finishes : length up_to_finishes ≡ table_head b
  up_to-finishes =
      length-append up_to_flows finishes
      ∙ omega (arith, up_to-flows, join-bytes-length (λ f. bytes_of 2 (finish_of rows f)) 2 (flow_count b) each-finish)

  pub table-bytes-length : length (table_bytes b rows) ≡ table_length b rows
  unfolding table_bytes table_length
  table-bytes-length = length-append up_to_finishes (rows_bytes rows) ∙ omega (arith, up_to-finishes, rows-bytes-length rows)

  stands_parts : (s : List ℕ) → StandsAt s 0 (table_bytes b rows) → TableStands b rows s
  unfolding table_bytes
  stands_parts s whole =
      let to-finishes = stands-first s 0 up_to_finishes (rows_bytes rows) whole in
      let to-flows = stands-first s 0 up_to_flows finishes to-finishes in
      let to-processors = stands-first s 0 up_to_processors (bytes_of 1 (flow_count b)) to-flows in
      let to-version = stands-first s 0 up_to_version (bytes_of 2 b.processors) to-processors in
      let e : 0 + table_head b ≡ table_head b = omega arith in
      record {
        length_stands = stands-first s 0 (bytes_of 4 (table_length b rows)) (bytes_of 1 1) to-version;
        version_stands = stands_after s 0 4 (bytes_of 4 (table_length b rows)) (bytes_of 1 1) (bytes-length 4 (table_length b rows)) to-version;
        processors_stand = stands_after s 0 5 up_to_version (bytes_of 2 b.processors) up_to-version to-processors;
        flows_stand = stands_after s 0 7 up_to_processors (bytes_of 1 (flow_count b)) up_to-processors to-flows;
        finish_stands =
            stands_join-at s 8 (λ f. bytes_of 2 (finish_of rows f)) 2 (flow_count b) each-finish
            (stands_after s 0 8 up_to_flows finishes up_to-flows to-finishes);
        rows_stand = rw e at (stands_after s 0 (table_head b) up_to_finishes (rows_bytes rows) up_to-finishes whole);
      }

  parts-stand : (s : List ℕ) → TableStands b rows s → StandsAt s 0 (table_bytes b rows)
  unfolding table_bytes
  parts-stand s p =
      let e : 0 + table_head b ≡ table_head b = omega arith in
      stands-append s 0 (table_head b) up_to_finishes (rows_bytes rows) up_to-finishes
      (stands-append s 0 8 up_to_flows finishes up_to-flows
      (stands-append s 0 7 up_to_processors (bytes_of 1 (flow_count b)) up_to-processors
      (stands-append s 0 5 up_to_version (bytes_of 2 b.processors) up_to-version
      (stands-append s 0 4 (bytes_of 4 (table_length b rows)) (bytes_of 1 1) (bytes-length 4 (table_length b rows)) p.length_stands p.version_stands)
      p.processors_stand)
      p.flows_stand)
      (join_stands s 8 (λ f. bytes_of 2 (finish_of rows f)) 2 (flow_count b) each-finish p.finish_stands))
      (rw e p.rows_stand)

-- ---- reading back what was written
written-parts : (b : Book) (rows : List Row) → TableStands b rows (table_bytes b rows)
written-parts b rows = stands_parts b rows (table_bytes b rows) (stands-whole (table_bytes b rows))

pub table-rows_written : (b : Book) (rows : List Row) → ((r : Row) → r ∈ rows → RowFits r) → table_rows b (table_bytes b rows) ≡ rows
unfolding table_rows table_length
table-rows_written b rows fits =
    let count : (length (table_bytes b rows) - table_head b) / row_length ≡ length rows = omega (arith, table-bytes-length b rows) in
    let e : table_head b + row_length * 0 ≡ table_head b = omega arith in
    rw count (rows_written (table_bytes b rows) (table_head b) 0 rows fits (rw e (written-parts b rows).rows_stand))

pub head-written : (b : Book) (rows : List Row) → InRange b → table_length b rows < 256 ^ 4 → table_head_fault b (table_bytes b rows) ≡ Pass
unfolding table_head_fault table_length
head-written b rows range fits =
    let s = table_bytes b rows in
    let p = written-parts b rows in
    let whole = table-bytes-length b rows in
    rw (
      le-ltb (length s) (table_head b) (omega arith),
      eq-eqb (field 4 s 0) (length s) (field-written 4 (table_length b rows) s 0 fits p.length_stands ∙ sym whole),
      eq-eqb (byte s 4) 1 (byte-written 1 s 4 (omega arith) p.version_stands),
      eq-eqb (field 2 s 5) b.processors (field-written 2 b.processors s 5 (omega (arith, range.processors_most)) p.processors_stand),
      eq-eqb (byte s 7) (flow_count b) (byte-written (flow_count b) s 7 (omega (arith, range.flows_most)) p.flows_stand),
      eq-eqb ((length s - table_head b) % row_length) 0 (omega arith),
    ) refl

-- the finish of a flow, whatever follows the table
pub finish_in-front : (b : Book) (rows : List Row) (rest : List ℕ) (f : ℕ) → f < flow_count b → finish_of rows f < 256 ^ 2 →
    finish_in (table_bytes b rows ++ rest) f ≡ finish_of rows f
finish_in-front b rows rest f l fits =
    let s = table_bytes b rows ++ rest in
    field-written 2 (finish_of rows f) s (8 + 2 * f) fits
    ((stands_parts b rows s (stands-first s 0 (table_bytes b rows) rest (stands-whole s))).finish_stands f l)

pub finish-written : (b : Book) (rows : List Row) (f : ℕ) → f < flow_count b → finish_of rows f < 256 ^ 2 →
    finish_in (table_bytes b rows) f ≡ finish_of rows f
finish-written b rows f l fits = rw append-nil at (finish_in-front b rows [] f l fits)

-- ---- writing again what was read
-- what is read of bytes fits
row-at-fits : (s : List ℕ) (at : ℕ) → AllBytes s → RowFits (row_at s at)
unfolding row_at AllBytes
row-at-fits s at h = record {
  slot_fits = field_lt 2 s at h;
  flow_fits = h (at + 2);
  job_fits = h (at + 3);
  processors_fit = field_lt 2 s (at + 4) h;
}

pub table-rows-fit : (b : Book) (s : List ℕ) → AllBytes s → (r : Row) → r ∈ table_rows b s → RowFits r
unfolding table_rows
table-rows-fit b s h r m =
    let at : ℕ → ℕ = λ k. table_head b + row_length * k in
    let n = (length s - table_head b) / row_length in
    let w = in-at no_row m in
    let k : w.0 < n = omega (arith, w.1, length-list_from (λ j. row_at s (at j)) n 0) in
    subst RowFits (sym (list-at-zero (λ j. row_at s (at j)) n w.0 no_row k) ∙ w.2) (row-at-fits s (at w.0) h)

-- what the test of the head leaves
pub record HeadPasses (b : Book) (s : List ℕ) : Type 0 where
  pub head_whole : table_head b ≤ length s
  pub length_is : field 4 s 0 ≡ length s
  version_is : byte s 4 ≡ 1
  processors_are : field 2 s 5 ≡ b.processors
  flows_are : byte s 7 ≡ flow_count b
  pub rows_whole : (length s - table_head b) % row_length ≡ 0

pub head_passes : (b : Book) (s : List ℕ) → table_head_fault b s ≡ Pass → HeadPasses b s
unfolding table_head_fault
head_passes b s pass =
    let rows = neither_true _ _ (test-passed _ 14 none none Pass pass).0 in
    let flows = neither_true _ _ rows.0 in
    let processors = neither_true _ _ flows.0 in
    let version = neither_true _ _ processors.0 in
    let whole = neither_true _ _ version.0 in
    record {
      head_whole = ltb-false (length s) (table_head b) whole.0;
      length_is = equal (field 4 s 0) (length s) whole.1;
      version_is = equal (byte s 4) 1 version.1;
      processors_are = equal (field 2 s 5) b.processors processors.1;
      flows_are = equal (byte s 7) (flow_count b) flows.1;
      rows_whole = equal ((length s - table_head b) % row_length) 0 rows.1;
    }
  where
    equal : (x y : ℕ) → not (eqb x y) ≡ false → x ≡ y
    equal x y e = eqb-true x y (not-false (eqb x y) e)

pub tables-length : (b : Book) (s : List ℕ) → HeadPasses b s → table_length b (table_rows b s) ≡ length s
unfolding table_length table_rows
tables-length b s h =
    omega (arith, h.head_whole, h.rows_whole, length-list_from (λ k. row_at s (table_head b + row_length * k)) ((length s - table_head b) / row_length) 0)

rows-stand-there : (b : Book) (s : List ℕ) → AllBytes s → StandsAt s (table_head b) (rows_bytes (table_rows b s))
unfolding table_rows
rows-stand-there b s bytes =
    let e : table_head b + row_length * 0 ≡ table_head b = omega arith in
    rw e at (rows-read s (table_head b) ((length s - table_head b) / row_length) 0 bytes)

-- a table with the right head and finishes is the one that its rows give
pub table-read : (b : Book) (s : List ℕ) → AllBytes s → table_head_fault b s ≡ Pass →
    ((f : ℕ) → f < flow_count b → finish_in s f ≡ finish_of (table_rows b s) f) → s ≡ table_bytes b (table_rows b s)
table-read b s bytes pass stated =
    stands-equal s (table_bytes b (table_rows b s)) (sym (table-bytes-length b (table_rows b s) ∙ long)) (parts-stand b (table_rows b s) s parts)
  where
    head : HeadPasses b s
    head = head_passes b s pass

    long : table_length b (table_rows b s) ≡ length s
    long = tables-length b s head

    parts : TableStands b (table_rows b s) s
    parts = record {
      length_stands = rw (head.length_is ∙ sym long) at (field-read 4 s 0 bytes);
      version_stands = rw head.version_is at (byte-read s 4 bytes);
      processors_stand = rw head.processors_are at (field-read 2 s 5 bytes);
      flows_stand = rw head.flows_are at (byte-read s 7 bytes);
      finish_stands = λ f l. rw (stated f l) at (field-read 2 s (8 + 2 * f) bytes);
      rows_stand = rows-stand-there b s bytes;
    }
