-- What an accepted table is: whole rows behind its head, in rising order, each with a flow of the book, a slot and
-- processors; and how its rows stand in its bytes, where a run of rows is read and copied. Assumes nothing.
use mathlib.Core.Path.{◌≡◌, refl, sym, ap, ap₂, ◌∙◌}
use Prim.Native.Nat.{ℕ, zero, suc, ◌+◌, ◌*◌, ◌/◌, ◌≤◌, ◌<◌}
use native.Mathlib.Omega.{arith}
use mathlib.Core.List.{List, [], ◌∷◌, ◌++◌, map}
use lib.ListN.{length, get_or, take, drop, length-drop, length-map}
use lib.Seq.{ext_get_or, get_or-take, get_or-drop, length-take-le, drop-cons}
use Rattle.std.specs.Prelude.{Some}
use Rattle.std.specs.List.{flat_map}
use Rattle.std.specs.Simd.{first_chunks}
use Rattle.std.proofs.lemmas.List.{append-nil, drop-drop, get_or-map, take-map, drop-map}
use Rattle.rules.specs.Walks.{list_from}
use Rattle.rules.specs.Fields.{byte, field, bytes_of, AllBytes}
use Rattle.rules.specs.Calendar.{is_open}
use Rattle.rules.specs.Book.{Book, InRange}
use Rattle.rules.specs.Reading.{book_of}
use Rattle.rules.specs.Rows.{Row, used_in}
use Rattle.rules.specs.Table.{table_head, row_length, row_bytes, rows_bytes, row_at}
use Rattle.rules.specs.Check.{no_row}
use Rattle.rules.proofs.Laws.Walks.{length-list_from, list_at}
use Rattle.rules.proofs.Laws.Fields.{StandsAt, field_lt}
use Rattle.rules.proofs.Reading.Passing.{pass_in-range}
use Rattle.rules.proofs.Rows.Rising.{Rising}
use Rattle.rules.proofs.Rows.RowOrder.{Before}
use Rattle.rules.proofs.Tables.TableBytes.{rows-bytes-length, rows-read, head_passes}
use Rattle.rules.proofs.Tables.TablePasses.{RowPasses, TablePasses, table_passes}
use Rattle.rules.proofs.Tables.AcceptedRows.{passing-rising, passing_use}
use Rattle.table_check.proofs.TableRows.{row-at, table_length_is}
use Rattle.dispatch.specs.Accepted.{Accepted, accepted_rows}
use Rattle.dispatch.specs.Runs.{part, due_at, RunOf, Run, RunAsked, front}
use Rattle.dispatch.specs.Merge.{rows_at, Cursor}
use Rattle.dispatch.proofs.Runs.{behind, rest_is, due-inside, due-there, due-tells, due-own, due-drop}
use Rattle.dispatch.proofs.Cursors.{gapless-flow, gapless-slot, run-few, run-rows, run_length, run_cursor}

-- ---- a row's bytes
module _ (r : Row) where
  bytes-flow : r.flow < 256 → byte (row_bytes r) 2 ≡ r.flow
  unfolding row_bytes bytes_of
  bytes-flow h = omega arith

  bytes-slot : r.slot < 65536 → field 2 (row_bytes r) 0 ≡ r.slot
  unfolding row_bytes bytes_of field
  bytes-slot h = omega arith

-- a part as the slice of it
part_is : (s : List ℕ) (at n : ℕ) → at + n ≤ length s → part s at n ≡ take n (drop at s)
unfolding part
part_is s at n l =
    let long : length (take n (drop at s)) ≡ n = length-take-le n (drop at s) (omega (arith, length-drop at s)) in
    ext_get_or 0 (list_from (byte s) n at) (take n (drop at s)) (length-list_from (byte s) n at ∙ sym long)
    (λ i h.
    let m : i < n = omega (arith, length-list_from (byte s) n at) in
    list_at (byte s) n at i 0 m ∙ sym (get_or-take n (drop at s) i 0 m ∙ get_or-drop at s i 0))

-- rows in chunks of six bytes
chunks_are : (n : ℕ) (xs : List ℕ) (rs : List Row) → length rs ≡ n → ((k : ℕ) → k < n → take 6 (drop (6 * k) xs) ≡ row_bytes (get_or rs k no_row)) →
    first_chunks 6 n xs ≡ map row_bytes rs
chunks_are zero xs [] e each = refl
chunks_are zero xs (r ∷ rs) e each = absurd (omega arith)
chunks_are (suc n) xs [] e each = absurd (omega arith)
chunks_are (suc n) xs (r ∷ rs) e each = ap₂ ◌∷◌ (each 0 (omega arith)) (chunks_are n (drop 6 xs) rs (omega arith) rest)
  where
    rest : (k : ℕ) → k < n → take 6 (drop (6 * k) (drop 6 xs)) ≡ row_bytes (get_or rs k no_row)
    rest k l =
        let z : 6 + 6 * k ≡ 6 * suc k = omega arith in
        ap (take 6) (drop-drop (6 * k) 6 xs ∙ ap (λ (j : ℕ). drop j xs) z) ∙ each (suc k) (omega arith)

bytes-of_map : (rs : List Row) → flat_map (λ (row : List ℕ). row) (map row_bytes rs) ≡ rows_bytes rs
unfolding rows_bytes
bytes-of_map [] = refl
bytes-of_map (r ∷ rs) = ap (row_bytes r ++◌) (bytes-of_map rs)

module _ (book table : List ℕ) (accepted : Accepted book table) where
  abbrev b : Book
  b = book_of book

  abbrev rows : List Row
  rows = accepted_rows book table

  -- each row as its bytes
  abbrev held : List (List ℕ)
  held = map row_bytes rows

  pub in_range : InRange b
  in_range = pass_in-range book accepted.book_passes

  passes : TablePasses b table
  passes = table_passes b table accepted.table_passes

  pub row-passes : (k : ℕ) → k < length rows → RowPasses b (is_open b.calendar) rows k
  row-passes = passes.rows_pass.each_row

  -- at most P in a slot
  pub use-within : (t : ℕ) → used_in rows t ≤ b.processors
  use-within = passing_use b in_range rows passes.rows_pass

  pub rows-rising : Rising (Before b) rows
  rows-rising = passing-rising b in_range rows passes.rows_pass

  pub rows_fill : length table ≡ table_head b + row_length * length rows
  rows_fill = table_length_is b table passes.head_passes

  -- ---- the slot of a row that is held
  held-at : (k : ℕ) → k < length rows → get_or held k [] ≡ row_bytes (get_or rows k no_row)
  held-at k l = get_or-map row_bytes rows k no_row [] l

  pub held-flow : (k : ℕ) → k < length rows → byte (get_or held k []) 2 ≡ (get_or rows k no_row).flow
  held-flow k l =
      ap (λ (s : List ℕ). byte s 2) (held-at k l)
      ∙ bytes-flow (get_or rows k no_row) (omega (arith, (row-passes k l).flow_in_is, in_range.flows_most))

  held-slot : (k : ℕ) → k < length rows → field 2 (get_or held k []) 0 ≡ (get_or rows k no_row).slot
  held-slot k l = ap (λ (s : List ℕ). field 2 s 0) (held-at k l) ∙ bytes-slot (get_or rows k no_row) (omega (arith, (row-passes k l).slot_in))

  -- where there is one, the row is of that flow and in that slot
  module _ (f t k : ℕ) (due : due_at held k f ≡ Some t) where
    pub due-within : k < length rows
    due-within = omega (arith, due-inside held k f t due, length-map rows row_bytes)

    tells : (byte (get_or held k []) 2 ≡ f) × (field 2 (get_or held k []) 0 ≡ t)
    tells = due-tells (get_or held k []) f t (sym (due-there held k f (due-inside held k f t due)) ∙ due)

    pub due-row-flow : (get_or rows k no_row).flow ≡ f
    due-row-flow = sym (held-flow k due-within) ∙ tells.0

    pub due-row-slot : (get_or rows k no_row).slot ≡ t
    due-row-slot = sym (held-slot k due-within) ∙ tells.1

  -- and the other way round
  pub row-due : (f k : ℕ) → k < length rows → (get_or rows k no_row).flow ≡ f → due_at held k f ≡ Some (get_or rows k no_row).slot
  row-due f k l e =
      due-there held k f (omega (arith, length-map rows row_bytes))
      ∙ due-own (get_or held k []) f (held-flow k l ∙ e)
      ∙ ap Some (held-slot k l)

  -- its length field holds its length
  pub size-of_table : AllBytes table → length table < 4294967296
  size-of_table bytes = omega (arith, field_lt 4 table 0 bytes, (head_passes b table passes.head_passes).length_is)

  -- ---- rows in the table's bytes
  -- n rows from row c on, in the bytes
  pub rows-part : AllBytes table → (c n : ℕ) → c + n ≤ length rows →
      part table (table_head b + row_length * c) (row_length * n) ≡ rows_bytes (take n (drop c rows))
  unfolding part StandsAt
  rows-part bytes c n l =
      ext_get_or 0 (list_from (byte table) (row_length * n) (table_head b + row_length * c)) (rows_bytes (take n (drop c rows)))
      (length-list_from (byte table) (row_length * n) (table_head b + row_length * c) ∙ sym long) each
    where
      these : List Row
      these = list_from (λ j. row_at table (table_head b + row_length * j)) n c

      same : take n (drop c rows) ≡ these
      same =
          ext_get_or no_row (take n (drop c rows)) these
          (length-take-le n (drop c rows) (rw (length-drop c rows) (omega arith)) ∙ sym (length-list_from (λ j. row_at table (table_head b + row_length * j)) n c))
          at
        where
          at : (i : ℕ) → i < length (take n (drop c rows)) → get_or (take n (drop c rows)) i no_row ≡ get_or these i no_row
          at i h =
              let m : i < n = omega (arith, length-take-le n (drop c rows) (rw (length-drop c rows) (omega arith))) in
              get_or-take n (drop c rows) i no_row m
              ∙ get_or-drop c rows i no_row
              ∙ row-at b table (c + i) (omega arith)
              ∙ sym (list_at (λ j. row_at table (table_head b + row_length * j)) n c i no_row m)

      long : length (rows_bytes (take n (drop c rows))) ≡ row_length * n
      long = rows-bytes-length (take n (drop c rows)) ∙ ap (row_length *◌) (length-take-le n (drop c rows) (rw (length-drop c rows) (omega arith)))

      each : (i : ℕ) → i < length (list_from (byte table) (row_length * n) (table_head b + row_length * c)) →
          byte (list_from (byte table) (row_length * n) (table_head b + row_length * c)) i ≡ byte (rows_bytes (take n (drop c rows))) i
      each i h =
          let m : i < row_length * n = omega (arith, length-list_from (byte table) (row_length * n) (table_head b + row_length * c)) in
          list_at (byte table) (row_length * n) (table_head b + row_length * c) i 0 m
          ∙ rows-read table (table_head b) n c bytes i (rw same at (rw (sym long) at m))
          ∙ ap (λ (r : List Row). byte (rows_bytes r) i) (sym same)

  -- the table behind its head, in chunks
  pub rows_stand : AllBytes table → first_chunks 6 (length (drop (table_head b) table) / 6) (drop (table_head b) table) ≡ held
  unfolding rows_bytes
  rows_stand bytes =
      let behind-head = drop (table_head b) table in
      let count : length behind-head / 6 ≡ length rows = omega (arith, length-drop (table_head b) table, rows_fill) in
      ap (λ (n : ℕ). first_chunks 6 n behind-head) count ∙ chunks_are (length rows) behind-head rows refl each
    where
      each : (k : ℕ) → k < length rows → take 6 (drop (6 * k) (drop (table_head b) table)) ≡ row_bytes (get_or rows k no_row)
      each k l =
          let one : take 1 (drop k rows) ≡ get_or rows k no_row ∷ [] = ap (take 1) (drop-cons rows k no_row l) in
          ap (take 6) (drop-drop (6 * k) (table_head b) table)
          ∙ sym (part_is table (table_head b + 6 * k) 6 (omega (arith, rows_fill)))
          ∙ rows-part bytes k 1 (omega arith)
          ∙ ap rows_bytes one
          ∙ append-nil (row_bytes (get_or rows k no_row))

  -- ---- a cursor, and the run that is read from it on
  module _ (f t c : ℕ) (cursor : Cursor rows f t c) where
    -- what stands between two rows of the run belongs to it
    pub run-gapless : (m : ℕ) → due_at (drop c held) m f ≡ Some t → RunOf (drop c held) f t (suc m)
    unfolding RunOf
    run-gapless m d j l =
        let due = sym (due-drop held c m f) ∙ d in
        let within = due-within f t (c + m) due in
        let slot_is = due-row-slot f t (c + m) due in
        let flow_is = due-row-flow f t (c + m) due in
        due-drop held c j f
        ∙ row-due f (c + j) (omega arith)
        (gapless-flow b rows rows-rising f t c (c + j) (c + m) cursor (omega arith) (omega arith) within slot_is flow_is)
        ∙ ap Some (gapless-slot b rows rows-rising f t c (c + j) (c + m) cursor (omega arith) (omega arith) within slot_is flow_is)

    module _ (n : ℕ) (each : RunOf (drop c held) f t n) where
      there : (m : ℕ) → m < n → due_at held (c + m) f ≡ Some t
      unfolding RunOf
      there m l = sym (due-drop held c m f) ∙ each m l

      run-slots : (m : ℕ) → m < n → (get_or rows (c + m) no_row).slot ≡ t
      run-slots m l = due-row-slot f t (c + m) (there m l)

      run-flows : (m : ℕ) → m < n → (get_or rows (c + m) no_row).flow ≡ f
      run-flows m l = due-row-flow f t (c + m) (there m l)

      -- a run reaches no further than the table's rows
      run-within : c + n ≤ length rows
      run-within = go n refl
        where
          go : (k : ℕ) → n ≡ k → c + n ≤ length rows
          go zero e = omega (arith, cursor.within)
          go (suc k) e = let l = due-within f t (c + k) (there k (omega arith)) in omega arith

      -- there is room for a run where there is room for the flow's rows in the slot
      pub run_room : n ≤ length (rows_at rows t f)
      run_room = run-few b rows rows-rising f t c n cursor run-within run-slots run-flows

    -- what copying the run asks
    pub run_asked : (room : ℕ) → row_length * length (rows_at rows t f) ≤ room → RunAsked (behind held c) f t room
    run_asked room h =
        rw (rest_is held c) (record { gapless = run-gapless; fits = λ n each. omega (arith, run_room n each) })

    module _ (n : ℕ) (run : Run (behind held c) f t n) where
      each : RunOf (drop c held) f t n
      each = rw (rest_is held c) at run.each

      ends : c + n < length rows → (get_or rows (c + n) no_row).slot ≡ t → (get_or rows (c + n) no_row).flow ≡ f → ⊥
      ends l s e =
          let stop : due_at (drop c held) n f ≡ Some t → ⊥ = rw (rest_is held c) at run.ends in
          stop (due-drop held c n f ∙ row-due f (c + n) l e ∙ ap Some s)

      pub after_run : Cursor rows f (suc t) (c + n)
      after_run = run_cursor b rows rows-rising f t c n cursor (run-within n each) (run-slots n each) (run-flows n each) ends

      pub run-size : n ≡ length (rows_at rows t f)
      run-size = sym (run_length b rows rows-rising f t c n cursor (run-within n each) (run-slots n each) (run-flows n each) ends)

      pub run-bytes : front (behind held c) n ≡ rows_bytes (rows_at rows t f)
      run-bytes =
          ap (λ (s : List (List ℕ)). front s n) (rest_is held c)
          ∙ ap (flat_map (λ (row : List ℕ). row)) (ap (take n) (drop-map row_bytes c rows) ∙ take-map row_bytes n (drop c rows))
          ∙ bytes-of_map (take n (drop c rows))
          ∙ ap rows_bytes (sym (run-rows b rows rows-rising f t c n cursor (run-within n each) (run-slots n each) (run-flows n each) ends))
