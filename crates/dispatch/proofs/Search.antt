-- The search for a flow's first row: rows that are served before the flow stand in front of all others, so that the
-- row in the middle tells of all on one side of it, and the point that parts them is the first row. `Between` is what
-- the search knows of the rows left. Assumes nothing.
use mathlib.Core.Path.{◌≡◌, refl, ◌∙◌, sym, ap}
use mathlib.Core.Bool.{Bool, true, false, false≢true, ◌&&◌}
use Prim.Native.Nat.{ℕ, ◌+◌, ◌-◌, ◌/◌, ◌≤◌, ◌<◌}
use native.Mathlib.Omega.{arith}
use mathlib.Core.List.{List, [], map}
use lib.ListN.{length, get_or, length-map}
use lib.Dec.{ltb}
use borrow.Author.Tests.{lt-ltb}
use Rattle.std.proofs.lemmas.List.{get_or_default}
use Rattle.std.specs.List.Sorted.{IsPartitionedBy, IsPartitionPoint}
use Rattle.rules.specs.Fields.{byte}
use Rattle.rules.specs.Book.{Book, flow_count}
use Rattle.rules.specs.Table.{row_bytes}
use Rattle.rules.specs.Rows.{Row}
use Rattle.rules.specs.Service.{served_before}
use Rattle.rules.specs.Check.{no_row}
use Rattle.rules.proofs.Rows.Rising.{Rising}
use Rattle.rules.proofs.Rows.RowOrder.{Before}
use Rattle.dispatch.specs.Merge.{FirstRow, halved}
use Rattle.dispatch.specs.Accepted.{Accepted, accepted_rows}
use Rattle.rules.specs.Reading.{book_of}
use Rattle.dispatch.proofs.Cursors.{served-down}
use Rattle.dispatch.proofs.Tables.{row-passes, rows-rising, held-flow}

-- the first row that is not served before flow f stands from `low` to `high`
pub record Between (b : Book) (rows : List Row) (f low high : ℕ) : Type 0 where
  pub span : low ≤ high
  pub within : high ≤ length rows
  pub earlier : (k : ℕ) → k < low → served_before b (get_or rows k no_row).flow f ≡ true
  pub others : (k : ℕ) → high ≤ k → k < length rows → served_before b (get_or rows k no_row).flow f ≡ true → ⊥

module _ (b : Book) (rows : List Row) (f : ℕ) where
  pub between-all : Between b rows f 0 (length rows)
  between-all = record { span = omega arith; within = omega arith; earlier = λ k l. absurd (omega arith); others = λ k l m. absurd (omega arith) }

  pub between-one : (low high : ℕ) → high ≤ low → Between b rows f low high → FirstRow b rows f low
  between-one low high h w =
      record { within = omega (arith, w.span, w.within); earlier = w.earlier; others = λ k l m. w.others k (omega (arith, w.span)) m }

  module _ (low high middle : ℕ) (some : low < high) (half : middle ≡ (low + high) / 2) where
    pub halved-less : (t : Bool) → (halved low high middle t).high - (halved low high middle t).low < high - low
    halved-less true = omega arith
    halved-less false = omega arith

    pub between_half : Rising (Before b) rows → Between b rows f low high → (t : Bool) → served_before b (get_or rows middle no_row).flow f ≡ t →
        Between b rows f (halved low high middle t).low (halved low high middle t).high
    between_half rising w true e = record {
      span = omega arith;
      within = w.within;
      earlier = λ k l. served-down b rows rising f k middle (omega arith) (omega (arith, w.within)) e;
      others = w.others;
    }
    between_half rising w false e = record {
      span = omega arith;
      within = omega (arith, w.within);
      earlier = w.earlier;
      others = λ k l m s. false≢true (sym e ∙ served-down b rows rising f middle k l m s);
    }

-- ---- the rows of an accepted table, each as its bytes
module _ (book table : List ℕ) (accepted : Accepted book table) (f : ℕ) where
  abbrev b : Book
  b = book_of book

  abbrev rows : List Row
  rows = accepted_rows book table

  -- a row of a flow of the book that is served before flow f, by its bytes
  abbrev pub earlier : List ℕ → Bool
  earlier row = ltb (byte row 2) (flow_count b) && served_before b (byte row 2) f

  -- it is so of row k just where its flow is served before
  pub earlier-is : (k : ℕ) (d : List ℕ) → k < length rows → earlier (get_or (map row_bytes rows) k d) ≡ served_before b (get_or rows k no_row).flow f
  earlier-is k d l =
      ap (λ (row : List ℕ). earlier row) (get_or_default (map row_bytes rows) k d [] (omega (arith, length-map rows row_bytes)))
      ∙ ap (λ (g : ℕ). ltb g (flow_count b) && served_before b g f) (held-flow book table accepted k l)
      ∙ rw (lt-ltb (get_or rows k no_row).flow (flow_count b) (row-passes book table accepted k l).flow_in_is) refl

  pub parted : IsPartitionedBy earlier (map row_bytes rows)
  parted i j d l m e =
      let n : j < length rows = omega (arith, length-map rows row_bytes) in
      earlier-is i d (omega arith)
      ∙ served-down b rows (rows-rising book table accepted) f i j l n (sym (earlier-is j d n) ∙ e)

  -- the point that parts the rows is the first row
  pub first_parts : (c : ℕ) → c ≤ length (map row_bytes rows) →
      IsPartitionPoint (λ row. earlier row ≡ true) (λ row. earlier row ≡ false) (map row_bytes rows) c → FirstRow b rows f c
  first_parts c within point =
      between-one b rows f c c (omega arith)
      (record {
        span = omega arith;
        within = omega (arith, length-map rows row_bytes);
        earlier = λ k l. sym (earlier-is k [] (omega (arith, length-map rows row_bytes))) ∙ point.0 k [] (omega arith) l;
        others = λ k l m s. false≢true (sym (point.1 k [] l (omega (arith, length-map rows row_bytes))) ∙ earlier-is k [] m ∙ s);
      })
