-- A slot that gives as many units as the rate is one whole slot of the run, wherever in a round it begins: each job has
-- its take, and its rows are the packed ones of the parts. Assumes nothing.
use mathlib.Core.Path.{◌≡◌, refl, sym, ◌∙◌}
use mathlib.Core.Logic.{◌⊎◌, inl, inr}
use Prim.Native.Nat.{ℕ, zero, suc, ◌+◌, ◌≤◌, ◌<◌}
use native.Mathlib.Omega.{arith}
use mathlib.Core.List.{List, [], ◌∷◌, ◌++◌, append-nil}
use lib.ListN.{length, get_or}
use Rattle.rules.specs.Book.{Flow, job_count}
use Rattle.rules.specs.Ideal.{take_of}
use Rattle.rules.specs.PseudoJobs.{PseudoJob, rate, work}
use Rattle.rules.specs.Rows.{row_for}
use Rattle.rules.specs.Placing.{share}
use Rattle.rules.proofs.Laws.Division.{lt-or_ge}
use Rattle.rules.proofs.Chains.Shares.{share-law, share-up_to_round}
use Rattle.chain.specs.Runs.{parts_below}
use Rattle.place.specs.declared.Current.{Current}
use Rattle.place.specs.Service.{Serving, current_flow, pseudo_job, packed_row, packed_rows, job_rows}
use Rattle.place.proofs.OneSlot.{rows_of_slot, slot-rows-none, slot-rows_next}
use Rattle.place.proofs.Output.{row_for-some, row_for-none}
use Rattle.place.proofs.Packed.{packed-rows-none, packed-rows_next}
use Rattle.chain.proofs.Parts.{parts_none, parts-some, parts-nothing, part-before}
use Rattle.place.proofs.SlotRows.{rows-below-all}

share_is-take : (w : Flow) (p : PseudoJob) (i done : ℕ) → 0 < rate w p → done + rate w p ≤ work w p → i < job_count w →
    share w p i done (rate w p) ≡ take_of w i p.first
share_is-take w p i done positive fits l =
    omega (arith, share-law w p i done (rate w p) positive fits l, share-up_to_round w p i done positive)

rows_same : (t f : ℕ) (g h : ℕ → ℕ) (n : ℕ) → ((i : ℕ) → i < n → g i ≡ h i) → rows_of_slot t f g n ≡ rows_of_slot t f h n
rows_same t f g h zero e = rw (slot-rows-none t f g, slot-rows-none t f h) refl
rows_same t f g h (suc n) e =
    rw (slot-rows_next t f g n, slot-rows_next t f h n, rows_same t f g h n (λ i l. e i (omega arith)), e n (omega arith)) refl

module _ {s : List ℕ} {c : Current} {names takes rows : List ℕ} (v : Serving s c names takes rows) (t : ℕ) where
  abbrev w : Flow
  w = current_flow s c

  abbrev take : ℕ → ℕ
  take i = take_of w i c.first

  -- the packed row of a job that takes something
  row_packed : (j : ℕ) → j < job_count w → 0 < take j → packed_row t (get_or rows (parts_below take j) 0) ∷ [] ≡ row_for t c.flow j (take j)
  row_packed j l some =
      rw (
        v.rows_are (parts_below take j) (omega (arith, v.rows_whole, v.held.parts.count, part-before take j (job_count w) l some)) t,
        v.held.parts.name j l some,
        v.held.parts.amount j l some,
      )
      (sym (row_for-some t c.flow j (take j) (λ e. omega arith)))

  -- the packed rows of the parts below j
  packed-below : (j : ℕ) → j ≤ job_count w → packed_rows t rows (parts_below take j) ≡ rows_of_slot t c.flow take j
  packed-below zero l = rw (parts_none take, packed-rows-none t rows, slot-rows-none t c.flow take) refl
  packed-below (suc j) l = rw (slot-rows_next t c.flow take j, ← packed-below j (omega arith)) (go (lt-or_ge 0 (take j)))
    where
      next : suc j ≡ j + 1
      next = omega arith

      go : (0 < take j) ⊎ (take j ≤ 0) → packed_rows t rows (parts_below take (suc j)) ≡ packed_rows t rows (parts_below take j) ++ row_for t c.flow j (take j)
      go (inl some) = rw (next, parts-some take j some, packed-rows_next t rows (parts_below take j), row_packed j (omega arith) some) refl
      go (inr none) = rw (next, parts-nothing take j (omega arith), row_for-none t c.flow j (take j) (omega arith)) (sym (append-nil _))

  -- each job has its take
  pub full-rows : (done give : ℕ) → done + give ≤ work w (pseudo_job c) → give ≡ c.rate →
      packed_rows t rows (length rows) ≡ job_rows w c.flow t (pseudo_job c) done give
  full-rows done give fits whole =
      let p = pseudo_job c in
      let e : give ≡ rate w p = whole ∙ v.held.in_service.rate in
      rw (v.rows_whole, v.held.parts.count, e)
      (packed-below (job_count w) (omega arith)
      ∙ rows_same t c.flow take (λ i. share w p i done (rate w p)) (job_count w)
      (λ i l. sym (share_is-take w p i done (omega (arith, v.held.in_service.rate, v.held.in_service.rate_positive)) (omega arith) l))
      ∙ rows-below-all w c.flow t p done (rate w p))
