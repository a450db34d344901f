-- What one flow's rows add to the finishes.
-- All rows of a flow are its own, so that they change its finish alone. Assumes nothing.
use mathlib.Core.Path.{◌≡◌, sym, ap, subst, ◌∙◌}
use Prim.Native.Nat.{ℕ}
use native.Mathlib.Omega.{arith}
use mathlib.Core.List.{List, ◌++◌}
use Rattle.rules.specs.Book.{Flow, job_count}
use Rattle.rules.specs.Rows.{Row, finish_of}
use Rattle.rules.specs.Placing.{flow_rows}
use Rattle.rules.proofs.Rows.Rising.{◌∈◌}
use Rattle.rules.proofs.Rows.RowSums.{finish_least}
use Rattle.rules.proofs.Rows.FlowRows.{grid_in}
use Rattle.rules.proofs.Placing.PlacedFlow.{share_in}
use Rattle.rules.proofs.Placing.PlannedRows.{flow-rows_grid}
use Rattle.place.proofs.OneSlot.{finish-append}

-- ---- finishes
-- rows of other flows
finish_of-others : (rows : List Row) (f : ℕ) → ((r : Row) → r ∈ rows → r.flow ≡ f → ⊥) → finish_of rows f ≡ 0
finish_of-others rows f h = omega (arith, finish_least rows f 0 (λ r m e. absurd (h r m e)))

-- a flow's rows are its own
flow-rows-own : (w : Flow) (f : ℕ) (free : ℕ → ℕ) (n : ℕ) (r : Row) → r ∈ flow_rows w f free n → r.flow ≡ f
flow-rows-own w f free n r m =
    ap (λ (x : Row). x.flow) (grid_in f (job_count w) n (share_in w free) r (subst (λ (l : List Row). r ∈ l) (flow-rows_grid w f free n) m)).4

-- ---- rows so far, and those of flow f behind them
module _ (rows : List Row) (w : Flow) (f : ℕ) (free : ℕ → ℕ) (n : ℕ) where
  -- another flow's finish stays
  pub finish-stays : (g : ℕ) → (g ≡ f → ⊥) → finish_of (rows ++ flow_rows w f free n) g ≡ finish_of rows g
  finish-stays g ne =
      omega (
        arith,
        finish-append rows (flow_rows w f free n) g,
        finish_of-others (flow_rows w f free n) g (λ r m e. ne (sym e ∙ flow-rows-own w f free n r m)),
      )

  -- the flow's own is that of its rows
  pub finish-own : finish_of rows f ≡ 0 → finish_of (rows ++ flow_rows w f free n) f ≡ finish_of (flow_rows w f free n) f
  finish-own e = omega (arith, finish-append rows (flow_rows w f free n) f)
