-- Flow after flow in service order, beside the maintenance: placing starts with no flow, goes on by one that is placed,
-- and one that is infeasible stays the answer for all behind it. A flow changes its own finish alone, which was 0,
-- because it stands once in the order. In the end the maintenance is taken out of the area. Assumes nothing.
use mathlib.Core.Path.{◌≡◌, refl, sym, ap, ◌∙◌}
use Prim.Native.Nat.{ℕ, zero, suc, ◌+◌, ◌<◌}
use native.Mathlib.Nat.{add-suc, add-zero}
use native.Mathlib.Numerals.{add-one}
use native.Mathlib.Omega.{arith}
use mathlib.Core.List.{List, [], ◌++◌, append-nil}
use Rattle.rules.specs.Limits.{slots}
use Rattle.rules.specs.Calendar.{CalendarInRange}
use Rattle.rules.specs.Book.{Book, flow_count, flow_of}
use Rattle.rules.specs.Service.{served_at}
use Rattle.rules.specs.Rows.{Row, finish_of, work_used, work_zero}
use Rattle.rules.specs.Placing.{infeasible, place_first, place_flow, free_processors, slots_for}
use Rattle.rules.proofs.Reading.ServiceOrder.{service-once}
use Rattle.rules.proofs.Rows.WorkArea.{used-cleared}
use Rattle.place.specs.Order.{shut_rows, Stands}
use Rattle.place.proofs.Finishes.{finish-stays, finish-own}
use Rattle.place.proofs.Maintenance.{shut-within, added_rows, FlowAdded, used-again, ShutTo, opened-area, opened-cleared}

-- ---- no flow
pub stands-none : (b : Book) (area : List ℕ) → CalendarInRange b.calendar → area ≡ work_used slots (shut_rows b) area → Stands b 0 [] area area
unfolding place_first finish_of
stands-none b area range holds = record {
  placed = refl;
  area_used = holds ∙ ap (λ (all : List Row). work_used slots all area) (sym (append-nil (shut_rows b)));
  within = λ t. rw (append-nil (shut_rows b)) (shut-within b range t);
  behind = λ j l h. refl;
}

-- ---- one flow more: flow f, which is served at position k
module _ {b : Book} {k f : ℕ} {rows : List Row} {bytes area : List ℕ} (s : Stands b k rows bytes area) (l : k < flow_count b) (q : f ≡ served_at b k) where
  -- it stands once in the order
  no_other : (j : ℕ) → k < j → j < flow_count b → served_at b j ≡ f → ⊥
  no_other j m h e = let same : j ≡ k = service-once b j k h l (e ∙ q) in omega arith

  -- the other finishes stay
  pub other-finish : (g : ℕ) → (g ≡ f → ⊥) → finish_of (rows ++ added_rows b f rows) g ≡ finish_of rows g
  other-finish = finish-stays rows (flow_of b f) f (free_processors b f rows) (slots_for b (flow_of b f))

  module _ {out out' area' : List ℕ} {at finish next : ℕ} (d : FlowAdded b f rows bytes out at out' area' finish next) where
    pub stands-next : Stands b (k + 1) (rows ++ added_rows b f rows) bytes area'
    unfolding place_first
    stands-next = record {
      placed = ap (place_first b) (add-one k) ∙ rw (s.placed, ← q) d.placed;
      area_used = d.area_used;
      within = d.within;
      behind = λ j m h. other-finish (served_at b j) (no_other j (omega arith) h) ∙ s.behind j (omega arith) h;
    }

    pub own-finish : finish ≡ finish_of (rows ++ added_rows b f rows) f
    own-finish =
        d.ends
        ∙ sym (finish-own rows (flow_of b f) f (free_processors b f rows) (slots_for b (flow_of b f)) (ap (finish_of rows) q ∙ s.behind k (omega arith) l))

  pub infeasible-next : place_flow b f rows ≡ infeasible f → place_first b (suc k) ≡ infeasible f
  unfolding place_first
  infeasible-next e = rw (s.placed, ← q) e

-- a flow that is infeasible stays the answer
pub infeasible-stays : (b : Book) (k n f : ℕ) → place_first b k ≡ infeasible f → place_first b (k + n) ≡ infeasible f
unfolding place_first
infeasible-stays b k zero f e = rw add-zero e
infeasible-stays b k (suc n) f e = rw add-suc (rw (infeasible-stays b k n f e) refl)

-- ---- the area: the maintenance is taken out in the end
module _ (b : Book) (area area₁ area₂ area₃ : List ℕ) (range : CalendarInRange b.calendar) (held : area₁ ≡ work_used slots (shut_rows b) area)
    (set : ShutTo b.calendar 0 area₂ area₃) where
  -- the use of the flows alone is left
  pub flows-left : {k : ℕ} {rows : List Row} → Stands b k rows area₁ area₂ → area₃ ≡ work_used slots rows area
  flows-left {k} {rows} s =
      opened-area b range rows area₁ area₂ area₃ s.within s.area_used set
      ∙ ap (work_used slots rows) held ∙ used-again slots rows (shut_rows b) area

  -- whatever it held, it is cleared as before
  pub nothing_left : (others : List Row) → area₂ ≡ work_used slots others area₁ → work_zero slots area₃ ≡ work_zero slots area
  nothing_left others e =
      opened-cleared b range others area₁ area₂ area₃ e set
      ∙ ap (work_zero slots) held ∙ used-cleared slots (shut_rows b) area
