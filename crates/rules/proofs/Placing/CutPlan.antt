-- The placing of a cut book is that of the first flows of the whole book under other flow numbers. A slot's use does not look at the flow of a row, so each
-- flow finds the same processors free; flows keep apart, so each has the same finish. Assumes nothing.
use mathlib.Core.Path.{◌≡◌, refl, sym, ap, ◌∙◌}
use Prim.Native.Nat.{ℕ, zero, suc, ◌+◌, ◌*◌, ◌≤◌, ◌<◌}
use mathlib.Core.List.Memᴰ
use mathlib.Core.List.{List, [], ◌∷◌, ◌++◌, map, map-append}
use native.Mathlib.Omega.{arith}
use lib.ListN.{drop}
use lib.Dec.{eqb}
use borrow.Author.Tests.{eqb-true, eq-eqb}
use Rattle.std.specs.Prelude.{if◌then◌else◌}
use Rattle.rules.specs.Walks.{join_from}
use Rattle.rules.specs.Fields.{bytes_of}
use Rattle.rules.specs.Book.{Flow, Book, flow_count, job_count, flow_of, usable, InRange}
use Rattle.rules.specs.PseudoJobs.{PseudoJob}
use Rattle.rules.specs.Service.{served_at}
use Rattle.rules.specs.Rows.{Row, row_for, sum_where, used_in, finish_of, work_used}
use Rattle.rules.specs.Placing.{share, given, slot_rows, progress, flow_rows, free_processors, slots_for, Plan, planned, infeasible, settled, place_flow, then_place, place_first, plan}
use Rattle.rules.specs.Cut.{cut}
use Rattle.rules.proofs.Rows.Rising.{◌∈◌, first_in}
use Rattle.rules.proofs.Placing.OpenSlots.{limit-same}
use Rattle.rules.proofs.Reading.CutBook.{kept, kept-once, cut-processors, cut-calendar, cut-count, cut_in-range, cut_service, cut_service-flow}
use Rattle.rules.proofs.Placing.PlannedValid.{planned-rows-fit}
use Rattle.rules.proofs.Reading.Position.{same_test}

-- ---- rows and plans under other flow numbers
abbrev pub renumber : (ℕ → ℕ) → Row → Row
renumber to r = record { slot = r.slot; flow = to r.flow; job = r.job; processors = r.processors }

abbrev pub renumber_plan : (ℕ → ℕ) → Plan → Plan
renumber_plan to (planned rows) = planned (map (renumber to) rows)
renumber_plan to (infeasible f) = infeasible (to f)

map_join : {A B : Type 0} (g : A → B) (h : ℕ → List A) (n s : ℕ) → map g (join_from h n s) ≡ join_from (λ k. map g (h k)) n s
unfolding join_from
map_join g h zero s = refl
map_join g h (suc n) s = map-append g (h s) (join_from h n (s + 1)) ∙ ap (map g (h s) ++◌) (map_join g h n (s + 1))

module _ (to : ℕ → ℕ) where
  -- ---- what does not look at the flow of a row
  used_renumbered : (rows : List Row) (t : ℕ) → used_in (map (renumber to) rows) t ≡ used_in rows t
  unfolding used_in sum_where
  used_renumbered [] t = refl
  used_renumbered (r ∷ rs) t = ap ((if eqb r.slot t then r.processors else 0) +◌) (used_renumbered rs t)

  pub work_renumbered : (n : ℕ) (rows : List Row) (area : List ℕ) → work_used n (map (renumber to) rows) area ≡ work_used n rows area
  unfolding work_used
  work_renumbered n rows area = λ x. join_from (λ t. bytes_of 2 (used_renumbered rows t x)) n 0 ++ drop (2 * n) area

  -- ---- the rows of a flow that has another number
  row_renumbered : (t f i n : ℕ) → map (renumber to) (row_for t f i n) ≡ row_for t (to f) i n
  unfolding row_for
  row_renumbered t f i zero = refl
  row_renumbered t f i (suc n) = refl

  slot_renumbered : (w : Flow) (f t : ℕ) (ps : List PseudoJob) (done free : ℕ) →
      map (renumber to) (slot_rows w f t ps done free) ≡ slot_rows w (to f) t ps done free
  unfolding slot_rows
  slot_renumbered w f t [] done free = refl
  slot_renumbered w f t (p ∷ ps) done free =
      let shares : ℕ → ℕ = λ i. share w p i done (given w p done free) in
      map_join (renumber to) (λ i. row_for t f i (shares i)) (job_count w) 0
      ∙ (λ x. join_from (λ i. row_renumbered t f i (shares i) x) (job_count w) 0)

  flow_renumbered : (w : Flow) (f : ℕ) (free : ℕ → ℕ) (n : ℕ) → map (renumber to) (flow_rows w f free n) ≡ flow_rows w (to f) free n
  unfolding flow_rows
  flow_renumbered w f free n =
      let left : ℕ → List PseudoJob = λ t. (progress w free t).left in
      let done : ℕ → ℕ = λ t. (progress w free t).done in
      map_join (renumber to) (λ t. slot_rows w f t (left t) (done t) (free t)) n 0
      ∙ (λ x. join_from (λ t. slot_renumbered w f t (left t) (done t) (free t) x) n 0)

  settled_renumbered : (f : ℕ) (left : List PseudoJob) (rows : List Row) → settled (to f) left (map (renumber to) rows) ≡ renumber_plan to (settled f left rows)
  settled_renumbered f [] rows = refl
  settled_renumbered f (p ∷ ps) rows = refl

  -- ---- a flow of one book that is used like a flow of another
  module _ (b c : Book) (same-processors : b.processors ≡ c.processors) (same-calendar : b.calendar ≡ c.calendar)
      (f : ℕ) (same_flow : flow_of b (to f) ≡ flow_of c f) (rows : List Row) where
    free_renumbered : (t : ℕ) → free_processors b (to f) (map (renumber to) rows) t ≡ free_processors c f rows t
    unfolding free_processors usable
    free_renumbered t = rw (same_flow, same-processors, same-calendar, used_renumbered rows t) refl

    place_renumbered : place_flow b (to f) (map (renumber to) rows) ≡ renumber_plan to (place_flow c f rows)
    unfolding place_flow
    place_renumbered =
        let w = flow_of c f in
        let free = free_processors c f rows in
        let same-free : free_processors b (to f) (map (renumber to) rows) ≡ free = λ x t. free_renumbered t x in
        let left = (progress w free (slots_for c w)).left in
        rw (same_flow, same-free, limit-same b c same-calendar w)
        (ap (settled (to f) left)
        (ap (map (renumber to) rows ++◌) (sym (flow_renumbered w f free (slots_for c w)))
        ∙ sym (map-append (renumber to) rows (flow_rows w f free (slots_for c w))))
        ∙ settled_renumbered f left (rows ++ flow_rows w f free (slots_for c w)))

  -- ---- the finish of a flow whose number no other flow is given
  finish_renumbered : (rows : List Row) (m : ℕ) → ((r : Row) → r ∈ rows → to r.flow ≡ to m → r.flow ≡ m) →
      finish_of (map (renumber to) rows) (to m) ≡ finish_of rows m
  unfolding finish_of
  finish_renumbered [] m once = refl
  finish_renumbered (r ∷ rs) m once =
      let same : eqb (to r.flow) (to m) ≡ eqb r.flow m =
      same_test (eqb (to r.flow) (to m)) (eqb r.flow m) (λ e. eq-eqb r.flow m (once r (first_in r rs) (eqb-true (to r.flow) (to m) e)))
      (λ e. eq-eqb (to r.flow) (to m) (ap to (eqb-true r.flow m e))) in
      rw (same, finish_renumbered rs m (λ x i. once x (Memᴰ.tail i))) refl

-- ---- the cut book
module _ (b : Book) (k : ℕ) (fits : k ≤ flow_count b) where
  -- the first n flows of it, under their numbers in the whole book
  pub cut_places : (n : ℕ) → n ≤ k → place_first b n ≡ renumber_plan (kept b k) (place_first (cut b k) n)
  unfolding place_first
  cut_places zero l = refl
  cut_places (suc n) l =
      ap (λ p. then_place p (place_flow b (served_at b n))) (cut_places n (omega arith)) ∙ go (place_first (cut b k) n)
    where
      f : ℕ
      f = served_at (cut b k) n

      at : kept b k f ≡ served_at b n
      at = cut_service b k fits n l

      go : (p : Plan) → then_place (renumber_plan (kept b k) p) (place_flow b (served_at b n)) ≡ renumber_plan (kept b k) (then_place p (place_flow (cut b k) f))
      go (infeasible g) = refl
      go (planned rows) =
          ap (λ g. place_flow b g (map (renumber (kept b k)) rows)) (sym at)
          ∙ place_renumbered (kept b k) b (cut b k) (sym (cut-processors b k)) (sym (cut-calendar b k)) f (ap (flow_of b) at ∙ sym (cut_service-flow b k fits n l)) rows

  -- so are all of them
  pub cut-plan : place_first b k ≡ renumber_plan (kept b k) (plan (cut b k))
  unfolding plan
  cut-plan = cut_places k (omega arith) ∙ ap (λ n. renumber_plan (kept b k) (place_first (cut b k) n)) (sym (cut-count b k fits))

  -- each flow of it has its finish
  pub cut-finish : InRange b → (rows : List Row) → plan (cut b k) ≡ planned rows → (m : ℕ) → m < flow_count (cut b k) →
      finish_of (map (renumber (kept b k)) rows) (kept b k m) ≡ finish_of rows m
  cut-finish range rows e m l =
      finish_renumbered (kept b k) rows m
      (λ r i. kept-once b k r.flow m (planned-rows-fit (cut b k) (cut_in-range b k range) rows e r i).flow_in_is l)
