-- Maintenance as rows beside those of the flows: in a shut slot it uses all processors, so that a flow of a book
-- without a calendar finds free beside it what the same flow of the book with the calendar finds free. The rows of the
-- flows then use no shut slot, and the area without the maintenance holds their use alone. Assumes nothing.
use mathlib.Core.Path.{◌≡◌, refl, sym, ap, subst, ◌∙◌}
use Prim.Native.Nat.{ℕ, ◌+◌, ◌*◌, ◌-◌, ◌≤◌, ◌<◌}
use native.Mathlib.Omega.{arith}
use mathlib.Core.Bool.{Bool, true, false}
use mathlib.Core.List.{List, [], ◌∷◌, ◌++◌, append_assoc}
use mathlib.Core.Logic.{◌⊎◌, inl, inr}
use lib.Dec.{eqb}
use borrow.Author.Tests.{eq-eqb, ne_eqb}
use Rattle.std.specs.Prelude.{if◌then◌else◌}
use Rattle.rules.specs.Walks.{join_from}
use Rattle.rules.specs.Limits.{most_flows, slots}
use Rattle.rules.specs.Fields.{bytes_of}
use Rattle.rules.specs.Calendar.{Calendar, is_open, open_before, slot_after, CalendarInRange}
use Rattle.rules.specs.Book.{Flow, Book, with_calendar, flow_of, twice_deadline}
use Rattle.rules.specs.PseudoJobs.{PseudoJob}
use Rattle.rules.specs.Rows.{Row, row_for, sum_where, used_in, finish_of, work_used, work_zero}
use Rattle.rules.specs.Placing.{Progress, progress, flow_rows, free_processors, slots_for, planned, infeasible, settled, place_flow}
use Rattle.rules.proofs.Laws.Division.{lt-or_ge}
use Rattle.rules.proofs.Rows.WorkArea.{used-rest, used-cleared}
use Rattle.rules.proofs.Laws.Sums.{sum_one, sum-nothing}
use Rattle.rules.proofs.Rows.FlowRows.{sum_where_join, row_counts, row_does-not-count, used-append}
use Rattle.rules.proofs.Placing.OpenSlots.{reopened}
use Rattle.rules.proofs.Placing.Usable.{usable-from, shut-unusable, free-usable, none_free, free-from-release, none-free-before}
use Rattle.rules.proofs.Reading.SameUse.{with-same}
use Rattle.calendar.specs.Area.{area_holding}
use Rattle.calendar.proofs.Area.{used_holding, holding_ext}
use Rattle.place.specs.Output.{Put}
use Rattle.place.specs.Flows.{stands_at, new_rows, FlowDone, FlowInfeasible}
use Rattle.place.specs.Order.{shut_rows}

-- ---- the use of a slot
-- one row a slot, with g u processors in slot u
module _ (g : ℕ → ℕ) (n t : ℕ) where
  abbrev rows : List Row
  rows = join_from (λ u. row_for u most_flows 0 (g u)) n 0

  used-here : t < n → used_in rows t ≡ g t
  unfolding used_in
  used-here l =
      sum_where_join (λ r. eqb r.slot t) (λ u. row_for u most_flows 0 (g u)) n
      ∙ sum_one (λ u. sum_where (λ r. eqb r.slot t) (row_for u most_flows 0 (g u))) n t l
      (λ u m ne. row_does-not-count (λ r. eqb r.slot t) u most_flows 0 (g u) (ne_eqb u t ne))
      ∙ row_counts (λ r. eqb r.slot t) t most_flows 0 (g t) (eq-eqb t t refl)

  used-past : n ≤ t → used_in rows t ≡ 0
  unfolding used_in
  used-past l =
      sum_where_join (λ r. eqb r.slot t) (λ u. row_for u most_flows 0 (g u)) n
      ∙ sum-nothing _ n (λ u m. row_does-not-count (λ r. eqb r.slot t) u most_flows 0 (g u) (ne_eqb u t (λ (e : u ≡ t). omega arith)))

module _ (b : Book) (range : CalendarInRange b.calendar) where
  pub shut-used : (t : ℕ) → used_in (shut_rows b) t ≡ (if is_open b.calendar t then 0 else b.processors)
  unfolding shut_rows
  shut-used t = go (lt-or_ge t slots)
    where
      go : (t < slots) ⊎ (slots ≤ t) → used_in (shut_rows b) t ≡ (if is_open b.calendar t then 0 else b.processors)
      go (inl l) = used-here (λ u. if is_open b.calendar u then 0 else b.processors) slots t l
      go (inr l) = used-past (λ u. if is_open b.calendar u then 0 else b.processors) slots t l ∙ rw (reopened b.calendar range t (omega arith)) refl

  open-used : (t : ℕ) → is_open b.calendar t ≡ true → used_in (shut_rows b) t ≡ 0
  open-used t e = shut-used t ∙ rw e refl

  all-used : (t : ℕ) → is_open b.calendar t ≡ false → used_in (shut_rows b) t ≡ b.processors
  all-used t e = shut-used t ∙ rw e refl

  pub shut-within : (t : ℕ) → used_in (shut_rows b) t ≤ b.processors
  shut-within t = go (is_open b.calendar t) refl
    where
      go : (o : Bool) → is_open b.calendar t ≡ o → used_in (shut_rows b) t ≤ b.processors
      go true e = omega (arith, open-used t e)
      go false e = omega (arith, all-used t e)

-- ---- one flow: beside the maintenance without a calendar, or with the calendar
-- the rows that it adds, in the slots below its limit
abbrev pub added_rows : Book → ℕ → List Row → List Row
added_rows b f rows = new_rows b f (slots_for b (flow_of b f)) rows

-- the flow is placed beside the rows before it and the maintenance
pub record FlowAdded (b : Book) (f : ℕ) (rows : List Row) (area out : List ℕ) (at : ℕ) (out' area' : List ℕ) (finish next : ℕ) : Type 0 where
  pub placed : place_flow b f rows ≡ planned (rows ++ added_rows b f rows)
  pub put : Put out at (added_rows b f rows) out' next
  pub area_used : area' ≡ work_used slots (shut_rows b ++ (rows ++ added_rows b f rows)) area
  pub ends : finish ≡ finish_of (added_rows b f rows) f
  pub within : (t : ℕ) → used_in (shut_rows b ++ (rows ++ added_rows b f rows)) t ≤ b.processors
  pub next_within : next ≤ at + 3145728

-- work that is left makes the book infeasible
work-left : (f : ℕ) (ps : List PseudoJob) (rows : List Row) → (ps ≡ [] → ⊥) → settled f ps rows ≡ infeasible f
work-left f [] _ some = absurd (some refl)
work-left f (p ∷ ps) _ some = refl

module _ (c : Calendar) (b : Book) (range : CalendarInRange c) (none : b.calendar ≡ []) (f : ℕ) where
  abbrev B : Book
  B = with_calendar c b

  same_flow : flow_of b f ≡ flow_of B f
  same_flow = sym ((with-same c b).flow f)

  -- the limit of rule 6, by the deadline
  pub limit_is : (deadline limit : ℕ) → deadline ≡ (flow_of b f).deadline → limit ≡ slot_after c (2 * open_before c deadline) → limit ≡ slots_for B (flow_of B f)
  unfolding slots_for twice_deadline
  limit_is deadline limit d e = e ∙ ap (λ (n : ℕ). slot_after c (2 * open_before c n)) (d ∙ ap (λ (w : Flow). w.deadline) same_flow)

  free-at : (rows : List Row) (t : ℕ) → free_processors b f (shut_rows B ++ rows) t ≡ free_processors B f rows t
  free-at rows t = go (lt-or_ge t (flow_of b f).release) (is_open c t) refl
    where
      release : (flow_of b f).release ≡ (flow_of B f).release
      release = ap (λ (w : Flow). w.release) same_flow

      go : (t < (flow_of b f).release) ⊎ ((flow_of b f).release ≤ t) → (o : Bool) → is_open c t ≡ o →
          free_processors b f (shut_rows B ++ rows) t ≡ free_processors B f rows t
      go (inl l) o e = none-free-before b f (shut_rows B ++ rows) t l ∙ sym (none-free-before B f rows t (omega (arith, release)))
      go (inr l) true e =
          let left : b.processors - used_in (shut_rows B ++ rows) t ≡ b.processors - used_in rows t =
          omega (arith, used-append (shut_rows B) rows t, open-used B range t e) in
          free-from-release b f (shut_rows B ++ rows) t none l ∙ left
          ∙ sym (free-usable B f rows t (usable-from B (flow_of B f) t e (omega (arith, release))))
      go (inr l) false e =
          let left : b.processors - used_in (shut_rows B ++ rows) t ≡ 0 = omega (arith, used-append (shut_rows B) rows t, all-used B range t e) in
          free-from-release b f (shut_rows B ++ rows) t none l ∙ left
          ∙ sym (none_free B f rows t (shut-unusable B (flow_of B f) t e))

  module _ (rows : List Row) (limit : ℕ) (e : limit ≡ slots_for B (flow_of B f)) where
    stands_same : stands_at b f limit (shut_rows B ++ rows) ≡ stands_at B f (slots_for B (flow_of B f)) rows
    stands_same = λ x. progress (same_flow x) (λ t. free-at rows t x) (e x)

    added-same : new_rows b f limit (shut_rows B ++ rows) ≡ added_rows B f rows
    added-same = λ x. flow_rows (same_flow x) f (λ t. free-at rows t x) (e x)

    all_same : (shut_rows B ++ rows) ++ new_rows b f limit (shut_rows B ++ rows) ≡ shut_rows B ++ (rows ++ added_rows B f rows)
    all_same = append_assoc (shut_rows B) rows (new_rows b f limit (shut_rows B ++ rows)) ∙ ap (λ (new : List Row). shut_rows B ++ (rows ++ new)) added-same

    pub flow-added : {area out out' area' : List ℕ} {at finish next : ℕ} → FlowDone b f limit (shut_rows B ++ rows) area out at out' area' finish next →
        FlowAdded B f rows area out at out' area' finish next
    flow-added {area} {out} {out'} {area'} {at} {finish} {next} d = record {
      placed = unfold place_flow in rw (sym (ap (λ (g : Progress). g.left) stands_same) ∙ d.finished) refl;
      put = subst (λ (new : List Row). Put out at new out' next) added-same d.put;
      area_used = d.area_used ∙ ap (λ (all : List Row). work_used slots all area) all_same;
      ends = d.ends ∙ ap (λ (new : List Row). finish_of new f) added-same;
      within = λ t. subst (λ (all : List Row). used_in all t ≤ b.processors) all_same (d.within t);
      next_within = d.next_within;
    }

    pub flow-refused : {area out out' area' : List ℕ} → FlowInfeasible b f limit (shut_rows B ++ rows) area out out' area' → place_flow B f rows ≡ infeasible f
    unfolding place_flow
    flow-refused d = work-left f _ _ (λ q. d.unfinished (ap (λ (g : Progress). g.left) stands_same ∙ q))

-- ---- the area
-- rows counted over the use of others are counted over the area that it was
pub used-again : (n : ℕ) (rows others : List Row) (area : List ℕ) → work_used n rows (work_used n others area) ≡ work_used n rows area
unfolding work_used
used-again n rows others area = ap (λ (l : List ℕ). join_from (λ t. bytes_of 2 (used_in rows t)) n 0 ++ l) (used-rest n others area)

-- an area with any use, cleared
holding-cleared : (n : ℕ) (g : ℕ → ℕ) (area : List ℕ) → work_zero n (area_holding n g area) ≡ work_zero n area
holding-cleared n g area =
    let rows = join_from (λ u. row_for u most_flows 0 (g u)) n 0 in
    ap (work_zero n) (holding_ext n area g (used_in rows) (λ t l. sym (used-here g n t l)) ∙ sym (used_holding n rows area)) ∙ used-cleared n rows area

-- a value in each shut slot of an area, the others as they were
abbrev pub ShutTo : Calendar → ℕ → List ℕ → List ℕ → Type 0
ShutTo c value area area' = (used : ℕ → ℕ) (bytes : List ℕ) → area ≡ area_holding slots used bytes →
    area' ≡ area_holding slots (λ t. if is_open c t then used t else value) bytes

module _ (b : Book) (range : CalendarInRange b.calendar) where
  -- all processors there: the area holds the maintenance
  pub shut_area : (area area' : List ℕ) → area ≡ work_used slots [] area → ShutTo b.calendar b.processors area area' → area' ≡ work_used slots (shut_rows b) area
  unfolding used_in sum_where
  shut_area area area' e set =
      set (used_in []) area (e ∙ used_holding slots [] area) ∙ holding_ext slots area _ (used_in (shut_rows b)) (λ t l. sym (shut-used b range t))
      ∙ sym (used_holding slots (shut_rows b) area)

  -- 0 there, and the area holds the use of the flows alone
  pub opened-area : (rows : List Row) (area₀ area area' : List ℕ) → ((t : ℕ) → used_in (shut_rows b ++ rows) t ≤ b.processors) →
      area ≡ work_used slots (shut_rows b ++ rows) area₀ → ShutTo b.calendar 0 area area' → area' ≡ work_used slots rows area₀
  opened-area rows area₀ area area' within e set =
      set (used_in (shut_rows b ++ rows)) area₀ (e ∙ used_holding slots (shut_rows b ++ rows) area₀)
      ∙ holding_ext slots area₀ _ (used_in rows) (λ t l. go t (is_open b.calendar t) refl) ∙ sym (used_holding slots rows area₀)
    where
      go : (t : ℕ) (o : Bool) → is_open b.calendar t ≡ o → (if o then used_in (shut_rows b ++ rows) t else 0) ≡ used_in rows t
      go t true q = omega (arith, used-append (shut_rows b) rows t, open-used b range t q)
      go t false q = omega (arith, used-append (shut_rows b) rows t, all-used b range t q, within t)

  -- whatever it held, it is cleared as before
  pub opened-cleared : (others : List Row) (area₀ area area' : List ℕ) → area ≡ work_used slots others area₀ → ShutTo b.calendar 0 area area' →
      work_zero slots area' ≡ work_zero slots area₀
  opened-cleared others area₀ area area' e set = ap (work_zero slots) (set (used_in others) area₀ (e ∙ used_holding slots others area₀)) ∙ holding-cleared slots _ area₀
