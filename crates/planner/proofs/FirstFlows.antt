-- The first flows in service order with their rows: a flow is put behind the rows of those before it, and its finish is
-- stored. How that starts, goes on, and ends. Assumes nothing.
use mathlib.Core.Path.{◌≡◌, refl, sym, ap, subst, ◌∙◌}
use Prim.Native.Nat.{ℕ, zero, suc, ◌+◌, ◌*◌, ◌≤◌, ◌<◌}
use native.Mathlib.Omega.{arith}
use mathlib.Core.List.{List, [], ◌++◌}
use mathlib.Core.Logic.{◌⊎◌, inl, inr}
use lib.ListN.{length, get_or, set, replicate, length-append, length-replicate, length-set}
use lib.Seq.{get_or-set_same, get_or-set_other}
use Rattle.std.specs.Prelude.{Result, Ok, Err}
use Rattle.rules.specs.declared.Fault.TheVariants as fault
use Rattle.rules.specs.declared.Refusal.{Refusal}
use Rattle.rules.specs.Answers.{none}
use Rattle.rules.specs.Faults.{refusal_at}
use Rattle.rules.specs.Limits.{slots}
use Rattle.rules.specs.Calendar.{CalendarInRange}
use Rattle.rules.specs.Book.{Book, flow_count}
use Rattle.rules.specs.Service.{served_at}
use Rattle.rules.specs.Rows.{Row, finish_of, work_used}
use Rattle.rules.specs.Placing.{infeasible, place_first}
use Rattle.rules.specs.Table.{table_head, table_length}
use Rattle.rules.proofs.Laws.Division.{lt-or_ge}
use Rattle.rules.proofs.Reading.ServiceOrder.{service-below}
use Rattle.place.specs.Output.{Put, put_rows}
use Rattle.place.specs.Order.{shut_rows, Stands}
use Rattle.place.specs.Turns.{turn_rows, TurnTaken, TakenOut}
use Rattle.place.proofs.Output.{put-more}
use Rattle.place.proofs.Maintenance.{added_rows, FlowAdded}
use Rattle.place.proofs.FlowByFlow.{stands-none, stands-next, own-finish, other-finish}
use Rattle.planner.specs.declared.Whole.{Whole}
use Rattle.planner.specs.Whole.{RowsPut, ended_of, FlowsPlaced, FirstPlaced}

-- ---- where the planner is after k flows
pub record PutSoFar (b : Book) (k : ℕ) (rows : List Row) (out area out' area' finishes : List ℕ) (next : ℕ) : Type 0 where
  pub stands : Stands b k rows area area'
  pub rows_put : RowsPut b k rows out out' finishes next
  pub size : length finishes ≡ 64

-- a table is at most 201,326,728 bytes
pub offset_most : {b : Book} {k : ℕ} {rows : List Row} {out out' finishes : List ℕ} {next : ℕ} → k ≤ flow_count b → flow_count b ≤ 64 →
    RowsPut b k rows out out' finishes next → next ≤ 136 + 3145728 * k
offset_most l h p = omega (arith, p.put.offset, p.few)

-- ---- no flow
zero-at : (n i : ℕ) → ◌≡◌ {A = ℕ} (get_or (replicate n 0) i 0) 0
zero-at zero i = refl
zero-at (suc n) zero = refl
zero-at (suc n) (suc i) = zero-at n i

pub put-none_yet : (b : Book) (out area : List ℕ) (next n : ℕ) → CalendarInRange b.calendar → area ≡ work_used slots (shut_rows b) area →
    next ≡ table_head b → n ≡ 64 → PutSoFar b 0 [] out area out area (replicate n 0) next
unfolding put_rows finish_of
put-none_yet b out area next n range holds e whole = record {
  stands = stands-none b area range holds;
  rows_put = record { put = record { output = refl; offset = omega arith }; finish = λ f l. zero-at n f; few = omega arith };
  size = length-replicate n 0 ∙ whole;
}

-- ---- one flow more: flow f, which is served at position k
module _ {b : Book} {k : ℕ} {rows : List Row} {out area out' area' finishes : List ℕ} {next : ℕ} (s : PutSoFar b k rows out area out' area' finishes next)
    (l : k < flow_count b) (few_flows : flow_count b ≤ 64) {out'' area'' : List ℕ} {finish next'' : ℕ} where
  more : (f : ℕ) (new : List Row) → f ≡ served_at b k → Stands b (k + 1) (rows ++ new) area area'' → Put out' next new out'' next'' →
      finish ≡ finish_of (rows ++ new) f → ((g : ℕ) → (g ≡ f → ⊥) → finish_of (rows ++ new) g ≡ finish_of rows g) → next'' ≤ next + 3145728 →
      PutSoFar b (k + 1) (rows ++ new) out area out'' area'' (set finishes f finish) next''
  more f new q stands put ends others_stay next_within = record {
    stands = stands;
    rows_put = record {
      put = put-more out out' out'' (table_head b) next next'' rows new s.rows_put.put put;
      finish = each;
      few = omega (arith, length-append rows new, next_within, put.offset, s.rows_put.few);
    };
    size = length-set finishes f finish ∙ s.size;
  }
    where
      room : f < length finishes
      room = omega (arith, q, service-below b k l, s.size)

      each : (g : ℕ) → g < flow_count b → get_or (set finishes f finish) g 0 ≡ finish_of (rows ++ new) g
      each g h = go (lt-or_ge g f) (lt-or_ge f g)
        where
          own : g ≡ f → get_or (set finishes f finish) g 0 ≡ finish_of (rows ++ new) g
          own e = rw e (get_or-set_same finishes f finish 0 room ∙ ends)

          other : (g ≡ f → ⊥) → get_or (set finishes f finish) g 0 ≡ finish_of (rows ++ new) g
          other ne = get_or-set_other finishes f g finish 0 ne ∙ s.rows_put.finish g h ∙ sym (others_stay g ne)

          go : (g < f) ⊎ (f ≤ g) → (f < g) ⊎ (g ≤ f) → get_or (set finishes f finish) g 0 ≡ finish_of (rows ++ new) g
          go (inl m) y = other (λ e. omega arith)
          go (inr m) (inl o) = other (λ e. omega arith)
          go (inr m) (inr o) = own (omega arith)

-- .. where it is added beside the rows before it
pub goes_on : {b : Book} {k f : ℕ} {rows : List Row} {out area out' area' finishes : List ℕ} {next : ℕ} →
    PutSoFar b k rows out area out' area' finishes next → k < flow_count b → f ≡ served_at b k → flow_count b ≤ 64 →
    {out'' area'' : List ℕ} {finish next'' : ℕ} → FlowAdded b f rows area out' next out'' area'' finish next'' →
    PutSoFar b (k + 1) (rows ++ added_rows b f rows) out area out'' area'' (set finishes f finish) next''
goes_on {b} {k} {f} {rows} s l q few_flows d =
    more s l few_flows f (added_rows b f rows) q (stands-next s.stands l q d) d.put (own-finish s.stands l q d) (other-finish s.stands l q) d.next_within

-- .. and where it has its turn
pub goes_on-turn : {b : Book} {k : ℕ} {rows : List Row} {out area out' area' finishes : List ℕ} {next : ℕ} →
    PutSoFar b k rows out area out' area' finishes next → k < flow_count b → flow_count b ≤ 64 →
    {out'' area'' : List ℕ} {finish next'' : ℕ} → TurnTaken b k rows area out' next out'' area'' finish next'' →
    PutSoFar b (k + 1) (rows ++ turn_rows b k rows) out area out'' area'' (set finishes (served_at b k) finish) next''
goes_on-turn {b} {k} {rows} s l few_flows d =
    more s l few_flows (served_at b k) (turn_rows b k rows) refl d.stands d.put d.ends d.others_stay d.next_within

-- ---- the end
module _ (b : Book) (k : ℕ) (out area out' area' : List ℕ) where
  -- all are placed
  pub ends-planned : (j : ℕ) (rows : List Row) (w : Whole) → PutSoFar b j rows out area out' area' w.finishes w.end → j ≡ k →
      FlowsPlaced b k out area out' area' (Ok w)
  unfolding table_length
  ends-planned j rows w stood q = let s : PutSoFar b k rows out area out' area' w.finishes w.end = rw q at stood in record {
    ends = ap (λ (n : ℕ). Ok n) s.rows_put.put.offset ∙ ap (ended_of b) (sym s.stands.placed);
    rows_put = λ others d. let p = s.stands.placed in let e : others ≡ rows = cc in rw (e, ← s.rows_put.put.offset) s.rows_put;
    stands = λ others d. let p = s.stands.placed in let e : others ≡ rows = cc in rw e s.stands;
    others = shut_rows b ++ rows;
    area_used = s.stands.area_used;
  }

  -- one of them is infeasible
  pub ends-infeasible : (f : ℕ) (others : List Row) → place_first b k ≡ infeasible f → area' ≡ work_used slots others area →
      FlowsPlaced b k out area out' area' (Err (refusal_at fault.Infeasible f none))
  ends-infeasible f others p a = record {
    ends = ap (ended_of b) (sym p);
    rows_put = λ rows d. cc;
    stands = λ rows d. cc;
    others = others;
    area_used = a;
  }

  -- the maintenance is taken out of the area again
  pub first-placed : (r : Result Whole Refusal) (area₁ area₂ : List ℕ) → area₁ ≡ work_used slots (shut_rows b) area →
      FlowsPlaced b k out area₁ out' area₂ r → TakenOut b area area₂ area' → FirstPlaced b k out area out' area' r
  first-placed r area₁ area₂ e p taken = record {
    ends = p.ends;
    rows_put = p.rows_put;
    area_used = λ rows d. taken.flows_left k rows (subst (λ (a : List ℕ). Stands b k rows a area₂) e (p.stands rows d));
    cleared = taken.cleared p.others (p.area_used ∙ ap (work_used slots p.others) e);
  }
