-- Flow after flow without rows, beside the maintenance: how placing begins, goes on by a flow that is placed, and stops
-- at one that is infeasible. Assumes nothing.
use mathlib.Core.Path.{◌≡◌, refl, sym, ap, subst, ◌∙◌}
use Prim.Native.Nat.{ℕ, ◌+◌, ◌<◌}
use native.Mathlib.Numerals.{add-one}
use native.Mathlib.Omega.{arith}
use mathlib.Core.Bool.{false}
use mathlib.Core.List.{List, [], ◌++◌}
use lib.ListN.{length, get_or}
use Rattle.std.specs.Prelude.{Option, Some, None, Ok, Err, ◌≤◌}
use Rattle.rules.specs.declared.Fault.{Fault}
use Rattle.rules.specs.declared.Fault.TheVariants as fault
use Rattle.rules.specs.Limits.{slots, work_bytes}
use Rattle.rules.specs.Calendar.{Calendar, CalendarInRange}
use Rattle.rules.specs.Book.{Book, with_calendar, flow_count}
use Rattle.rules.specs.Reading.{book_of}
use Rattle.rules.specs.Service.{served_at}
use Rattle.rules.specs.Rows.{Row, finish_of, work_used}
use Rattle.rules.specs.Placing.{infeasible}
use Rattle.rules.proofs.Reading.Passing.{calendar_of_book, pass_in-range}
use Rattle.rules.proofs.Reading.ServiceOrder.{service-below}
use Rattle.rules.proofs.Reading.SameUse.{with-same, service-same}
use Rattle.book.proofs.Starts.{flows-few}
use Rattle.place.specs.declared.Placed.{Placed}
use Rattle.place.specs.declared.in_turn.Turns.{Turns}
use Rattle.place.proofs.TurnByTurn.{served_is, served-below}
use Rattle.place.specs.Flows.{FlowInfeasible, FlowPlaced}
use Rattle.place.specs.Order.{shut_rows, Stands}
use Rattle.place.proofs.Maintenance.{added_rows, FlowAdded, flow-added, flow-refused}
use Rattle.place.proofs.FlowByFlow.{stands-none, stands-next, own-finish, infeasible-next}
use Rattle.place.specs.Turns.{whole_book, turn_rows, TurnTaken, TurnRefused}
use Rattle.finish.specs.declared.Placement.{Placement}
use Rattle.finish.specs.Flows.{PlacedTo, NextAsked, FlowAsked, Moved, Stayed, LimitOf, NextPlaced, FlowGoesOn}

-- no flow is placed, and the area holds the maintenance
pub placed-first : (b : Book) (area : List ℕ) → Stands b 0 [] area area → PlacedTo b area area (record { position = 0; finish = 0 })
placed-first b area stands = record { rows = []; stands = stands; finish = λ k e. absurd (omega arith) }

pub placed-none : (b : Book) (area : List ℕ) → CalendarInRange b.calendar → area ≡ work_used slots (shut_rows b) area →
    PlacedTo b area area (record { position = 0; finish = 0 })
placed-none b area range holds = placed-first b area (stands-none b area range holds)

-- ---- one flow more: the one at the state's position
module _ {b : Book} {area : List ℕ} {p : Placement} where
  pub next-asked : {bytes : List ℕ} → PlacedTo b bytes area p → p.position < flow_count b → work_bytes ≤ length area → NextAsked b area p
  next-asked {bytes} so_far_lem below long_enough =
      record { below = below; long_enough = long_enough; bytes = bytes; rows = shut_rows b ++ so_far_lem.rows; area_used = so_far_lem.stands.area_used; within = so_far_lem.stands.within }

  pub finish-fits-turn : (a : NextAsked b area p) {finish : ℕ} → finish ≤ slots → finish < 65536
  finish-fits-turn a l = omega (arith, l)

  module _ {bytes : List ℕ} (so_far_lem : PlacedTo b bytes area p) where
    pub moves-on-turn : {out out' area' : List ℕ} {at finish next : ℕ} → TurnTaken b p.position so_far_lem.rows bytes out at out' area' finish next →
        Moved b bytes area' p (record { position = p.position + 1; finish = finish })
    moves-on-turn taken = record {
      moves = add-one p.position;
      so_far_lem = record {
        rows = so_far_lem.rows ++ turn_rows b p.position so_far_lem.rows;
        stands = taken.stands;
        finish = λ k l.
            let here : k ≡ p.position = omega arith in
            taken.ends ∙ ap (λ (j : ℕ). finish_of (so_far_lem.rows ++ turn_rows b p.position so_far_lem.rows) (served_at b j)) (sym here);
      };
    }

    pub stays_put-turn : {area' : List ℕ} → TurnRefused b p.position bytes area' → Stayed b bytes area' p fault.Infeasible
    stays_put-turn d = record { infeasible_is = refl; stopped = record { refused = d.refused; others = d.others; area_used = d.area_used } }

-- the flow at the state's position, found in the list of the service order
pub flow_fits : (t : Turns) (p : Placement) {f : ℕ} → p.position < flow_count (book_of t.book.now.bytes.now) →
    f ≡ get_or t.order.items p.position 0 → f < 64
flow_fits t p l q =
    let x = t.book.now in
    let y = t.calendar.now in
    omega (arith, q, served_is x y t.order.items p.position t.in_order, served-below x y p.position l, flows-few x)

-- it may be placed next, below any limit
pub next-asked-below : (t : Turns) {p : Placement} {bytes area : List ℕ} {f limit : ℕ} → PlacedTo (whole_book t.book.now t.calendar.now) bytes area p →
    p.position < flow_count (book_of t.book.now.bytes.now) → f ≡ get_or t.order.items p.position 0 → work_bytes ≤ length area → limit ≤ slots →
    FlowAsked t.book.now.bytes.now area p f limit
next-asked-below t {p} {bytes} so_far_lem below q long_enough most =
    let plain = book_of t.book.now.bytes.now in
    record {
      passes = t.book.now.passes;
      limit_most = most;
      long_enough = long_enough;
      below = below;
      served = λ c. q ∙ ap (λ (l : List ℕ). get_or l p.position 0) (t.in_order ∙ sym (service-same (with_calendar c plain) plain (with-same c plain)));
      bytes = bytes;
      rows = shut_rows (whole_book t.book.now t.calendar.now) ++ so_far_lem.rows;
      area_used = so_far_lem.stands.area_used;
      within = so_far_lem.stands.within;
    }

-- ---- the same of flow f below a limit, by each calendar that it is the limit of
module _ {s area : List ℕ} {p : Placement} {f limit : ℕ} (a : FlowAsked s area p f limit) where
  pub position-fits : p.position < 64
  position-fits = omega (arith, a.below, (pass_in-range s a.passes).flows_most)

  pub flow_in : f < flow_count (book_of s)
  flow_in =
      let c = (book_of s).calendar in
      let below : served_at (with_calendar c (book_of s)) p.position < flow_count (book_of s) =
      service-below (with_calendar c (book_of s)) p.position a.below in
      omega (arith, below, a.served c)

  pub finish-fits : (out out' area' : List ℕ) (at : ℕ) (q : Option Placed) → FlowPlaced false (book_of s) f limit a.rows a.bytes out at out' area' q →
      {r : Placed} → q ≡ Some r → r.finish < 65536
  finish-fits out out' area' at q answer e =
      omega (arith, (subst (FlowPlaced false (book_of s) f limit a.rows a.bytes out at out' area') e answer).2.finish_within, a.limit_most)

  module _ {c : Calendar} (range : CalendarInRange c) (rule-6 : LimitOf (with_calendar c (book_of s)) f limit) {bytes : List ℕ}
      (so_far_lem : PlacedTo (with_calendar c (book_of s)) bytes area p) where
    abbrev b : Book
    b = with_calendar c (book_of s)

    abbrev rows : List Row
    rows = so_far_lem.rows

    served : f ≡ served_at b p.position
    served = a.served c

    module _ (out out' area' : List ℕ) (at : ℕ) (q : Option Placed) (answer : FlowPlaced false (book_of s) f limit (shut_rows b ++ rows) bytes out at out' area' q) where
      went : {r : Option Placed} → q ≡ r → FlowPlaced false (book_of s) f limit (shut_rows b ++ rows) bytes out at out' area' r
      went e = subst (FlowPlaced false (book_of s) f limit (shut_rows b ++ rows) bytes out at out' area') e answer

      pub moves-on : {r : Placed} → q ≡ Some r → Moved b bytes area' p (record { position = p.position + 1; finish = r.finish })
      moves-on {r} e = record {
        moves = add-one p.position;
        so_far_lem = record {
          rows = rows ++ added_rows b f rows;
          stands = stands-next so_far_lem.stands a.below served added;
          finish = λ k l.
              let here : k ≡ p.position = omega arith in
              own-finish so_far_lem.stands a.below served added ∙ ap (finish_of (rows ++ added_rows b f rows)) (served ∙ ap (served_at b) (sym here));
        };
      }
        where
          added : FlowAdded b f rows bytes out at out' area' r.finish (went e).0
          added = flow-added c (book_of s) range (calendar_of_book s) f rows limit rule-6 (went e).2

      pub stays_put : q ≡ None → Stayed b bytes area' p fault.Infeasible
      stays_put e =
          let d : FlowInfeasible (book_of s) f limit (shut_rows b ++ rows) bytes out out' area' = went e in
          record {
            infeasible_is = refl;
            stopped = record {
              refused =
                  infeasible-next so_far_lem.stands a.below served (flow-refused c (book_of s) range (calendar_of_book s) f rows limit rule-6 d)
                  ∙ ap infeasible served;
              others = d.others;
              area_used = d.area_used;
            };
          }

-- ---- flow after flow: which way a step went
module _ (b : Book) {bytes area area' : List ℕ} {p : Placement} (so_far_lem : PlacedTo b bytes area p) where
  pub moved : (r : Placement) → NextPlaced b p area area' (Ok r) → Moved b bytes area' p r
  unfolding NextPlaced
  moved r n = n bytes so_far_lem

  pub stopped : (e : Fault) → NextPlaced b p area area' (Err e) → Stayed b bytes area' p e
  unfolding NextPlaced
  stopped e n = n bytes so_far_lem

module _ (s : List ℕ) (f limit : ℕ) {c : Calendar} {bytes area area' : List ℕ} {p : Placement} (range : CalendarInRange c)
    (rule-6 : LimitOf (with_calendar c (book_of s)) f limit) (so_far_lem : PlacedTo (with_calendar c (book_of s)) bytes area p) where
  pub moved-below : (r : Placement) → FlowGoesOn s f limit p area area' (Ok r) → Moved (with_calendar c (book_of s)) bytes area' p r
  unfolding FlowGoesOn
  moved-below r n = n c range rule-6 bytes so_far_lem

  pub stopped-below : (e : Fault) → FlowGoesOn s f limit p area area' (Err e) → Stayed (with_calendar c (book_of s)) bytes area' p e
  unfolding FlowGoesOn
  stopped-below e n = n c range rule-6 bytes so_far_lem
