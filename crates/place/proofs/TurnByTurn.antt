-- The flows of a book in service order, each in its turn: the flow at a position, what the placing of it adds, and the
-- maintenance put into the area and taken out again. Assumes nothing.
use mathlib.Core.Path.{◌≡◌, refl, sym, ap, ◌∙◌}
use Prim.Native.Nat.{ℕ, ◌≤◌, ◌<◌}
use native.Mathlib.Omega.{arith}
use mathlib.Core.Bool.{Bool}
use mathlib.Core.List.{List, [], ◌++◌}
use lib.ListN.{length, get_or}
use Rattle.std.specs.Prelude.{Option, Some, None, IfSome}
use Rattle.rules.specs.Limits.{slots}
use Rattle.rules.specs.Calendar.{CalendarInRange}
use Rattle.rules.specs.Book as rules
use Rattle.rules.specs.Reading.{book_of}
use Rattle.rules.specs.Service.{service_order, served_at}
use Rattle.rules.specs.Rows.{Row, work_used}
use Rattle.rules.specs.Placing.{slots_for}
use Rattle.rules.proofs.Reading.Caps.{used_in-range}
use Rattle.rules.proofs.Reading.Passing.{calendar_of_book, pass_in-range}
use Rattle.rules.proofs.Reading.ServiceOrder.{service-length, service-below}
use Rattle.rules.proofs.Reading.SameUse.{with-same, service-same}
use Rattle.book.specs.declared.passing.Book.{Book}
use Rattle.calendar.specs.declared.maintenance.Calendar.{Calendar}
use Rattle.calendar.specs.Held.{held_windows}
use Rattle.calendar.proofs.Windows.{in-range}
use Rattle.place.specs.declared.Placed.{Placed}
use Rattle.place.specs.Flows.{FlowPlaced}
use Rattle.place.specs.Order.{shut_rows, Stands}
use Rattle.place.specs.Turns.{whole_book, TurnGoes, TakenOut}
use Rattle.place.proofs.Maintenance.{ShutTo, flow-added, flow-refused, shut_area, used-again}
use Rattle.place.proofs.FlowByFlow.{stands-none, stands-next, own-finish, other-finish, infeasible-next, flows-left, nothing_left}

-- a flow that is placed ends below the limit
pub finish-in : (listed : Bool) (b : rules.Book) (f limit : ℕ) (rows : List Row) (bytes out : List ℕ) (at : ℕ) (out' area' : List ℕ) (r : Option Placed) →
    limit ≤ slots → FlowPlaced listed b f limit rows bytes out at out' area' r → IfSome r (λ p. p.finish ≤ slots)
finish-in listed b f limit rows bytes out at out' area' (Some p) most placed = omega (arith, most, placed.2.finish_within)
finish-in listed b f limit rows bytes out at out' area' None most placed = tt

module _ (book : Book) (calendar : Calendar) where
  abbrev plain : rules.Book
  plain = book_of book.bytes.now

  abbrev whole : rules.Book
  whole = whole_book book calendar

  range : CalendarInRange whole.calendar
  range = in-range calendar

  -- ---- the flow at a position
  same_order : service_order whole ≡ service_order plain
  same_order = service-same whole plain (with-same (held_windows calendar) plain)

  pub served_is : (order : List ℕ) (k : ℕ) → order ≡ service_order plain → get_or order k 0 ≡ served_at whole k
  served_is order k e = ap (λ (l : List ℕ). get_or l k 0) (e ∙ sym same_order)

  pub order-length : (order : List ℕ) → order ≡ service_order plain → length order ≡ rules.flow_count plain
  order-length order e = ap length e ∙ service-length plain

  pub served-below : (k : ℕ) → k < rules.flow_count plain → served_at whole k < rules.flow_count plain
  served-below k l = service-below whole k l

  pub deadline-within : (f : ℕ) → f < rules.flow_count plain → (rules.flow_of plain f).deadline ≤ 4096
  deadline-within f l = (used_in-range (pass_in-range book.bytes.now book.passes) f l).deadline_most

  -- ---- it is placed, or makes the book infeasible
  module _ (listed : Bool) (k limit : ℕ) {rows : List Row} {bytes area : List ℕ} (s : Stands whole k rows bytes area) (l : k < rules.flow_count plain)
      (e : limit ≡ slots_for whole (rules.flow_of whole (served_at whole k))) (most : limit ≤ slots) (out : List ℕ) (at : ℕ) (out' area' : List ℕ) where
    pub turn-goes : (r : Option Placed) → FlowPlaced listed plain (served_at whole k) limit (shut_rows whole ++ rows) bytes out at out' area' r →
        TurnGoes listed whole k rows bytes out at out' area' r
    turn-goes (Some p) placed =
        let added = flow-added (held_windows calendar) plain range (calendar_of_book book.bytes.now) (served_at whole k) rows limit e placed.2 in (
          placed.0,
          placed.1,
          record {
            stands = stands-next s l refl added;
            put = added.put;
            ends = own-finish s l refl added;
            others_stay = other-finish s l refl;
            finish_within = omega (arith, placed.2.finish_within);
            next_within = added.next_within;
          },
        )
    turn-goes None placed =
        let refused = flow-refused (held_windows calendar) plain range (calendar_of_book book.bytes.now) (served_at whole k) rows limit e placed in
        record { refused = infeasible-next s l refl refused; others = placed.others; area_used = placed.area_used }

  -- ---- the maintenance
  module _ {area area' : List ℕ} where
    pub shut-held : area ≡ work_used slots [] area → ShutTo whole.calendar whole.processors area area' →
        (area' ≡ work_used slots (shut_rows whole) area) × Stands whole 0 [] area' area'
    shut-held none set =
        let held = shut_rows whole in
        let e : area' ≡ work_used slots held area = shut_area whole range area area' none set in
        (e, stands-none whole area' range (e ∙ sym (ap (work_used slots held) e ∙ used-again slots held held area)))

    pub taken-out : ShutTo whole.calendar 0 area area' → (bytes : List ℕ) → TakenOut whole bytes area area'
    taken-out set bytes =
        let held = work_used slots (shut_rows whole) bytes in
        record {
          flows_left = λ k rows s. flows-left whole bytes held area area' range refl set s;
          cleared = λ others e. nothing_left whole bytes held area area' range refl set others e;
        }
