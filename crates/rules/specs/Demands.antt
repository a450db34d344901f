-- What is owed of planner, table check, dispatch list and finish of one flow, for every input. Read this first: each field is a promise, stated in the file of
-- its topic. `plan_call`, `check_call`, `dispatch_call` and `finish_call` compute what a call answers and leaves; the contracts in `crates/flowplan` say that the
-- exported calls do just that, and `proofs/Demands.antt` proves this record. The printed text stands in `crates/plan_text/specs`, the marked plans in
-- `crates/marked/specs`. Assumes nothing.
pub mod Refusals
pub mod Books
pub mod Planner
pub mod Check
pub mod Lengths
pub mod DispatchList
pub mod Finish
pub mod LateFlows
pub mod Calendar
pub mod Quote
use Rattle.rules.specs.Demands.Refusals.{Demand1}
use Rattle.rules.specs.Demands.Books.{Version1Kept, CapsLowered, BooksRead}
use Rattle.rules.specs.Demands.Planner.{PlansByTheRules, PlanNumbers, Demand3, OfWholeBook}
use Rattle.rules.specs.Demands.Check.{AcceptsExactly, AcceptsPlans, RowsShut}
use Rattle.rules.specs.Demands.Lengths.{Bounds}
use Rattle.rules.specs.Demands.DispatchList.{Dispatches}
use Rattle.rules.specs.Demands.Finish.{Finishes}
use Rattle.rules.specs.Demands.LateFlows.{WriteBack}
use Rattle.rules.specs.Demands.Calendar.{Calendars, NoWindows, LimitByRule}
use Rattle.rules.specs.Demands.Quote.{Quotes, Appends}

pub record Demands : Type 0 where
  -- demand 1
  pub refuses_by_the_list : Demand1
  -- which books pass, and what their versions and caps mean
  pub books_read : BooksRead
  pub version_1_kept : Version1Kept
  pub caps_lowered : CapsLowered
  -- demand 2
  pub plans_by_the_rules : PlansByTheRules
  pub plan_numbers : PlanNumbers
  pub accepts_exactly : AcceptsExactly
  pub accepts_plans : AcceptsPlans
  -- demand 3
  pub planned_or_infeasible : Demand3
  pub of_whole_book : OfWholeBook
  -- how long chains and tables can be
  pub bounds : Bounds
  -- document 02: Req 03, Req 05, Req 06
  pub dispatches : Dispatches
  pub finishes : Finishes
  pub write_back : WriteBack
  -- Req 07
  pub calendars : Calendars
  pub rows_shut : RowsShut
  pub limit_by_rule : LimitByRule
  pub no_windows_is : NoWindows
  -- Req 08
  pub quotes : Quotes
  pub appends : Appends
