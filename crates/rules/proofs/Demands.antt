-- The demands, all of them, of the outcomes of planner, check, dispatch list and finish of one flow. The contracts of the exported calls say that they
-- have these outcomes. Assumes nothing.
pub mod Refusals
pub mod BooksRead
pub mod PlansByTheRules
pub mod AcceptsExactly
pub mod RowsShut
pub mod AcceptsPlans
pub mod Bounds
pub mod Demand3Values
pub mod Demand3
pub mod Dispatches
pub mod Finishes
pub mod SameBooks
pub mod WriteBack
pub mod Calendars
pub mod NoWindows
pub mod Quotes
pub mod Appends
use Rattle.rules.specs.Demands.{Demands}
use Rattle.rules.proofs.Demands.Refusals.{demand_1}
use Rattle.rules.proofs.Demands.PlansByTheRules.{plans_by_the_rules, plan_numbers}
use Rattle.rules.proofs.Demands.AcceptsExactly.{accepts_exactly}
use Rattle.rules.proofs.Demands.RowsShut.{rows_shut}
use Rattle.rules.proofs.Demands.Demand3.{demand_3, of_whole_book}
use Rattle.rules.proofs.Demands.AcceptsPlans.{accepts_plans}
use Rattle.rules.proofs.Demands.Bounds.{bounds}
use Rattle.rules.proofs.Demands.BooksRead.{books_read}
use Rattle.rules.proofs.Demands.SameBooks.{version_1_kept, caps_lowered}
use Rattle.rules.proofs.Demands.Dispatches.{dispatches}
use Rattle.rules.proofs.Demands.Finishes.{finishes}
use Rattle.rules.proofs.Demands.WriteBack.{write_back}
use Rattle.rules.proofs.Demands.Calendars.{calendars, limit_by_rule}
use Rattle.rules.proofs.Demands.NoWindows.{no_windows_is}
use Rattle.rules.proofs.Demands.Quotes.{quotes}
use Rattle.rules.proofs.Demands.Appends.{appends}

pub demands : Demands
demands = record {
  refuses_by_the_list = demand_1;
  books_read = books_read;
  version_1_kept = version_1_kept;
  caps_lowered = caps_lowered;
  plans_by_the_rules = plans_by_the_rules;
  plan_numbers = plan_numbers;
  accepts_exactly = accepts_exactly;
  accepts_plans = accepts_plans;
  planned_or_infeasible = demand_3;
  of_whole_book = of_whole_book;
  bounds = bounds;
  dispatches = dispatches;
  finishes = finishes;
  write_back = write_back;
  calendars = calendars;
  rows_shut = rows_shut;
  limit_by_rule = limit_by_rule;
  no_windows_is = no_windows_is;
  quotes = quotes;
  appends = appends;
}
