-- The joint theorem of the marked plans: each field is computed from the definitions. Assumes nothing.
use mathlib.Core.Path.{◌≡◌, refl}
use Prim.Native.Nat.{ℕ, zero, suc, ◌≤◌, ◌<◌}
use mathlib.Core.Bool.{true}
use mathlib.Core.List.{[], ◌∷◌}
use native.Mathlib.Omega.{arith}
use Rattle.rules.specs.Walks.{sum_to, max_to, any_to, all_to, list_from, join_from}
use Rattle.rules.specs.Fields.{field, bytes_of}
use Rattle.rules.specs.Answers.{first_fault}
use Rattle.rules.specs.Calendar.{
  is_open,
  open_before,
  pass_open,
  slot_after,
  window_at,
  calendar_of,
  begins_early,
  window_fault,
  calendar_fault,
}
use Rattle.rules.specs.Book.{flow_in, lower_cap, lower_caps, flow_of, job_of, has_bit, usable, twice_deadline}
use Rattle.rules.specs.Reading.{
  release_size,
  release_at,
  jobs_at,
  flow_start,
  job_at,
  flow_at,
  book_of,
  flow_head_fault,
  job_fault,
  flow_fault,
  leftover_fault,
  book_fault,
  book_with,
  read_book,
}
use Rattle.rules.specs.Ideal.{quotient_up, duration, last_take, start_after, ends_below, start_of, end_of, path, take_of}
use Rattle.rules.specs.PseudoJobs.{unchanged, prepend, runs, chain, rate, work, sum_over}
use Rattle.rules.specs.Service.{served_before, insert_flow, order_of, service_order, position}
use Rattle.rules.specs.Rows.{
  row_for,
  sum_where,
  used_in,
  total_of,
  done_before,
  finish_of,
  is_late,
  late_flows,
  work_used,
  work_zero,
}
use Rattle.rules.specs.Placing.{
  slot_units,
  units,
  units_of,
  share,
  given,
  after_slot,
  slot_rows,
  progress,
  flow_rows,
  free_processors,
  slots_for,
  place_flow,
  place_first,
  plan,
}
use Rattle.rules.specs.Table.{table_length, row_bytes, rows_bytes, table_bytes, row_at}
use Rattle.rules.specs.Planner.{plan_outcome, plan_reading, plan_call}
use Rattle.rules.specs.Check.{
  table_rows,
  table_head_fault,
  row_before,
  rises,
  lacks_predecessor,
  before_release,
  row_fault,
  total_fault,
  finish_fault,
  table_fault,
  check_outcome,
  check_reading,
  check_call,
}
use Rattle.rules.specs.Dispatch.{
  listed_before,
  insert_row,
  in_list_order,
  list_length,
  list_bytes,
  list_outcome,
  dispatch_checked,
  dispatch_call,
}
use Rattle.rules.specs.Finish.{finish_outcome, finish_reading, unknown_flow, input_fault, finish_call}
use Rattle.rules.specs.Quote.{work_of, work_up_to, quote, appended}
use Rattle.marked.specs.Listings.{book_k, calendar_k, flow_l}
use Rattle.marked.specs.Plans.{MarkedChains, MarkedLists, MarkedFinishes, MarkedWindows, MarkedQuotes, MarkedPlans}

pub marked-lists : MarkedLists
unfolding any_to list_from join_from field bytes_of first_fault flow_in lower_cap lower_caps flow_of job_of has_bit release_size release_at jobs_at flow_start job_at flow_at book_of flow_head_fault job_fault flow_fault leftover_fault book_fault calendar_of calendar_fault read_book is_open sum_to served_before sum_where used_in total_of done_before finish_of is_late late_flows work_used work_zero row_bytes rows_bytes row_at table_rows table_head_fault row_before rises lacks_predecessor before_release row_fault total_fault finish_fault table_fault check_outcome check_reading check_call listed_before insert_row in_list_order list_length list_bytes list_outcome dispatch_checked dispatch_call
marked-lists = record { A-listed = refl; A-list-too-long = refl; D-listed = refl; F-not-listed = refl }

pub marked-finishes : MarkedFinishes
unfolding sum_to max_to any_to all_to list_from join_from field bytes_of first_fault flow_in lower_cap lower_caps flow_of job_of has_bit release_size release_at jobs_at flow_start job_at flow_at book_of flow_head_fault job_fault flow_fault leftover_fault book_fault calendar_of calendar_fault quotient_up duration last_take start_after ends_below start_of end_of path take_of unchanged prepend runs chain rate work served_before insert_flow order_of service_order row_for sum_where used_in finish_of work_used work_zero slot_units units units_of share given after_slot slot_rows progress flow_rows is_open open_before pass_open slot_after usable twice_deadline free_processors slots_for place_flow place_first position finish_outcome finish_reading unknown_flow input_fault finish_call
marked-finishes = record {
  A-flow-0 = refl;
  A-flow-1 = refl;
  A-flow-256 = refl;
  A-no-area = refl;
  G-flow-1 = refl;
  I-before = refl;
  I-infeasible = refl;
  I-after = refl;
}

pub marked-windows : MarkedWindows
unfolding sum_to max_to any_to all_to list_from join_from field bytes_of first_fault flow_in lower_cap lower_caps flow_of job_of has_bit release_size release_at jobs_at flow_start job_at flow_at book_of flow_head_fault job_fault flow_fault leftover_fault book_fault window_at calendar_of begins_early window_fault calendar_fault read_book quotient_up duration last_take start_after ends_below start_of end_of path take_of unchanged prepend runs chain rate work served_before insert_flow order_of service_order row_for sum_where used_in total_of done_before finish_of is_late late_flows work_used work_zero slot_units units units_of share given after_slot slot_rows progress flow_rows is_open open_before pass_open slot_after usable twice_deadline free_processors slots_for place_flow place_first plan table_length row_bytes rows_bytes table_bytes row_at plan_outcome plan_reading plan_call table_rows table_head_fault row_before rises lacks_predecessor before_release row_fault total_fault finish_fault table_fault check_outcome check_reading check_call position finish_outcome finish_reading unknown_flow input_fault finish_call
marked-windows = record {
  J = refl;
  J-accepted = refl;
  J-row-shut = refl;
  J-row-shut-and-back = refl;
  J-without-windows = refl;
  J-windows-touch = refl;
  J-no-calendar = refl;
  J-flow-0 = refl;
  J-flow-1 = refl;
  J-flow-2-touching = refl;
  J-flow-1-touching = refl;
  C-size-2-windows = refl;
  C-size-3-windows = refl;
  I-none-open = refl;
}

pub marked-quotes : MarkedQuotes
unfolding sum_to max_to any_to all_to list_from join_from field bytes_of first_fault flow_in lower_cap lower_caps flow_of job_of has_bit release_size release_at jobs_at flow_start job_at flow_at book_of flow_head_fault job_fault flow_fault leftover_fault book_fault window_at calendar_of begins_early window_fault calendar_fault read_book quotient_up duration last_take start_after ends_below start_of end_of path take_of unchanged prepend runs chain rate work served_before insert_flow order_of service_order row_for sum_where used_in finish_of is_late late_flows work_used work_zero slot_units units units_of share given after_slot slot_rows progress flow_rows is_open open_before pass_open slot_after usable twice_deadline free_processors slots_for place_flow place_first plan table_length row_bytes rows_bytes table_bytes row_at plan_outcome plan_reading plan_call position sum_over work_of work_up_to quote
marked-quotes = record {
  K = refl;
  K-quotes = (refl, refl);
  K-met = (refl, refl);
  L = refl;
  L-appended = record { reads = refl; longer_reads = refl; all_later = later };
}
  where
    later : (f g : ℕ) → f < 2 → 2 ≤ g → g < 3 → served_before (appended (book_with book_k calendar_k) (flow_l ∷ [])) f g ≡ true
    later zero g l h c = let e : g ≡ 2 = omega arith in rw e refl
    later (suc zero) g l h c = let e : g ≡ 2 = omega arith in rw e refl
    later (suc (suc f)) g l h c = absurd (omega arith)

pub marked-chains : MarkedChains
unfolding sum_to max_to all_to list_from job_of has_bit quotient_up duration last_take start_after ends_below start_of end_of path take_of unchanged prepend runs chain rate
marked-chains = record { in_a_row = refl; in_a_row_rates = refl; equal_rates_is = refl; equal_rates_rates = refl; equal_rates_takes = refl; longest_path = refl }

pub marked_plans : MarkedPlans
unfolding sum_to max_to any_to all_to list_from join_from field bytes_of first_fault flow_in lower_cap lower_caps flow_of job_of has_bit release_size release_at jobs_at flow_start job_at flow_at book_of flow_head_fault job_fault flow_fault leftover_fault book_fault calendar_of calendar_fault read_book quotient_up duration last_take start_after ends_below start_of end_of path take_of unchanged prepend runs chain rate work served_before insert_flow order_of service_order row_for sum_where used_in total_of done_before finish_of is_late late_flows work_used work_zero slot_units units units_of share given after_slot slot_rows progress flow_rows is_open open_before pass_open slot_after usable twice_deadline free_processors slots_for place_flow place_first plan table_length row_bytes rows_bytes table_bytes row_at plan_outcome plan_reading plan_call table_rows table_head_fault row_before rises lacks_predecessor before_release row_fault total_fault finish_fault table_fault check_outcome check_reading check_call
marked_plans = record {
  A = refl;
  B = refl;
  C-size-2 = refl;
  C-size-4 = refl;
  C-size-5 = refl;
  D-output-8 = refl;
  D-output-7 = refl;
  E = refl;
  E-accepted = refl;
  E-row-above-P = refl;
  E-cap-0 = refl;
  F-slot-3 = refl;
  F-slot-3-take-2 = refl;
  A-accepted = refl;
  lists = marked-lists;
  finishes = marked-finishes;
  G = refl;
  G-accepted = refl;
  G-row-before-release = refl;
  G-release-at-deadline = refl;
  H = refl;
  H-accepted = refl;
  windows = marked-windows;
  quotes = marked-quotes;
  chains = marked-chains;
}
