-- The marked plans, as one statement: A to F of document 01, E as Req 02 has it, G for releases (02, Req 01) and H for caps above P (02, Req 02), the
-- dispatch lists of A, D and F (02, Req 03), and finishes of single flows of A, G and I (02, Req 05), with late flows as Req 06 has them and all of them
-- without windows, J for service windows (02, Req 07), K for quotes and L for a flow appended (02, Req 08): whole outcomes, with output and work area; and
-- three chains of rule 3. Assumes nothing.
use Rattle.std.specs.Prelude.{◌≡◌, ℕ, [], ◌∷◌, ◌++◌}
use Rattle.rules.specs.Walks.{list_from}
use Rattle.rules.specs.Answers.{plan_accepted, plan_refused, check_accepted, check_refused, list_accepted, list_refused, finish_accepted, finish_refused}
use Rattle.rules.specs.Calendar.{open_before, calendar_of, no_windows}
use Rattle.rules.specs.Reading.{book_with}
use Rattle.rules.specs.Ideal.{path, take_of}
use Rattle.rules.specs.PseudoJobs.{PseudoJob, chain, rate}
use Rattle.rules.specs.Planner.{plan_call}
use Rattle.rules.specs.Check.{check_call}
use Rattle.rules.specs.Dispatch.{dispatch_call}
use Rattle.rules.specs.Finish.{finish_call}
use Rattle.rules.specs.Quote.{quote}
use Rattle.rules.specs.Demands.Quote.{Appended}
use Rattle.marked.specs.Listings.{
  hex,
  book_a,
  table_a,
  list_a,
  book_b,
  table_b,
  book_c,
  book_d,
  book_e,
  table_e,
  book_no_cap,
  table_f,
  book_g,
  table_g,
  table_early,
  book_late_release,
  book_h,
  table_h,
  book_i,
  book_j,
  calendar_j,
  calendar_touching,
  table_j,
  book_k,
  calendar_k,
  rows_k,
  book_l,
  flow_l,
  jobs_in_a_row,
  equal_rates,
  out,
  area,
  used,
}

-- chains of pseudo-jobs (rule 3), each given by the first ideal slot and the width
abbrev run : ℕ → ℕ → PseudoJob
run first width = record { first = first; width = width }

pub record MarkedChains : Type 0 where
  -- "A flow of n jobs has at most 2 × n of them": five jobs of size 3 and cap 2 have ten, with rates 2 and 1 in turn
  pub in_a_row : chain (jobs_in_a_row 5 3 2) ≡ list_from (λ u. run u 1) 10 0
  pub in_a_row_rates : list_from (λ u. rate (jobs_in_a_row 5 3 2) (run u 1)) 10 0 ≡ 2 ∷ 1 ∷ 2 ∷ 1 ∷ 2 ∷ 1 ∷ 2 ∷ 1 ∷ 2 ∷ 1 ∷ []
  -- "every job's take is unchanged": from slot 0 to slot 1 the rate stays 4, and a new pseudo-job begins
  pub equal_rates_is : chain equal_rates ≡ run 0 1 ∷ run 1 1 ∷ run 2 1 ∷ []
  pub equal_rates_rates : list_from (λ u. rate equal_rates (run u 1)) 3 0 ≡ 4 ∷ 4 ∷ 2 ∷ []
  pub equal_rates_takes : list_from (λ u. list_from (λ i. take_of equal_rates i u) 3 0) 3 0 ≡ (1 ∷ 3 ∷ 0 ∷ []) ∷ (0 ∷ 2 ∷ 2 ∷ []) ∷ (0 ∷ 0 ∷ 2 ∷ []) ∷ []
  -- the longest path
  pub longest_path : path (jobs_in_a_row 64 1000000 1) ≡ 64000000

-- the dispatch lists (02, Req 03)
pub record MarkedLists : Type 0 where
  pub A-listed : dispatch_call book_a no_windows table_a (out 62) area
      ≡ record { answer = list_accepted 61; output = list_a ++ out 1; area = used 6 0x0003_0003_0003_0001_0003_0001 }
  pub A-list-too-long : dispatch_call book_a no_windows table_a (out 60) area ≡ record { answer = list_refused 13 255 255; output = out 60; area = used 0 0 }
  pub D-listed : dispatch_call book_d no_windows (hex 8 0x00000008_01_0003_00) (out 7) area
      ≡ record { answer = list_accepted 7; output = hex 7 0x00000007_01_0003; area = used 0 0 }
  pub F-not-listed : dispatch_call book_a no_windows (table_f 3) (out 62) area ≡ record { answer = list_refused 18 0 1; output = out 62; area = used 0 0 }

-- the finishes of single flows (02, Req 05): flow 1 of A is served before flow 0, flow 1 of G before flow 0, and flow 1 of I before the infeasible one
pub record MarkedFinishes : Type 0 where
  pub A-flow-0 : finish_call book_a no_windows 0 area ≡ record { answer = finish_accepted 6; area = used 6 0x0003_0003_0003_0001_0003_0001 }
  pub A-flow-1 : finish_call book_a no_windows 1 area ≡ record { answer = finish_accepted 3; area = used 3 0x0002_0002_0001 }
  pub A-flow-256 : finish_call book_a no_windows 256 [] ≡ record { answer = finish_refused 23 255 255; area = [] }
  pub A-no-area : finish_call book_a no_windows 1 [] ≡ record { answer = finish_refused 11 255 255; area = [] }
  pub G-flow-1 : finish_call book_g no_windows 1 area ≡ record { answer = finish_accepted 3; area = used 3 0x0002_0002_0002 }
  pub I-before : finish_call book_i no_windows 1 area ≡ record { answer = finish_accepted 1; area = used 1 0x0001 }
  pub I-infeasible : finish_call book_i no_windows 0 area ≡ record { answer = finish_refused 12 0 255; area = used 0 0 }
  pub I-after : finish_call book_i no_windows 2 area ≡ record { answer = finish_refused 12 0 255; area = used 0 0 }

-- service windows (02, Req 07). C has one open slot before its deadline, so it has to be finished when two have passed, and I's flow 1 none at all
pub record MarkedWindows : Type 0 where
  pub J : plan_call book_j calendar_j (out 64) area
      ≡ record { answer = plan_accepted 1 60; output = table_j 5 ++ out 4; area = used 12 0x0000_0002_0002_0000_0000_0002_0002_0002_0000_0000_0000_0001 }
  pub J-accepted : check_call book_j calendar_j (table_j 5) area
      ≡ record { answer = check_accepted 1; area = used 12 0x0000_0002_0002_0000_0000_0002_0002_0002_0000_0000_0000_0001 }
  pub J-row-shut : check_call book_j calendar_j (table_j 4) area ≡ record { answer = check_refused 25 0 0; area = used 0 0 }
  -- the same row in slot 0, which is shut, behind a row in slot 2: 25 comes before 16
  pub J-row-shut-and-back : check_call book_j calendar_j (table_j 0) area ≡ record { answer = check_refused 25 0 0; area = used 0 0 }
  pub J-without-windows : check_call book_j no_windows (table_j 4) area
      ≡ record { answer = check_accepted 1; area = used 12 0x0000_0002_0002_0000_0002_0000_0002_0002_0000_0000_0000_0001 }
  pub J-windows-touch : plan_call book_j calendar_touching (out 60) [] ≡ record { answer = plan_refused 24 255 255; output = out 60; area = [] }
  pub J-no-calendar : check_call book_j [] (table_j 5) area ≡ record { answer = check_refused 24 255 255; area = area }
  pub J-flow-0 : finish_call book_j calendar_j 0 area
      ≡ record { answer = finish_accepted 12; area = used 12 0x0000_0002_0002_0000_0000_0002_0002_0002_0000_0000_0000_0001 }
  pub J-flow-1 : finish_call book_j calendar_j 1 area ≡ record { answer = finish_accepted 3; area = used 3 0x0000_0001_0001 }
  pub J-flow-2-touching : finish_call book_j calendar_touching 2 area ≡ record { answer = finish_refused 23 255 255; area = area }
  pub J-flow-1-touching : finish_call book_j calendar_touching 1 [] ≡ record { answer = finish_refused 24 255 255; area = [] }
  pub C-size-2-windows : plan_call (book_c 2) calendar_j (out 22) area
      ≡ record {
        answer = plan_accepted 1 22;
        output = hex 22 0x00000016_01_0002_01_0003_0001_00_00_0001_0002_00_00_0001;
        area = used 3 0x0000_0001_0001;
      }
  pub C-size-3-windows : plan_call (book_c 3) calendar_j (out 40) area ≡ record { answer = plan_refused 12 0 255; output = out 40; area = used 0 0 }
  pub I-none-open : finish_call book_i calendar_j 1 area ≡ record { answer = finish_refused 12 1 255; area = used 0 0 }

-- quotes, and flows appended (02, Req 08): both flows of K end exactly within their quotes, and in L they have their rows and finishes
pub record MarkedQuotes : Type 0 where
  pub K : plan_call book_k calendar_k (out 40) area
      ≡ record {
        answer = plan_accepted 1 36;
        output = hex 12 0x00000024_01_0004_02_0007_0003 ++ rows_k ++ out 4;
        area = used 7 0x0000_0000_0004_0000_0000_0002_0001;
      }
  pub K-quotes : (quote (book_with book_k calendar_k) 0 ≡ 4) × (quote (book_with book_k calendar_k) 1 ≡ 2)
  -- exactly so many open slots stand before the finishes, 7 and 3
  pub K-met : (open_before (calendar_of calendar_k) 7 ≡ quote (book_with book_k calendar_k) 0) × (open_before (calendar_of calendar_k) 3 ≡ quote (book_with book_k calendar_k) 1)
  pub L : plan_call book_l calendar_k (out 62) area
      ≡ record {
        answer = plan_accepted 2 62;
        output = hex 14 0x0000003e_01_0004_03_0007_0003_0008 ++ rows_k ++ hex 24 0x0000_02_00_0004_0005_02_00_0002_0006_02_00_0002_0007_02_00_0001;
        area = used 8 0x0004_0000_0004_0000_0000_0004_0003_0001;
      }
  pub L-appended : Appended book_k book_l calendar_k (book_with book_k calendar_k) (flow_l ∷ [])

-- all of it
pub record MarkedPlans : Type 0 where
  pub A : plan_call book_a no_windows (out 70) area
      ≡ record { answer = plan_accepted 2 66; output = table_a ++ out 4; area = used 6 0x0003_0003_0003_0001_0003_0001 }
  pub B : plan_call book_b no_windows (out 60) area ≡ record { answer = plan_accepted 1 60; output = table_b; area = used 3 0x0003_0003_0003 }
  pub C-size-2 : plan_call (book_c 2) no_windows (out 22) area
      ≡ record {
        answer = plan_accepted 1 22;
        output = hex 22 0x00000016_01_0002_01_0002_0000_00_00_0001_0001_00_00_0001;
        area = used 2 0x0001_0001;
      }
  pub C-size-4 : plan_call (book_c 4) no_windows (out 40) area
      ≡ record {
        answer = plan_accepted 1 34;
        output = hex 34 0x00000022_01_0002_01_0004_0000_00_00_0001_0001_00_00_0001_0002_00_00_0001_0003_00_00_0001 ++ out 6;
        area = used 4 0x0001_0001_0001_0001;
      }
  pub C-size-5 : plan_call (book_c 5) no_windows (out 40) area ≡ record { answer = plan_refused 12 0 255; output = out 40; area = used 0 0 }
  pub D-output-8 : plan_call book_d no_windows (out 8) area
      ≡ record { answer = plan_accepted 0 8; output = hex 8 0x00000008_01_0003_00; area = used 0 0 }
  pub D-output-7 : plan_call book_d no_windows (out 7) area ≡ record { answer = plan_refused 13 255 255; output = out 7; area = used 0 0 }
  pub E : plan_call book_e no_windows (out 66) area
      ≡ record { answer = plan_accepted 2 66; output = table_e 2; area = used 8 0x0002_0002_0002_0002_0001_0001_0002_0002 }
  pub E-accepted : check_call book_e no_windows (table_e 2) area ≡ record { answer = check_accepted 2; area = used 8 0x0002_0002_0002_0002_0001_0001_0002_0002 }
  pub E-row-above-P : check_call book_e no_windows (table_e 3) area ≡ record { answer = check_refused 17 0 1; area = used 0 0 }
  pub E-cap-0 : plan_call book_no_cap no_windows (out 66) area ≡ record { answer = plan_refused 9 0 1; output = out 66; area = area }
  pub F-slot-3 : check_call book_a no_windows (table_f 3) area ≡ record { answer = check_refused 18 0 1; area = used 0 0 }
  pub F-slot-3-take-2 : check_call book_a no_windows (table_f 2) area ≡ record { answer = check_refused 19 0 1; area = used 0 0 }
  pub A-accepted : check_call book_a no_windows table_a area ≡ record { answer = check_accepted 2; area = used 6 0x0003_0003_0003_0001_0003_0001 }
  pub lists : MarkedLists
  pub finishes : MarkedFinishes
  pub G : plan_call book_g no_windows (out 60) area
      ≡ record { answer = plan_accepted 1 54; output = table_g ++ out 6; area = used 6 0x0002_0002_0003_0002_0001_0001 }
  pub G-accepted : check_call book_g no_windows table_g area ≡ record { answer = check_accepted 1; area = used 6 0x0002_0002_0003_0002_0001_0001 }
  pub G-row-before-release : check_call book_g no_windows table_early area ≡ record { answer = check_refused 19 0 0; area = used 0 0 }
  pub G-release-at-deadline : plan_call book_late_release no_windows (out 60) area ≡ record { answer = plan_refused 22 0 255; output = out 60; area = area }
  pub H : plan_call book_h no_windows (out 52) area ≡ record { answer = plan_accepted 0 52; output = table_h; area = used 5 0x0002_0002_0002_0002_0001 }
  pub H-accepted : check_call book_h no_windows table_h area ≡ record { answer = check_accepted 0; area = used 5 0x0002_0002_0002_0002_0001 }
  pub windows : MarkedWindows
  pub quotes : MarkedQuotes
  pub chains : MarkedChains
