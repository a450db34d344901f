-- What the layout of a calendar says of its bytes: how many windows they hold, or that they are refused. Assumes
-- nothing.
use Rattle.std.specs.Prelude.{◌≡◌, ℕ, ◌+◌, ◌*◌, ◌≤◌, List, length, Result, Ok, Err, if◌then◌else◌}
use Rattle.rules.specs.Verdicts.{Pass, Refused}
use Rattle.rules.specs.declared.Refusal.{Refusal}
use Rattle.rules.specs.Faults.{fault_number}
use Rattle.rules.specs.Walks.{any_to}
use Rattle.rules.specs.Fields.{byte}
use Rattle.rules.specs.Answers.{none}
use Rattle.rules.specs.Limits.{most_windows}
use Rattle.rules.specs.Calendar.{calendar_head, window_length, window_fault, calendar_fault}

-- n windows follow the head, and only their rules are left to test
pub record Holds (s : List ℕ) (n : ℕ) : Type 0 where
  pub count : n ≡ byte s 5
  pub few : n ≤ most_windows
  pub whole : length s ≡ calendar_head + window_length * n
  pub left : calendar_fault s ≡ (if any_to (window_fault s) n then Refused 24 none none else Pass)

abbrev pub LayoutRead : List ℕ → Result ℕ Refusal → Type 0
LayoutRead s (Ok n) = Holds s n
LayoutRead s (Err e) = Refused (fault_number e.fault) e.flow e.job ≡ calendar_fault s
