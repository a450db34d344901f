-- Late flows, by deadlines and finishes alone. Assumes nothing.
use Rattle.std.specs.Prelude.{ℕ, Bool, List, [], get_or}
use Rattle.rules.specs.Walks.{count_to}
use Rattle.rules.specs.Book.{Book, flow_count, flow_of}
use Rattle.rules.specs.Rows.{is_late}

-- rule 7 of a flow with this deadline
unfoldable pub late_by : ℕ → ℕ → Bool
late_by deadline finish = is_late (record { deadline = deadline; release = 0; jobs = [] }) finish

-- how many of the first n flows are late
unfoldable pub late_count : List ℕ → List ℕ → ℕ → ℕ
late_count deadlines finishes n = count_to (λ f. late_by (get_or deadlines f 0) (get_or finishes f 0)) n

-- how many flows of a book are late by these finishes
unfoldable pub late_among : Book → List ℕ → ℕ
late_among b finishes = count_to (λ f. is_late (flow_of b f) (get_or finishes f 0)) (flow_count b)
