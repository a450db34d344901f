-- The count of late flows over deadlines and finishes, flow after flow, is that of the book's late flows. Assumes nothing.
use mathlib.Core.Path.{◌≡◌, refl, ap, ◌∙◌}
use Prim.Native.Nat.{ℕ, ◌+◌, ◌<◌}
use native.Mathlib.Numerals.{add-one}
use mathlib.Core.List.{List}
use lib.ListN.{get_or}
use Rattle.rules.specs.Walks.{sum_to, bit}
use Rattle.rules.specs.Book.{Flow, Book, flow_count, flow_of}
use Rattle.rules.specs.Rows.{Row, finish_of, is_late, late_flows}
use Rattle.rules.proofs.Laws.Sums.{sum_ext}
use Rattle.book.specs.Late.{late_by, late_count, late_among}

pub late_by-deadline : (w : Flow) (finish : ℕ) → late_by w.deadline finish ≡ is_late w finish
unfolding late_by is_late
late_by-deadline w finish = refl

-- no flow, and one flow more
pub late-none : (deadlines finishes : List ℕ) → late_count deadlines finishes 0 ≡ 0
unfolding late_count sum_to
late-none deadlines finishes = refl

pub late-next : (deadlines finishes : List ℕ) (n : ℕ) →
    late_count deadlines finishes (n + 1) ≡ late_count deadlines finishes n + bit (late_by (get_or deadlines n 0) (get_or finishes n 0))
unfolding late_count sum_to
late-next deadlines finishes n = rw add-one refl

-- the count over a book's deadlines is that of its flows
pub late-counted : (b : Book) (deadlines finishes : List ℕ) → ((f : ℕ) → f < flow_count b → get_or deadlines f 0 ≡ (flow_of b f).deadline) →
    late_count deadlines finishes (flow_count b) ≡ late_among b finishes
unfolding late_count late_among
late-counted b deadlines finishes d =
    sum_ext _ _ (flow_count b) (λ f l. ap bit (ap (λ t. late_by t (get_or finishes f 0)) (d f l) ∙ late_by-deadline (flow_of b f) (get_or finishes f 0)))

-- the count by finishes is that of the book's late flows
pub late-among : (b : Book) (rows : List Row) (finishes : List ℕ) → ((f : ℕ) → f < flow_count b → get_or finishes f 0 ≡ finish_of rows f) →
    late_among b finishes ≡ late_flows b rows
unfolding late_among late_flows
late-among b rows finishes e = sum_ext _ _ (flow_count b) (λ f l. ap (λ n. bit (is_late (flow_of b f) n)) (e f l))
