-- How long chains and tables can be. Assumes nothing.
use Rattle.std.specs.Prelude.{◌≡◌, ℕ, ◌+◌, ◌*◌, ◌≤◌, ◌<◌, List, length}
use Rattle.rules.specs.Walks.{sum_to}
use Rattle.rules.specs.Book.{Book, flow_count, job_count, flow_of, job_of}
use Rattle.rules.specs.Reading.{read, read_book}
use Rattle.rules.specs.PseudoJobs.{chain}
use Rattle.rules.specs.Rows.{Row}
use Rattle.rules.specs.Placing.{planned, plan}
use Rattle.rules.specs.Table.{table_length}
use Rattle.rules.specs.Check.{check_call}

-- the sizes of all jobs of a book, added
unfoldable pub sizes_of : Book → ℕ
sizes_of b = sum_to (λ f. sum_to (λ i. (job_of (flow_of b f) i).size) (job_count (flow_of b f))) (flow_count b)

pub record Bounds : Type 0 where
  -- "A flow of n jobs has at most 2 × n of them", pseudo-jobs
  pub pseudo_jobs : (book calendar : List ℕ) (b : Book) → read_book book calendar ≡ read b → (f : ℕ) → f < flow_count b →
      length (chain (flow_of b f)) ≤ 2 * job_count (flow_of b f)
  -- a table has a row for each processor-slot at most: that of a plan, so that so much output is always enough, and every one that the check accepts
  pub table_most : (book calendar : List ℕ) (b : Book) → read_book book calendar ≡ read b → (rows : List Row) → plan b ≡ planned rows →
      table_length b rows ≤ 8 + 2 * flow_count b + 6 * sizes_of b
  pub accepted_most : (book calendar table area : List ℕ) (b : Book) → read_book book calendar ≡ read b → (check_call book calendar table area).answer.number ≡ 0 →
      length table ≤ 8 + 2 * flow_count b + 6 * sizes_of b
