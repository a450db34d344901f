-- `table_check::row::load_jobs` meets its contract. The invariant: the jobs so far are read out. Assumes nothing.
use Prim.Native.Nat.{ℕ, ◌<◌}
use lib.ListN.{get_or}
use Rattle.rules.specs.Reading.{book_of}
use Rattle.table_check.proofs.Jobs.{blank, JobLoaded}
use Rattle.table_check.proofs.row.load_jobs.Given as goal

abbrev pub invariant-loop-i : goal.invariant-loop-i
invariant-loop-i l = (k : ℕ) → k < l.i → JobLoaded (book_of l.current.book.now.bytes.now) l.current.flow k (get_or l.jobs k blank)
