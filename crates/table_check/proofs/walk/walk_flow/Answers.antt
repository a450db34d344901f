-- `table_check::walk::walk_flow` meets its contract: the walk begins with no totals, and the flow is closed by those
-- that it ends with. Assumes nothing.
use mathlib.Core.Path.{◌≡◌, sym, ◌∙◌}
use Prim.Native.Nat.{ℕ}
use native.Mathlib.Omega.{arith}
use lib.ListN.{length, take, replicate, length-replicate}
use Rattle.std.proofs.lemmas.List.{length-take-le}
use Rattle.book.proofs.Starts.{jobs-few}
use Rattle.table_check.specs.declared.current.Current.{Current}
use Rattle.table_check.specs.declared.row.JobState.{JobState}
use Rattle.table_check.proofs.Jobs.{held_count}
use Rattle.table_check.proofs.Flows.{flow-closed}
use Rattle.table_check.proofs.walk.walk_flow.Goals as goal

-- there is room for the flow's jobs
enough : (k : Current) (none : JobState) {n : ℕ} → n ≡ k.head.jobs → length (take n (replicate 64 none)) ≡ n
enough k none n-is =
    length-take-le _ (replicate 64 none) (omega (arith, n-is, jobs-few k.book.now k.inside k.head_is, length-replicate {A = JobState} 64 none))

pub slice_bounds-room-end : goal.slice_bounds-room-end
slice_bounds-room-end c = let k = c.args.current.now in omega (arith, c.from.ensures, jobs-few k.book.now k.inside k.head_is)

pub slice_bounds-jobs-end : goal.slice_bounds-jobs-end
slice_bounds-jobs-end c = sym (enough c.args.current.now c.default-room.result c.from.ensures)

pub load_jobs-requires : goal.load_jobs-requires
load_jobs-requires c = enough c.args.current.now c.default-room.result c.from.ensures ∙ c.from.ensures

pub first_mismatch-mismatch-requires : goal.first_mismatch-mismatch-requires
first_mismatch-mismatch-requires c =
    let k = c.args.current.now in
    omega (arith, held_count c.walk_rows.ensures.held, k.head_is.jobs, jobs-few k.book.now k.inside k.head_is)

pub returns : goal.returns
returns c = flow-closed c.in_ok-stop.ensures c.first_mismatch-mismatch.ensures
