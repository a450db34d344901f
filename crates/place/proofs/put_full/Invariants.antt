-- The packed rows: none where none fits, else one after the other; those of the parts before so far. Assumes nothing.
use Rattle.place.specs.Service.{packed_rows}
use Rattle.place.specs.Output.{Put}
use Rattle.place.proofs.put_full.Given as goal

abbrev pub invariant-loop-row : goal.invariant-loop-row
invariant-loop-row l = Put l.initial.out l.at (packed_rows l.slot l.rows l.row-index) l.out l.next
