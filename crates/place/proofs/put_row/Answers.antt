-- A row where it has processors and room: by cases of the two tests. Assumes nothing.
use Rattle.place.proofs.Output.{put-nothing, put_too_far, put-fits}
use native.Mathlib.Omega.{arith}
use Rattle.place.proofs.put_row.Goals as goal

pub returns-then-row-eq0 : goal.returns-then-row-eq0
returns-then-row-eq0 c =
    let a = c.args in
    put-nothing a.out.now a.at a.row.slot a.row.flow a.row.job a.row.processors c.if-row-eq0.true

pub returns-then-out-end : goal.returns-then-out-end
returns-then-out-end c =
    let a = c.args in
    put_too_far a.out.now a.at a.row.slot a.row.flow a.row.job a.row.processors c.if-row-eq0.false c.if-out-end.true

pub returns : goal.returns
returns c =
    let a = c.args in
    rw c.write.ensures
    (put-fits a.out.now a.at a.row.slot a.row.flow a.row.job a.row.processors c.if-row-eq0.false (omega (arith, c.if-out-end.false)))
