-- The maintenance is put into the area, all flows are placed beside it, and it is taken out again. Assumes nothing.
use Rattle.planner.proofs.FirstFlows.{first-placed}
use Rattle.planner.proofs.place_first.Goals as goal

pub returns : goal.returns
returns c = first-placed _ _ _ _ _ _ _ _ _ (c.shut.ensures c.requires.2).0 c.place_flows-whole.ensures (c.open.ensures c.args.work.now)
