-- `way_back`: the change of the index. Assumes nothing.
use Rattle.std.proofs.Common.{refl}
use Rattle.tables.specs.Made.{back_of}
use Rattle.tables.proofs.worklist.edges.way_back.Goals as goal

pub returns : goal.returns
unfolding back_of
returns c = refl
