-- `packed_task::within::permits` meets its contract. Assumes nothing.
use Rattle.std.proofs.Common.{rules}
use Rattle.packed_task.specs.Within.{permitted}
use Rattle.packed_task.proofs.within.permits.Goals as goal

pub returns : goal.returns
unfolding permitted
returns c = search rules
