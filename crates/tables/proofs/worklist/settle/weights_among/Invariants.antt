-- `weights_among`: none of the edges so far weighs less. Assumes nothing.
use Rattle.std.proofs.Common.{◌-◌}
use Rattle.tables.proofs.Starting.{Lightest}
use Rattle.tables.proofs.worklist.settle.weights_among.Given as goal

abbrev pub invariant-loop-e : goal.invariant-loop-e
invariant-loop-e l = Lightest l.edges l.least l.e

abbrev pub decreases-loop-e : goal.decreases-loop-e
decreases-loop-e l = l.k - l.e
