-- `first_waiting`: the states so far do not wait. Assumes nothing.
use Rattle.std.proofs.Common.{◌-◌, length}
use Rattle.tables.proofs.Queue.{PassedOver}
use Rattle.tables.proofs.worklist.queue.first_waiting.Given as goal

abbrev pub invariant-loop-j : goal.invariant-loop-j
invariant-loop-j l = PassedOver l.marks l.j

abbrev pub decreases-loop-j : goal.decreases-loop-j
decreases-loop-j l = length l.marks - l.j
