-- `put_goals_from`: the free digits fall. Invariant of the loop: the values of the digit so far were gone through (`Through`). Assumes nothing.
use Rattle.std.proofs.Common.{◌-◌, ◌≤◌}
use Rattle.tables.specs.Goals.{Held}
use Rattle.tables.proofs.Entering.{Through}
use Rattle.tables.proofs.worklist.goals.+put_goals_from.Given as goal

abbrev pub decreases-put_goals_from : goal.decreases-put_goals_from
decreases-put_goals_from g l = l.free

abbrev pub invariant-loop-d : goal.invariant-loop-d
invariant-loop-d g l = Through l.weights l.sizes l.v l.free l.at l.d l.fn.entries l.entries × (l.d ≤ l.end) × Held l.entries l.queue.states l.queue.marks l.queue.count

abbrev pub decreases-loop-d : goal.decreases-loop-d
decreases-loop-d g l = l.end - l.d
