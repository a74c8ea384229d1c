-- `visit_lane`: the values of the lane one by one. Assumes nothing.
use Rattle.std.proofs.Common.{◌≡◌, ◌+◌, ◌-◌, ◌*◌, ◌≤◌}
use Rattle.tables.proofs.Walks.{Cells}
use Rattle.tables.proofs.worklist.visits.Worklist.visit_lane.Given as goal

abbrev pub invariant-loop-x : goal.invariant-loop-x
invariant-loop-x g l = Cells l.graph.space l.graph.edges l.e l.j l.at 0 l.x l.fn.self.entries.now l.fn.self.queue.now.marks l.fn.self.queue.now.count l.entries l.queue.marks l.queue.count
    × (l.i ≡ l.at + l.x * l.one) × (l.i ≤ l.at + l.x * 65535) × (l.x ≤ l.values) × (l.queue.states ≡ l.fn.self.queue.now.states)

abbrev pub decreases-loop-x : goal.decreases-loop-x
decreases-loop-x g l = l.values - l.x
