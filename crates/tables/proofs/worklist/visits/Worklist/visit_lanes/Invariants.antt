-- `tables::worklist::visits::Worklist::visit_lanes` meets its contract. Assumes nothing.
use Rattle.std.proofs.Common.{◌≡◌, ◌+◌, ◌-◌, ◌*◌, ◌≤◌}
use Rattle.tables.proofs.Walks.{Rows, Cells}
use Rattle.tables.proofs.worklist.visits.Worklist.visit_lanes.Given as goal

abbrev pub invariant-loop-x : goal.invariant-loop-x
invariant-loop-x g l = Cells l.graph.space l.graph.edges l.e l.fn.by.j l.at l.y l.x l.initial.entries l.initial.queue.marks l.initial.queue.count l.entries l.queue.marks l.queue.count
    × (l.i ≡ l.row + l.x * l.one) × (l.i ≤ l.row + l.x * 65535) × (l.x ≤ l.ones) × (l.queue.states ≡ l.fn.self.queue.now.states)

abbrev pub decreases-loop-x : goal.decreases-loop-x
decreases-loop-x g l = l.ones - l.x

abbrev pub invariant-loop-y : goal.invariant-loop-y
invariant-loop-y g l = Rows l.graph.space l.graph.edges l.e l.fn.by.j l.at l.y l.fn.self.entries.now l.fn.self.queue.now.marks l.fn.self.queue.now.count l.entries l.queue.marks l.queue.count
    × (l.row ≡ l.at + l.y * l.two) × (l.row ≤ l.at + l.y * 65535) × (l.y ≤ l.twos) × (l.queue.states ≡ l.fn.self.queue.now.states)

abbrev pub decreases-loop-y : goal.decreases-loop-y
decreases-loop-y g l = l.twos - l.y
