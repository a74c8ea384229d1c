-- `tables::worklist::visits::Worklist::run` meets its contract. Assumes nothing.
use Rattle.std.proofs.Common.{◌≡◌, ◌+◌, length}
use Rattle.planning.specs.Finite.{total}
use Rattle.tables.proofs.Starting.{Running}
use Rattle.tables.proofs.worklist.visits.Worklist.run.Given as goal

abbrev pub invariant-loop-j : goal.invariant-loop-j
invariant-loop-j g l = Running l.self.graph.now.space l.fn.self.entries.now (length l.fn.self.entries.now) l.self.entries.now l.self.queue.now.marks l.self.queue.now.count l.since
    × (l.self.graph ≡ l.fn.self.graph) × (l.self.entries.ghost_name ≡ l.fn.self.entries.ghost_name) × (l.self.queue.ghost_name ≡ l.fn.self.queue.ghost_name)

abbrev pub decreases-loop-j : goal.decreases-loop-j
decreases-loop-j g l = total l.self.entries.now + l.self.queue.now.count
