-- `visit_free`: the free digits fall. Invariant of the loop: the states of the values so far were asked about (`Choosing`), and what the next digit
-- asks for holds. Assumes nothing.
use Rattle.std.proofs.Common.{◌≡◌, ◌+◌, ◌-◌, ◌/◌, ◌<◌, ◌≤◌, length, get_or}
use Rattle.tables.specs.Edges.{Choices}
use Rattle.tables.specs.Worklist.{Goes}
use Rattle.tables.proofs.Walks.{Choosing}
use Rattle.tables.proofs.worklist.visits.Worklist.+visit_free.Given as goal

abbrev pub decreases-visit_free : goal.decreases-visit_free
decreases-visit_free g l = l.free

abbrev pub invariant-loop-d : goal.invariant-loop-d
invariant-loop-d g l = Goes (λ w. Choosing w.space w.edges l.by.e l.by.j l.u l.rest l.at l.d) l.fn.self l.self × (l.d ≤ l.end) × (l.by.e < l.self.graph.now.edge_number)
    × (l.by.j < length l.self.entries.now) × (get_or l.self.entries.now l.by.j 0 ≡ l.by.entry) × Choices l.self.graph.now.space.states l.self.graph.now.sizes (length l.self.entries.now) (l.u + 1) (l.rest / 16)

abbrev pub decreases-loop-d : goal.decreases-loop-d
decreases-loop-d g l = l.end - l.d
