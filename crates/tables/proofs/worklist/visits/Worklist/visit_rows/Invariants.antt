-- `visit_rows`: the rows of the edges that may lead into a state, one by one. Assumes nothing.
use Rattle.std.proofs.Common.{◌-◌, ◌≤◌}
use Rattle.tables.specs.Worklist.{Goes}
use Rattle.tables.proofs.Rounds.{RowsGoing}
use Rattle.tables.proofs.worklist.visits.Worklist.visit_rows.Given as goal

abbrev pub invariant-loop-c : goal.invariant-loop-c
invariant-loop-c g l = Goes (λ w. RowsGoing w.space w.edges w.edge_number l.j l.c) l.fn.self l.self × (l.c ≤ 8)

abbrev pub decreases-loop-c : goal.decreases-loop-c
decreases-loop-c g l = 8 - l.c
