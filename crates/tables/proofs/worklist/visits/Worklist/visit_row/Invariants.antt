-- `visit_row`: the edges of a set one by one; the set falls. Assumes nothing.
use Rattle.std.proofs.Common.{get_or}
use Rattle.tables.specs.Worklist.{Goes}
use Rattle.tables.proofs.Rounds.{RowGoing}
use Rattle.tables.proofs.worklist.visits.Worklist.visit_row.Given as goal

abbrev pub invariant-loop-q : goal.invariant-loop-q
invariant-loop-q g l = Goes (λ w. RowGoing w.space w.edges (get_or w.space.states l.j 0) w.edge_number l.j l.c l.from (l.q-iterator.0)) l.fn.self l.self
