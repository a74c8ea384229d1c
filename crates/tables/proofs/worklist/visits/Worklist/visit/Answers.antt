-- `visit`: the one row of the edges that may lead into a state, or all of them. Assumes nothing.
use Rattle.std.proofs.Common.{sym, refl, arith}
use Rattle.tables.proofs.Rounds.{rows_start, rows_next, rows_end}
use Rattle.tables.proofs.Graphs.{edges_here, few_here}
use Rattle.tables.proofs.Goes.{queue_of, goes_as}
use Rattle.tables.proofs.worklist.visits.Worklist.visit.Goals as goal

pub upper_part-h-requires : goal.upper_part-h-requires
upper_part-h-requires g c = let w = c.graph.invariant in let f = few_here w (rw (← c.graph.view_is) at c.args.self.now.all) in (omega (arith, c.requires, f), w.incoming.lower_some, w.lower_few, w.inverse_few)

pub visit_rows-requires : goal.visit_rows-requires
visit_rows-requires g c = (omega (arith, c.args.self.now.queue.now.small), (c.requires, refl, rw (← c.graph.view_is) c.upper_part-h.ensures))

pub edges_into-set-requires : goal.edges_into-set-requires
edges_into-set-requires g c = rw (← c.graph.view_is) (rw (sym (rw (← c.graph.view_is) at c.args.self.now.all)) at c.requires, c.upper_part-h.ensures, omega (arith, c.if-graph-eq0.false))

pub visit_set-requires : goal.visit_set-requires
visit_set-requires g c = (omega (arith, c.args.self.now.queue.now.small), (c.requires, refl, c.edges_into-set.ensures, omega arith))

pub returns : goal.returns
returns g c = goes_as c.visit_set.ensures (λ a. rw (← c.graph.view_is) (rows_end (rows_next (rows_start (queue_of c.args.self.now)) (rw (← c.graph.view_is) at a)) (edges_here c.graph.invariant (rw (← c.graph.view_is) at c.args.self.now.all)) (omega (arith, c.if-graph-gt64.false))))
