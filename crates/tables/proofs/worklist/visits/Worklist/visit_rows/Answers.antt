-- `visit_rows`: the rows of the edges that may lead into a state, one by one. Assumes nothing.
use Rattle.std.proofs.Common.{◌≤◌, sym, ◌∙◌, arith}
use Rattle.tables.proofs.Rounds.{rows_start, rows_next, rows_end}
use Rattle.tables.proofs.Graphs.{edges_here}
use Rattle.tables.proofs.Goes.{queue_of, goes_nowhere, goes_then, goes_as}
use Rattle.tables.proofs.worklist.visits.Worklist.visit_rows.Goals as goal

pub loop-c-init : goal.loop-c-init
loop-c-init g c = (goes_nowhere _ (rows_start (queue_of c.args.self.now)), omega arith)

pub edges_into-set-requires : goal.edges_into-set-requires
edges_into-set-requires g c = let p = rw (← c.graph.view_is) at c.requires in rw (← c.graph.view_is) (rw (sym (rw (← c.graph.view_is) at c.args.self.now.all)) at p.0, p.2, omega (arith, c.loop-c-test.true, c.div_ceil-c-end.ensures))

pub visit_set-requires : goal.visit_set-requires
visit_set-requires g c = let p = c.requires in let v = c.loop-c.invariant in let m = v.0.done.going in
    (omega (arith, c.args.self.now.queue.now.small), (omega (arith, p.0, m.moved.long), m.stays ∙ p.1, rw v.0.same_graph c.edges_into-set.ensures, omega (arith, v.1)))

pub loop-c-preserved : goal.loop-c-preserved
loop-c-preserved g c = let f : c.graph.inside.k ≤ 512 = c.graph.invariant.edges_of.few in let v = c.loop-c.invariant in
    (goes_then v.0 c.visit_set.ensures (rows_next v.0.done), omega (arith, c.loop-c-test.true, f, c.div_ceil-c-end.ensures))

pub returns : goal.returns
returns g c = goes_as c.loop-c.invariant.0 (λ a. rw (← c.graph.view_is) (rows_end (rw (← c.graph.view_is) at a) (edges_here c.graph.invariant (rw (← c.graph.view_is) at c.args.self.now.all)) (omega (arith, c.loop-c-test.false, c.div_ceil-c-end.ensures))))
