-- `tables::worklist::visits::Worklist::visit_wide` meets its contract. Assumes nothing.
use Rattle.std.proofs.Common.{arith}
use Rattle.tables.specs.Edges.{way_back}
use Rattle.tables.proofs.Graphs.{edges_here, few_here}
use Rattle.tables.proofs.Walks.{passed_laned, passed-freed}
use Rattle.tables.proofs.Goes.{goes_as}
use Rattle.tables.proofs.worklist.visits.Worklist.visit_wide.Goals as goal

pub visit_lanes-requires : goal.visit_lanes-requires
visit_lanes-requires g c = let p = c.requires in (omega (arith, c.args.self.now.queue.now.small), (p.0, p.1, p.2, omega arith))

pub returns-then-free-eq0 : goal.returns-then-free-eq0
unfolding way_back
returns-then-free-eq0 g c =
    goes_as c.visit_lanes.ensures (λ a. rw (← c.graph.view_is) (passed_laned (omega (arith, c.from.ensures)) (c.if-free-eq0.true) (rw (← c.graph.view_is) at a)))

pub visit_free-requires : goal.visit_free-requires
visit_free-requires g c = let p = rw (← c.graph.view_is) at c.requires in
    rw (← c.graph.view_is) (omega (arith, c.args.self.now.queue.now.small), (p.0, p.1, p.2, (edges_here c.graph.invariant (rw (← c.graph.view_is) at c.args.self.now.all)).free _ p.0, omega arith, omega arith))

pub returns : goal.returns
unfolding way_back
returns g c =
    goes_as c.visit_free.ensures (λ a. rw (← c.graph.view_is) (passed-freed (omega (arith, c.from.ensures)) (rw (← c.graph.view_is) at a)))

pub overflow_add-at : goal.overflow_add-at
overflow_add-at g c = let b = c.graph.invariant.edges_of.back _ (rw (← c.graph.view_is) at c.requires.0) in let f = few_here c.graph.invariant (rw (← c.graph.view_is) at c.args.self.now.all) in record { fits = omega (arith, b, f, c.requires.1, c.from.ensures) }
