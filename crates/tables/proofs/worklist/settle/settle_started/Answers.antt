-- `settle_started`: no action weighs less than the lightest edge. Assumes nothing.
use Rattle.std.proofs.Common.{arith}
use Rattle.tables.proofs.Starting.{lightest_action}
use Rattle.tables.proofs.worklist.settle.settle_started.Goals as goal

pub weights_among-weights-requires : goal.weights_among-weights-requires
weights_among-weights-requires g c = c.graph.invariant.edges_of.room

pub settle_listed-requires : goal.settle_listed-requires
settle_listed-requires g c = let p = rw (← c.graph.view_is) at c.requires in let w = c.graph.invariant in
    rw (← c.graph.view_is) (p.0, p.1, p.2, omega (arith, p.3, p.5), lightest_action c.weights_among-weights.result.least w.edges_of w.readable.outcomes_some c.weights_among-weights.ensures)

pub settle_by-requires : goal.settle_by-requires
settle_by-requires g c = let p = rw (← c.graph.view_is) at c.requires in let w = c.graph.invariant in
    rw (← c.graph.view_is) (p.0, p.1, p.2, p.3, p.4, p.5, omega arith, omega arith, lightest_action c.weights_among-weights.result.least w.edges_of w.readable.outcomes_some c.weights_among-weights.ensures)
