-- `edge_of`: an edge, or an earlier outcome does the same. Assumes nothing.
use Rattle.std.proofs.Common.{arith}
use Rattle.tables.proofs.Making.{edge_made}
use Rattle.tables.proofs.worklist.edges.edge_of.Goals as goal

pub returns-clause-some : goal.returns-clause-some
returns-clause-some c = let i = c.pattern.inside in let l = c.lane_of-one in let k = c.lane_of-two in let w = c.way_back-back in let few = c.pattern.invariant.readable.weights_few _ (rw (← c.pattern.view_is) at c.requires) in
    rw (c.need-need.ensures, c.value-value.ensures, c.kept.ensures, c.set.ensures, ← c.pattern.view_is) (edge_made i.task.now i.mask c.args.states.now.weights.now i.sizes c.args.m.number c.args.o.number _ _ w.result _ l.result.lane l.result.rest k.result.lane k.result.rest
    (rw (c.value-value.ensures, c.kept.ensures) at c.index_of_few.ensures) (rw c.set.ensures at c.index_of_few-2.ensures) w.ensures (omega (arith, c.weight-weight.ensures, few)) (rw (c.kept.ensures, c.need-need.ensures) at l.ensures.0) k.ensures.0)
