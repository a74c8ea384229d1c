-- `tables::worklist::incoming::enter_edges` meets its contract. Assumes nothing.
use Rattle.std.proofs.Common.{arith}
use Rattle.tables.specs.Incoming.{edge_need}
use Rattle.packed_task.proofs.SetsFilled.{slotting_starts, slotting_next, slotted}
use Rattle.tables.proofs.Rowing.{edge_needs}
use Rattle.tables.proofs.worklist.incoming.enter_edges.Goals as goal

pub loop-q-init : goal.loop-q-init
loop-q-init c = let a = c.args in slotting_starts (edge_need a.edges.now a.first) 16 a.slots.now c.requires.3

pub loop-q-preserved : goal.loop-q-preserved
loop-q-preserved c = let a = c.args in let l = c.loop-q in
    slotting_next (edge_need a.edges.now a.first) 16 (omega (arith, c.requires.0, c.loop-q-test.true)) l.invariant _ _ (edge_needs a.edges.now a.first l.q) (omega arith) c.enter.ensures

pub returns : goal.returns
returns c = slotted c.args.count c.loop-q.invariant (omega (arith, c.loop-q.auto.q-end)) c.loop-q-test.false
