-- `tables::worklist::incoming::enter_edges` meets its contract. The loop's invariant: edges below q are entered. Assumes nothing.
use Rattle.tables.specs.Incoming.{edge_need}
use Rattle.packed_task.proofs.SetsFilled.{Slotting}
use Rattle.tables.proofs.worklist.incoming.enter_edges.Given as goal

abbrev pub invariant-loop-q : goal.invariant-loop-q
invariant-loop-q l = Slotting (edge_need l.edges l.first) 16 l.slots l.q
