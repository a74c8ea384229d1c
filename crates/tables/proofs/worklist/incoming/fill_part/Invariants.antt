-- `tables::worklist::incoming::fill_part` meets its contract. The loop's invariant: the part is filled below h. Assumes nothing.
use Rattle.tables.proofs.Rowing.{PartTo}
use Rattle.tables.proofs.worklist.incoming.fill_part.Given as goal

abbrev pub invariant-loop-h : goal.invariant-loop-h
invariant-loop-h l = PartTo l.states l.edges.slots l.edges.all l.part l.step l.sets l.h
