-- `tables::worklist::incoming::fill_sets` meets its contract. The loop's invariant: the rows below c are filled. Assumes nothing.
use Rattle.tables.proofs.Rowing.{RowsTo}
use Rattle.tables.proofs.worklist.incoming.fill_sets.Given as goal

abbrev pub invariant-loop-c : goal.invariant-loop-c
invariant-loop-c l = let h = l.halves in RowsTo h.words.now l.edges l.initial.sets l.sets l.k h.low h.high h.lower h.upper l.c
