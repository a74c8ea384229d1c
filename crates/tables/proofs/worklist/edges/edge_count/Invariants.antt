-- `edge_count`: the outcomes of the actions that are left. Assumes nothing.
use Rattle.tables.proofs.Counting.{Counting}
use Rattle.tables.proofs.worklist.edges.edge_count.Given as goal

abbrev pub invariant-loop-m : goal.invariant-loop-m
invariant-loop-m l = Counting l.task l.mask l.actions (l.m-iterator.0) l.c
