-- `fill_edges`: the edges of one action after the other. Assumes nothing.
use Rattle.tables.specs.Listed.{space_in, edges_most}
use Rattle.tables.proofs.Making.{Building}
use Rattle.tables.proofs.worklist.edges.fill_edges.Given as goal

abbrev pub invariant-loop-m : goal.invariant-loop-m
invariant-loop-m l = let p = l.states.pattern.now in Building (space_in p l.states.weights.now l.states.words.now) p.sizes (edges_most p) (l.m-iterator.0) l.edges l.c
