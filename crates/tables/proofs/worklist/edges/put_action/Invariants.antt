-- `put_action`: an edge for each outcome that needs one. Assumes nothing.
use Rattle.std.proofs.Common.{◌≡◌}
use Rattle.packed_task.specs.Packed.{outcome_count}
use Rattle.tables.proofs.Making.{Acting}
use Rattle.tables.proofs.worklist.edges.put_action.Given as goal

abbrev pub invariant-loop-o : goal.invariant-loop-o
invariant-loop-o l = let p = l.states.pattern.now in (l.n ≡ outcome_count p.task l.m) × Acting p.task p.mask l.states.weights.now p.sizes l.initial.edges l.edges l.first l.m l.o l.e
