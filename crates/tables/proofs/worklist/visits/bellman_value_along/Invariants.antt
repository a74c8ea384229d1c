-- `tables::worklist::visits::bellman_value_along` meets its contract. Assumes nothing.
use Rattle.std.proofs.Common.{◌-◌}
use Rattle.tables.specs.Steps.{space}
use Rattle.tables.proofs.Asking.{Largest}
use Rattle.tables.proofs.worklist.visits.bellman_value_along.Given as goal

abbrev pub invariant-loop-f : goal.invariant-loop-f
invariant-loop-f l = let g = l.graph-inside in Largest (space g.task.now g.mask g.weights.now g.states.now g.actions) l.edges l.entries l.e l.i l.f l.most

abbrev pub decreases-loop-f : goal.decreases-loop-f
decreases-loop-f l = l.end - l.f
