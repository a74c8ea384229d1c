-- `index_of_few`: the sum so far, and the index of what is left of the word. Assumes nothing.
use Rattle.std.proofs.Common.{◌≡◌, ◌+◌}
use Rattle.tables.specs.Steps.{weigh}
use Rattle.tables.proofs.worklist.index.index_of_few.Given as goal

abbrev pub invariant-loop-rest : goal.invariant-loop-rest
invariant-loop-rest l = weigh l.weights l.s ≡ l.sum + weigh l.weights l.rest

abbrev pub decreases-loop-rest : goal.decreases-loop-rest
decreases-loop-rest l = l.rest
