-- `search::estimate::index_of` meets its contract. The loop's invariant: the sum so far and what is left make the whole index. Assumes nothing.
use Rattle.std.proofs.Common.{◌≡◌, ◌+◌, ◌*◌, ◌≤◌, drop}
use Rattle.tables.specs.Steps.{weigh}
use Rattle.search.proofs.estimate.index_of.Given as goal

abbrev pub invariant-loop-w : goal.invariant-loop-w
invariant-loop-w l = (weigh l.weights l.s ≡ l.i + weigh (drop l.w-index l.weights) l.rest) × (l.i ≤ 983025 * l.w-index)
