-- `counted_cells`: the cells passed are as they count. Assumes nothing.
use Rattle.std.proofs.Common.{◌≡◌, ℕ, ◌<◌, length, get_or}
use Rattle.planning.specs.Pattern.{counted}
use Rattle.packed_task.proofs.compile.counted_cells.Given as goal

abbrev pub invariant-loop-v : goal.invariant-loop-v
invariant-loop-v l = (length l.cell-items ≡ 16) × ((k : ℕ) → k < l.v → get_or l.cell-items k 0 ≡ get_or (counted l.need l.outcome) k 0)
