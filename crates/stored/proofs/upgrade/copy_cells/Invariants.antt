-- `copy_cells`: the cells passed are copied. Assumes nothing.
use Rattle.std.proofs.Common.{◌≡◌, ℕ, ◌<◌, length, get_or}
use Rattle.stored.proofs.upgrade.copy_cells.Given as goal

abbrev pub invariant-loop-i : goal.invariant-loop-i
invariant-loop-i l = (length l.target ≡ length l.cells) × ((k : ℕ) → k < l.i → get_or l.target k 0 ≡ get_or l.cells k 0)
