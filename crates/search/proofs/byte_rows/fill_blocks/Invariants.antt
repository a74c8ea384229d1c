-- `search::byte_rows::fill_blocks` meets its contract. The loop's invariant: patterns below p have their blocks. Assumes nothing.
use Rattle.std.proofs.Common.{◌≤◌}
use Rattle.search.proofs.BlocksFilled.{Placing}
use Rattle.search.proofs.byte_rows.fill_blocks.Given as goal

abbrev pub invariant-loop-p : goal.invariant-loop-p
invariant-loop-p l = (l.p ≤ l.patterns) × Placing l.weights l.blocks l.at l.p
