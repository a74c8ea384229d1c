-- `search::byte_rows::fill_block` meets its contract. The loop's invariant: sums below x are written. Assumes nothing.
use Rattle.std.proofs.Common.{◌-◌, ◌≤◌}
use Rattle.search.proofs.BlocksFilled.{Blocking}
use Rattle.search.proofs.byte_rows.fill_block.Given as goal

abbrev pub invariant-loop-x : goal.invariant-loop-x
invariant-loop-x l = (l.x ≤ 256) × Blocking l.low l.high l.initial.sums l.sums l.at l.x

abbrev pub decreases-loop-x : goal.decreases-loop-x
decreases-loop-x l = 256 - l.x
