-- `search::byte_rows::sum_blocks` meets its contract. The loop's invariant: the sum so far and what is left make the whole. Assumes nothing.
use Rattle.std.proofs.Common.{◌≡◌, ◌+◌, ◌-◌, ◌*◌, ◌≤◌}
use Rattle.search.specs.ByteRows.{block_sum}
use Rattle.search.proofs.byte_rows.sum_blocks.Given as goal

abbrev pub invariant-loop-j : goal.invariant-loop-j
invariant-loop-j l = (block_sum l.sums l.at l.count l.s ≡ l.i + block_sum l.sums (l.at + 256 * l.j) (l.count - l.j) l.rest) × (l.j ≤ l.count) × (l.i ≤ 65535 * l.j)

abbrev pub decreases-loop-j : goal.decreases-loop-j
decreases-loop-j l = l.count - l.j
