-- `common_cell`: the cells passed are at least what they have in common. Assumes nothing.
use Rattle.std.proofs.Common.{◌≡◌, ℕ, ◌+◌, ◌*◌, ◌≤◌, ◌<◌, get_or}
use Rattle.planning.specs.Pattern.{counted_cell}
use Rattle.patterns.proofs.verdict.common_cell.Given as goal

abbrev pub invariant-loop-k : goal.invariant-loop-k
invariant-loop-k l = ((i : ℕ) → 0 ≤ i → i < l.k → l.low ≤ counted_cell l.need (get_or l.rec (l.at + 16 * i) 0))
    × (((i : ℕ) → i < l.k → counted_cell l.need (get_or l.rec (l.at + 16 * i) 0) ≡ 255) → l.low ≡ 255)
