-- `action_fault`: the used cells passed, moved up by 1, are at most the highest, and the others at least what they have in common.
-- Assumes nothing.
use Rattle.std.proofs.Common.{ℕ, ◌+◌, ◌-◌, ◌*◌, ◌%◌, ◌<◌, ◌≤◌, get_or}
use Rattle.task_record.proofs.columns.action_fault.Given as goal

abbrev pub invariant-loop-j : goal.invariant-loop-j
invariant-loop-j l = (l.j ≤ l.used) × ((k : ℕ) → 0 ≤ k → k < l.j → (get_or l.c (l.a + 16 * k) 0 + 1) % 256 ≤ l.high)

abbrev pub decreases-loop-j : goal.decreases-loop-j
decreases-loop-j l = l.used - l.j

abbrev pub invariant-loop-j-2 : goal.invariant-loop-j-2
invariant-loop-j-2 l = (l.used ≤ l.j) × (l.j ≤ 9) × ((k : ℕ) → l.used ≤ k → k < l.j → l.low ≤ get_or l.c (l.a + 16 * k) 0)

abbrev pub decreases-loop-j-2 : goal.decreases-loop-j-2
decreases-loop-j-2 l = 9 - l.j
