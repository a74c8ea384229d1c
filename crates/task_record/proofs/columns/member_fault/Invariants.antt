-- `member_fault`: the cells passed are at most what was gathered of them. Assumes nothing.
use Rattle.std.proofs.Common.{ℕ, ◌+◌, ◌-◌, ◌*◌, ◌<◌, ◌≤◌, get_or}
use Rattle.task_record.proofs.columns.member_fault.Given as goal

abbrev pub invariant-loop-j : goal.invariant-loop-j
invariant-loop-j l = (l.j ≤ 8) × ((k : ℕ) → 0 ≤ k → k < l.j → get_or l.c (l.a + 16 * k) 0 ≤ l.high)

abbrev pub decreases-loop-j : goal.decreases-loop-j
decreases-loop-j l = 8 - l.j

abbrev pub invariant-loop-j-2 : goal.invariant-loop-j-2
invariant-loop-j-2 l = (l.used ≤ l.j) × (l.j ≤ 8) × ((k : ℕ) → l.used ≤ k → k < l.j → get_or l.c (l.a + 16 * k) 0 ≤ l.rest)

abbrev pub decreases-loop-j-2 : goal.decreases-loop-j-2
decreases-loop-j-2 l = 8 - l.j
