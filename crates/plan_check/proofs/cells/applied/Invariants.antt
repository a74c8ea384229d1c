-- `applied`: the cells passed are changed, the others are the state's. Assumes nothing.
use Rattle.std.proofs.Common.{◌≡◌, ℕ, ◌≤◌, ◌<◌, length, get_or}
use Rattle.task_record.proofs.Cellwise.{changed}
use Rattle.plan_check.proofs.cells.applied.Given as goal

abbrev pub invariant-loop-i : goal.invariant-loop-i
invariant-loop-i l =
    (length l.cells ≡ 16) × (length l.fn.state ≡ 16) × (length l.x-items ≡ 16) × ((k : ℕ) → k < l.i → get_or l.x-items k 0 ≡ changed l.cells l.fn.state k) × ((k : ℕ) → l.i ≤ k → get_or l.x-items k 0 ≡ get_or l.fn.state k 0)
