-- `faultless`: no fault was gathered only if each test so far answered 0. Assumes nothing.
use Rattle.std.proofs.Common.{◌≡◌, ℕ, ◌-◌, ◌<◌, ◌≤◌}
use Rattle.task_record.proofs.columns.faultless.Given as goal

abbrev pub invariant-loop-v : goal.invariant-loop-v
invariant-loop-v g l = (l.v ≤ 16) × (l.bad ≡ 0 → (k : ℕ) → k < l.v → goal.F-post g l.fault k 0)

abbrev pub decreases-loop-v : goal.decreases-loop-v
decreases-loop-v g l = 16 - l.v
