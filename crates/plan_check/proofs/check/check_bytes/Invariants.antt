-- `check_bytes`: between two bytes the rest of the plan is checked as planning checks it, for the state and for what the frames await.
-- Assumes nothing.
use Rattle.std.proofs.Common.{◌≤◌}
use Rattle.planning.specs.PlanCheck.{check_plan}
use Rattle.task_record.specs.TaskOf.{values_of}
use Rattle.plan_check.specs.Tower.{tower}
use Rattle.plan_check.proofs.Reading.{Reading}
use Rattle.plan_check.proofs.check.check_bytes.Given as goal

abbrev pub invariant-loop-at : goal.invariant-loop-at
invariant-loop-at l =
    (l.most ≤ l.stack.room) ×
    Reading l.most l.checked l.plan (check_plan (tower l.checked) l.most (values_of l.checked l.fn.start) l.plan) l.stack.frames l.state l.depth l.paid l.worst l.at
