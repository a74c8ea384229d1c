-- `Task::of`: the goal stands in the record. Assumes nothing.
use Rattle.std.proofs.Common.{arith}
use Rattle.task_record.proofs.Soundness.{sound_length}
use Rattle.plan_check.proofs.task.Task.of.Goals as goal

pub cells_at-requires : goal.cells_at-requires
cells_at-requires c = let long = sound_length _ c.checked.invariant in omega arith
