-- `packed_task::compile::compile_action` meets its contract. Assumes nothing.
use Rattle.std.proofs.Common.{◌≡◌, ◌+◌, ◌*◌, ◌≤◌, length}
use Rattle.task_record.specs.TaskOf.{action_of}
use Rattle.packed_task.specs.Packed.{in_keep, outcome_stride}
use Rattle.packed_task.proofs.CompiledAction.{Compiling}
use Rattle.packed_task.proofs.compile.compile_action.Given as goal

abbrev pub invariant-loop-k : goal.invariant-loop-k
invariant-loop-k l = (l.k ≤ 8) × (length l.task ≡ length l.initial.task) × Compiling l.initial.task l.task l.m (action_of l.record l.m) in_keep (in_keep + outcome_stride * l.k)
