-- `packed_task::compile_record::compile_actions` meets its contract. Assumes nothing.
use Rattle.std.proofs.Common.{◌≡◌, ◌≤◌, length}
use Rattle.packed_task.specs.Compiling.{ActionsCompiled}
use Rattle.packed_task.proofs.compile_record.compile_actions.Given as goal

abbrev pub invariant-loop-m : goal.invariant-loop-m
invariant-loop-m l = (l.m ≤ l.m-end) × (length l.task ≡ length l.initial.task) × ActionsCompiled l.record l.initial.task l.task l.m
