-- `packed_task::compile_record::compile_record` meets its contract. Assumes nothing.
use Rattle.std.proofs.Common.{◌∙◌, arith}
use Rattle.task_record.proofs.SoundTask.{actions_right}
use Rattle.packed_task.proofs.CompiledRecord.{record_cleared}
use Rattle.packed_task.proofs.compile_record.compile_record.Goals as goal

pub clear_from-requires : goal.clear_from-requires
clear_from-requires c = omega (arith, c.from.ensures, c.action_count.ensures, actions_right c.record.inside.cells.now c.record.invariant)

pub returns : goal.returns
returns c = c.compile_over.ensures ∙ record_cleared c.args.record.now (rw c.record.view_is at c.record.invariant) _
    (rw (← c.record.view_is) (rw (c.from.ensures, c.action_count.ensures) at c.clear_from.ensures).zeros)
