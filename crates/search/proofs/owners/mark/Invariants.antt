-- `search::owners::mark` meets its contract. The loop's invariant: actions below m are marked. Assumes nothing.
use Rattle.std.proofs.Common.{◌-◌, ◌≤◌}
use Rattle.task_record.specs.Layout.{at_pattern}
use Rattle.task_record.specs.TaskOf.{cells_at}
use Rattle.packed_task.specs.Packed.{pack_by, picking}
use Rattle.search.proofs.Owning.{Marking}
use Rattle.search.proofs.owners.mark.Given as goal

abbrev pub invariant-loop-m : goal.invariant-loop-m
invariant-loop-m l = let b = l.built in Marking b.task.now (pack_by picking (cells_at b.rec.now (at_pattern l.p))) l.p l.initial.owners l.owners l.m × (l.m ≤ l.m-end)

abbrev pub decreases-loop-m : goal.decreases-loop-m
decreases-loop-m l = l.m-end - l.m
