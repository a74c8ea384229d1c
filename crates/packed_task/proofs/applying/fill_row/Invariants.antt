-- `packed_task::applying::fill_row` meets its contract. The loop's invariant: the row is filled as far as l. Assumes nothing.
use Rattle.std.proofs.Common.{◌-◌, ◌≤◌}
use Rattle.packed_task.proofs.SetsFilled.{FillingRow}
use Rattle.packed_task.proofs.applying.fill_row.Given as goal

abbrev pub invariant-loop-l : goal.invariant-loop-l
invariant-loop-l l = (l.l ≤ 16) × FillingRow l.slots l.initial.sets l.sets l.q l.l

abbrev pub decreases-loop-l : goal.decreases-loop-l
decreases-loop-l l = 16 - l.l
