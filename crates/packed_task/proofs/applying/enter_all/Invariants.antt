-- `packed_task::applying::enter_all` meets its contract. The loop's invariant: actions below m are entered. Assumes nothing.
use Rattle.std.proofs.Common.{◌-◌, ◌≤◌}
use Rattle.packed_task.specs.Sets.{action_need}
use Rattle.packed_task.proofs.SetsFilled.{Slotting}
use Rattle.packed_task.proofs.applying.enter_all.Given as goal

abbrev pub invariant-loop-m : goal.invariant-loop-m
invariant-loop-m l = (l.m ≤ l.actions) × Slotting (action_need l.task l.mask) l.digits l.slots l.m

abbrev pub decreases-loop-m : goal.decreases-loop-m
decreases-loop-m l = l.actions - l.m
