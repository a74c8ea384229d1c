-- `packed_task::applying::enter` meets its contract. The loop's invariant: digits below v are entered. Assumes nothing.
use Rattle.std.proofs.Common.{◌≡◌, ◌-◌, ◌≤◌, min}
use Rattle.packed_task.proofs.SetsFilled.{Entering}
use Rattle.packed_task.proofs.applying.enter.Given as goal

abbrev pub invariant-loop-v : goal.invariant-loop-v
invariant-loop-v l = (l.few ≡ min l.digits 16) × (l.v ≤ l.few) × Entering l.initial.slots l.slots l.need l.value l.bit l.v l.n l.x

abbrev pub decreases-loop-v : goal.decreases-loop-v
decreases-loop-v l = l.few - l.v
