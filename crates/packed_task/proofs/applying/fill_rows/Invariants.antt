-- `packed_task::applying::fill_rows` meets its contract. The loop's invariant: rows below q are filled. Assumes nothing.
use Rattle.std.proofs.Common.{◌≡◌, ◌-◌, ◌*◌, ◌≤◌, length}
use Rattle.packed_task.proofs.SetsFilled.{FillingRows}
use Rattle.packed_task.proofs.applying.fill_rows.Given as goal

abbrev pub invariant-loop-q : goal.invariant-loop-q
invariant-loop-q l = (l.q ≤ 16 * l.bytes) × (length l.sets ≡ 2048) × FillingRows l.slots l.initial.sets l.sets l.q

abbrev pub decreases-loop-q : goal.decreases-loop-q
decreases-loop-q l = 16 * l.bytes - l.q
