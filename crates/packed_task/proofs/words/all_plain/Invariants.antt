-- `all_plain`: the faults gathered so far are none exactly if the cells passed are plain. Assumes nothing.
use Rattle.std.proofs.Common.{◌≡◌, ◌≤◌, eqb, get_or}
use Rattle.task_record.specs.Scan.{all_below}
use Rattle.packed_task.specs.Squeezed.{plain_cell}
use Rattle.packed_task.proofs.words.all_plain.Given as goal

abbrev pub invariant-loop-x : goal.invariant-loop-x
invariant-loop-x l = (l.x-index ≤ 16) × (eqb l.bad 0 ≡ all_below (λ k. plain_cell (get_or l.cells k 0)) l.x-index)
