-- `part_of`: the entries of the patterns passed are added; the last of them begins where those before it end. Assumes nothing.
use Rattle.std.proofs.Common.{◌≡◌, ◌+◌, ◌-◌, ◌*◌, ◌≤◌, take}
use Rattle.task_record.specs.TaskOf.{task_of, patterns_of}
use Rattle.patterns.specs.Space.{entries_needed}
use Rattle.tables.proofs.spread.part_of.Given as goal

abbrev pub invariant-loop-q : goal.invariant-loop-q
invariant-loop-q l = (l.q ≤ l.p + 1) × (l.begin ≡ entries_needed (task_of l.record).sizes (take (l.q - 1) (patterns_of l.record))) × (l.end ≡ entries_needed (task_of l.record).sizes (take l.q (patterns_of l.record))) × (l.end ≤ 4096 * l.q)

abbrev pub decreases-loop-q : goal.decreases-loop-q
decreases-loop-q l = l.p + 1 - l.q
