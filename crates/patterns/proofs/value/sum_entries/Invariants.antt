-- `sum_entries`: the sum so far, and the value of the patterns left, are the whole value. Assumes nothing.
use Rattle.task_record.specs.TaskOf.{task_of, patterns_of}
use Rattle.patterns.proofs.Summing.{Summing}
use Rattle.patterns.proofs.value.sum_entries.Given as goal

abbrev pub invariant-loop-p : goal.invariant-loop-p
invariant-loop-p l = Summing (task_of l.record).sizes (patterns_of l.record) l.state l.tables l.sum l.begin l.p
