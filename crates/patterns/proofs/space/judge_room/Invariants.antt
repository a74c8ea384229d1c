-- `judge_room`: the patterns passed are small, and their entries are counted. Assumes nothing.
use Rattle.task_record.specs.TaskOf.{task_of, patterns_of}
use Rattle.patterns.proofs.Room.{Adding}
use Rattle.patterns.proofs.space.judge_room.Given as goal

abbrev pub invariant-loop-p : goal.invariant-loop-p
invariant-loop-p l = Adding (task_of l.record).sizes (patterns_of l.record) l.needed l.p
