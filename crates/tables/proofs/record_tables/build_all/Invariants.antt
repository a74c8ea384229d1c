-- `build_all`: the patterns passed have their tables, and the rest of the slice is as lent. Assumes nothing.
use Rattle.std.proofs.Common.{◌-◌}
use Rattle.task_record.specs.Numbers.{pattern_count}
use Rattle.tables.proofs.TableChain.{Chaining}
use Rattle.tables.proofs.record_tables.build_all.Given as goal

abbrev pub invariant-loop-p : goal.invariant-loop-p
invariant-loop-p l = Chaining l.record l.initial.tables l.tables l.begin l.p

abbrev pub decreases-loop-p : goal.decreases-loop-p
decreases-loop-p l = pattern_count l.record - l.p
