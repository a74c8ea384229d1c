-- `search::weights::fill_weights` meets its contract. The loop's invariant: patterns below p have their weights and offsets. Assumes nothing.
use Rattle.std.proofs.Common.{◌-◌}
use Rattle.task_record.specs.Numbers.{pattern_count}
use Rattle.task_record.specs.TaskOf.{task_of, patterns_of}
use Rattle.search.proofs.WeightsFilled.{FillingAll}
use Rattle.search.proofs.weights.fill_weights.Given as goal

abbrev pub invariant-loop-p : goal.invariant-loop-p
invariant-loop-p l = let r = l.built.rec.now in FillingAll (task_of r).sizes (patterns_of r) l.weights l.offsets l.begin l.p

abbrev pub decreases-loop-p : goal.decreases-loop-p
decreases-loop-p l = pattern_count l.built.rec.now - l.p
