-- `search::weights::weights_of` meets its contract. The loop's invariant: variables below v have their weights. Assumes nothing.
use Rattle.std.proofs.Common.{◌-◌}
use Rattle.task_record.specs.Layout.{at_pattern}
use Rattle.task_record.specs.Numbers.{variable_count}
use Rattle.task_record.specs.TaskOf.{cells_at}
use Rattle.patterns.specs.Space.{all_sizes}
use Rattle.tables.proofs.Spacing.{Weighing}
use Rattle.search.proofs.weights.weights_of.Given as goal

abbrev pub invariant-loop-v : goal.invariant-loop-v
invariant-loop-v l = let r = l.built.rec.now in Weighing (all_sizes r) (cells_at r (at_pattern l.p)) (variable_count r) l.weights l.w l.v

abbrev pub decreases-loop-v : goal.decreases-loop-v
decreases-loop-v l = variable_count l.built.rec.now - l.v
