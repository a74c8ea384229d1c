-- `search::estimate::value_of` meets its contract. The loop's invariant: the sum so far and what is left make the value. Assumes nothing.
use Rattle.std.proofs.Common.{◌≡◌, ◌-◌, ◌*◌, ◌≤◌}
use Rattle.planning.specs.Extended.{fin, add∞}
use Rattle.planning.specs.Table.{infinite_entry}
use Rattle.search.specs.Value.{pattern_sum}
use Rattle.search.specs.Packed.{instance_value}
use Rattle.search.proofs.estimate.value_of.Given as goal

abbrev pub invariant-loop-p : goal.invariant-loop-p
invariant-loop-p l = (instance_value l.instance l.s ≡ add∞ (fin l.sum) (pattern_sum l.instance.weights.now l.instance.constants.offsets l.instance.tables.now l.s l.p (l.instance.constants.patterns - l.p))) × (l.p ≤ l.instance.constants.patterns) × (l.sum ≤ infinite_entry * l.p)

abbrev pub decreases-loop-p : goal.decreases-loop-p
decreases-loop-p l = l.instance.constants.patterns - l.p
