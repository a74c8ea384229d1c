-- `count_entries`: the row is the spread of the entries passed. Assumes nothing.
use Rattle.std.proofs.Common.{◌≡◌, ◌≤◌, map, length, take}
use Rattle.planning.specs.Table.{cost_of}
use Rattle.planning.specs.Spread.{spread}
use Rattle.tables.proofs.spread.count_entries.Given as goal

abbrev pub invariant-loop-e : goal.invariant-loop-e
invariant-loop-e l = (l.e-index ≤ length l.entries) × (l.row ≡ spread (take l.e-index (map cost_of l.entries)))
