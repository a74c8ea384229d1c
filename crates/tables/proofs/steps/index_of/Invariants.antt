-- `tables::steps::index_of` meets its contract. Assumes nothing.
use Rattle.std.proofs.Common.{◌≡◌, ◌+◌, ◌-◌, ◌*◌, ◌^◌, ◌<◌, ◌≤◌, drop}
use Rattle.tables.specs.Steps.{weigh}
use Rattle.tables.proofs.steps.index_of.Given as goal

abbrev pub invariant-loop-g : goal.invariant-loop-g
invariant-loop-g l = (l.g ≤ 4) × (l.sum ≤ l.g * 3932100) × (weigh l.weights l.s ≡ l.sum + weigh (drop (4 * l.g) l.weights) l.rest) × (l.rest < 65536 ^ (4 - l.g))
