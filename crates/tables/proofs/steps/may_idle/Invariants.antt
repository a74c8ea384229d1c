-- `tables::steps::may_idle` meets its contract. Assumes nothing.
use Rattle.std.proofs.Common.{◌≡◌, ◌≤◌}
use Rattle.packed_task.specs.Packed.{outcome_count}
use Rattle.tables.proofs.Stepping.{Idling}
use Rattle.tables.proofs.steps.may_idle.Given as goal

abbrev pub invariant-loop-o : goal.invariant-loop-o
invariant-loop-o l = (l.n ≡ outcome_count l.task l.m.number) × (l.o ≤ l.n) × Idling l.task l.mask l.m.number l.n l.o
