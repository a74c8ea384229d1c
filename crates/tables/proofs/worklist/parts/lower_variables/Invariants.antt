-- `tables::worklist::parts::lower_variables` meets its contract. The loop's invariant: w is the number of states of the variables below v, at most 64. Assumes nothing.
use Rattle.std.proofs.Common.{◌≤◌}
use Rattle.tables.proofs.Spacing.{Weighed}
use Rattle.tables.proofs.worklist.parts.lower_variables.Given as goal

abbrev pub invariant-loop-v : goal.invariant-loop-v
invariant-loop-v l = Weighed l.pattern.sizes l.pattern.picked l.pattern.variables l.w l.v × (l.w ≤ 64)
