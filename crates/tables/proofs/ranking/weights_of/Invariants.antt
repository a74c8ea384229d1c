-- `tables::ranking::weights_of` meets its contract. Assumes nothing.
use Rattle.tables.proofs.Spacing.{Weighing}
use Rattle.tables.proofs.ranking.weights_of.Given as goal

abbrev pub invariant-loop-v : goal.invariant-loop-v
invariant-loop-v l = Weighing l.pattern.sizes l.pattern.picked l.pattern.variables l.r l.w l.v
