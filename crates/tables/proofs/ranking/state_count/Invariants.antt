-- `tables::ranking::state_count` meets its contract. Assumes nothing.
use Rattle.tables.proofs.Spacing.{Weighed}
use Rattle.tables.proofs.ranking.state_count.Given as goal

abbrev pub invariant-loop-v : goal.invariant-loop-v
invariant-loop-v l = Weighed l.sizes l.pattern l.n l.w l.v
