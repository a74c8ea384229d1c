-- `tables::ranking::fill_states` meets its contract. Assumes nothing.
use Rattle.std.proofs.Common.{◌≡◌, length}
use Rattle.tables.proofs.Spacing.{Filling}
use Rattle.tables.proofs.ranking.fill_states.Given as goal

abbrev pub invariant-loop-v : goal.invariant-loop-v
invariant-loop-v l = Filling l.pattern.sizes l.pattern.picked l.pattern.variables l.states l.w l.place l.v × (length l.states ≡ length l.initial.states)
