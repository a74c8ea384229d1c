-- `tables::ranking::extend` meets its contract. Assumes nothing.
use Rattle.std.proofs.Common.{◌≡◌, ◌≤◌, length}
use Rattle.tables.specs.Steps.{Extended}
use Rattle.tables.proofs.ranking.extend.Given as goal

abbrev pub invariant-loop-k : goal.invariant-loop-k
invariant-loop-k l = (l.w ≤ l.k) × (l.w ≤ l.end → l.k ≤ l.end) × (length l.states ≡ length l.initial.states) × Extended l.initial.states l.states l.w l.k l.place
