-- `state_count`: the running weight times the number of abstract states of the variables left is the whole number. Assumes nothing.
use Prim.Native.Nat.{◌≤◌}
use Rattle.patterns.proofs.Weights.{Counting}
use Rattle.patterns.proofs.places.state_count.Given as goal

abbrev pub invariant-loop-v : goal.invariant-loop-v
invariant-loop-v l = Counting l.sizes l.pattern l.weight l.v × (l.weight ≤ 4096)
