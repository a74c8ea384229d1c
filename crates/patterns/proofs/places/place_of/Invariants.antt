-- `place_of`: the index so far, and what the variables left add at the running weight, are the whole index. Assumes nothing.
use Prim.Native.Nat.{◌≤◌}
use Rattle.patterns.proofs.Weights.{Numbering}
use Rattle.patterns.proofs.places.place_of.Given as goal

abbrev pub invariant-loop-v : goal.invariant-loop-v
invariant-loop-v l = Numbering l.sizes l.pattern l.state l.index l.states l.v × (l.states ≤ 4096)
