-- `set_of`: the set of the numbers from q on that pass. Assumes nothing.
use Rattle.std.proofs.Common.{◌≡◌, ℕ, ◌-◌, ◌<◌, Bool}
use Rattle.planning.specs.Sets.{set_from}
use Rattle.tables.proofs.sets.set_of.Given as goal

abbrev pub invariant-loop-q : goal.invariant-loop-q
invariant-loop-q g l = (f : ℕ → Bool) → ((q : ℕ) (b : Bool) → q < l.n → goal.F-post g l.passes q b → b ≡ f q) → l.set ≡ set_from f l.q (l.n - l.q)
