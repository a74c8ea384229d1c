-- `search::rounds::run_with` meets its contract: its memory begins empty. Assumes nothing.
use Rattle.std.proofs.Common.{arith}
use Rattle.search.proofs.Remembering.{nothing_remembered}
use Rattle.search.proofs.rounds.run_with.Goals as goal

pub whole_as_slice-deepen : goal.whole_as_slice-deepen
whole_as_slice-deepen g c = omega (arith, c.requires.1)

pub deepen-requires : goal.deepen-requires
deepen-requires g c = record { startable = c.requires.2; remembers = nothing_remembered _ _ _ c.requires.0 }
