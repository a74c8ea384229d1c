-- `search::memory::slot_of` meets its contract. Assumes nothing.
use Rattle.search.proofs.Remembering.{and_below}
use Rattle.search.proofs.memory.slot_of.Goals as goal

pub returns : goal.returns
returns c = and_below _ _ c.requires
