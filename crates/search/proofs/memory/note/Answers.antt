-- `search::memory::note` meets its contract. Assumes nothing.
use Rattle.std.proofs.Common.{arith}
use Rattle.search.proofs.Remembering.{slot_noted}
use Rattle.search.proofs.memory.note.Goals as goal

pub returns : goal.returns
returns c = let p = c.requires in slot_noted _ _ _ _ _ _ _ _ c.slot_of.ensures p.1 p.2 p.3 (omega arith) c.result_word-word.ensures
