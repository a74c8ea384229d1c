-- `search::memory::recall` meets its contract: the slot that it read says what it answers. Assumes nothing.
use Rattle.std.proofs.Common.{◌∙◌}
use Rattle.search.specs.Memory.{stored_by}
use Rattle.search.proofs.Trying.{not_zero}
use Rattle.search.proofs.memory.recall.Goals as goal

pub returns : goal.returns
unfolding stored_by
returns c = (record { slot = c.slot_of.result; inside = c.slot_of.ensures; stores = rw (c.if-slot-s.false, c.if-slot-from.false ∙ c.from.ensures); some = not_zero _ c.if-made-eq0.false }, c.if-made-room.false)
