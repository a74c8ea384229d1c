-- `search::buffer::put` meets its contract: past the end nothing is stored, and `set` changes nothing there. Assumes nothing.
use Rattle.std.proofs.Common.{sym}
use lib.Seq.{set_out}
use Rattle.search.proofs.buffer.put.Goals as goal

pub returns-else-at-plan : goal.returns-else-at-plan
returns-else-at-plan c = sym (set_out _ _ _ c.if-at-plan.false)
