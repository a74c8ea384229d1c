-- `search::written::find_passage` meets its contract: the slot that was found says so. Assumes nothing.
use Rattle.search.proofs.written.find_passage.Goals as goal

pub returns : goal.returns
returns c = let h = rw c.in_ok-known.was at c.recall.ensures in (_, h.0)
