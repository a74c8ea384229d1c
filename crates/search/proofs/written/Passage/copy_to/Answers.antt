-- `search::written::Passage::copy_to` meets its contract. Assumes nothing.
use Rattle.search.proofs.Standing.{copied_within}
use Rattle.search.proofs.written.Passage.copy_to.Goals as goal

pub returns : goal.returns
returns c = let e = c.copy_within.ensures.by_index in copied_within _ _ _ _ _ e.0 e.1
