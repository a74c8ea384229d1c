-- `search::carried::entry_in` meets its contract: the cost at the state's index. Assumes nothing.
use Rattle.search.proofs.EntrySums.{entry_found}
use Rattle.search.proofs.carried.entry_in.Goals as goal

pub cost_at-requires : goal.cost_at-requires
cost_at-requires c = (c.requires, c.index_by_bytes.ensures.1)

pub returns : goal.returns
returns c = (entry_found _ _ _ _ _ _ _ c.index_by_bytes.ensures.0 c.cost_at.ensures.0, c.cost_at.ensures.1)
