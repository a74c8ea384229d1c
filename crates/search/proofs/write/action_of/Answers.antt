-- `search::write::action_of` meets its contract. Assumes nothing.
use Rattle.search.proofs.write.action_of.Goals as goal

pub returns : goal.returns
returns c = (c.from.ensures, c.if-b-eq-ARRIVED.false)
