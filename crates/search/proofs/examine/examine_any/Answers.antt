-- `search::examine::examine_any` meets its contract: what the leaf decides, or the examination of a state that opens. Assumes nothing.
use Rattle.search.proofs.Looking.{seen_decided, seen_open}
use Rattle.search.proofs.examine.examine_any.Goals as goal

pub examine-requires : goal.examine-requires
examine-requires c = seen_open c.requires c.look.ensures c.in-None.is

pub returns-in-Some : goal.returns-in-Some
returns-in-Some c = seen_decided c.requires c.look.ensures _ c.in-Some.is
