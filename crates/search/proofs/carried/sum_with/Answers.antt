-- `search::carried::sum_with` meets its contract. Assumes nothing.
use Rattle.std.proofs.Common.{le-ltb, lt-ltb}
use Rattle.search.specs.Value.{sum_with}
use Rattle.search.proofs.carried.sum_with.Goals as goal

pub returns-then-p-instance : goal.returns-then-p-instance
unfolding sum_with
returns-then-p-instance c = rw (← c.from-p.ensures, lt-ltb _ _ c.if-p-instance.true, c.entry_in.ensures.0)

pub returns : goal.returns
unfolding sum_with
returns c = rw (← c.from-p.ensures, le-ltb _ _ c.if-p-instance.false)
