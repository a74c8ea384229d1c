-- `search::carried::rest_of` meets its contract: the entry of a pattern is at most a finite value. Assumes nothing.
use Rattle.std.proofs.Common.{arith, le-ltb, lt-ltb}
use Rattle.search.specs.Value.{rest_of}
use Rattle.search.proofs.Carrying.{entry_within}
use Rattle.search.proofs.carried.rest_of.Goals as goal

pub overflow_sub-result : goal.overflow_sub-result
overflow_sub-result c = let k = entry_within _ _ _ _ _ _ _ c.if-p-instance.true c.requires.1 in omega (arith, k, c.entry_in.ensures.0)

pub returns-then-p-instance : goal.returns-then-p-instance
unfolding rest_of
returns-then-p-instance c = (rw (← c.from-p.ensures, lt-ltb _ _ c.if-p-instance.true, c.entry_in.ensures.0), omega arith)

pub returns : goal.returns
unfolding rest_of
returns c = (rw (← c.from-p.ensures, le-ltb _ _ c.if-p-instance.false), omega arith)
