-- `tables::worklist::visits::is_above` meets its contract. Assumes nothing.
use Rattle.std.proofs.Common.{arith, le-ltb, lt-ltb}
use Rattle.tables.specs.Visits.{above}
use Rattle.tables.proofs.worklist.visits.is_above.Goals as goal

pub returns-then-i-entries : goal.returns-then-i-entries
unfolding above
returns-then-i-entries c = let a = c.args in let k = c.type_inv.entries a.i in (simp (lt-ltb _ _ c.if-i-entries.true, c.from.ensures), omega (arith, k))

pub returns : goal.returns
unfolding above
returns c = let k = c.type_inv.entries c.args.i in (simp (le-ltb _ _ c.if-i-entries.false), omega (arith, k))
