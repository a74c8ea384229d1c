-- `tables::ranking::weight_in` meets its contract. Assumes nothing.
use Rattle.std.proofs.Common.{eq-eqb, ne_eqb}
use Rattle.tables.proofs.ranking.weight_in.Goals as goal

pub returns-then-b-eq1 : goal.returns-then-b-eq1
returns-then-b-eq1 c = simp (eq-eqb _ _ c.if-b-eq1.true)

pub returns : goal.returns
returns c = simp (ne_eqb _ _ c.if-b-eq1.false)
