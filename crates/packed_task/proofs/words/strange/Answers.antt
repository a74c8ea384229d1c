-- `strange` by its tests. Assumes nothing.
use Rattle.std.proofs.Common.{le-ltb, lt-ltb, eq-eqb, ne_eqb}
use Rattle.packed_task.specs.Squeezed.{plain_cell}
use Rattle.packed_task.proofs.words.strange.Goals as goal
use Rattle.packed_task.proofs.words.strange.Goals.{then-x-eq-UNNAMED-via-then-x-eq-UNNAMED, then-x-eq-UNNAMED-via-else-x-eq-UNNAMED+then-x-lt16}

pub returns-then-x-eq-UNNAMED : goal.returns-then-x-eq-UNNAMED
unfolding plain_cell
returns-then-x-eq-UNNAMED c = elim c.then-x-eq-UNNAMED.branch [
  | then-x-eq-UNNAMED-via-then-x-eq-UNNAMED w ↦ simp (eq-eqb _ _ w.if-x-eq-UNNAMED.true)
  | then-x-eq-UNNAMED-via-else-x-eq-UNNAMED+then-x-lt16 w ↦ simp (ne_eqb _ _ w.if-x-eq-UNNAMED.false, lt-ltb _ _ w.if-x-lt16.true)
]

pub returns : goal.returns
unfolding plain_cell
returns c = simp (ne_eqb _ _ c.if-x-eq-UNNAMED.false, le-ltb _ _ c.if-x-lt16.false)
