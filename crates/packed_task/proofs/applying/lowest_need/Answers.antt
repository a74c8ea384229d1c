-- `packed_task::applying::lowest_need` meets its contract. Assumes nothing.
use Rattle.std.proofs.Common.{arith, eq-eqb, ne_eqb}
use Rattle.packed_task.specs.Sets.{lowest_need}
use Rattle.packed_task.proofs.applying.lowest_need.Goals as goal

pub returns-then-need-eq0 : goal.returns-then-need-eq0
unfolding lowest_need
returns-then-need-eq0 c = (rw (eq-eqb _ 0 c.if-need-eq0.true), omega arith)

pub returns : goal.returns
unfolding lowest_need
returns c = (rw (ne_eqb _ 0 c.if-need-eq0.false), omega arith)
