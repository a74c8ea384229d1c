-- `packed_task::applying::fill_row` meets its contract. The loop's invariant: the row is filled as far as l. Assumes nothing.
use Rattle.std.proofs.Common.{refl, arith}
use Rattle.packed_task.specs.Sets.{slot_meet}
use Rattle.packed_task.proofs.SetsFilled.{row_starts, row_goes_on, row_ends}
use Rattle.packed_task.proofs.applying.fill_row.Goals as goal

pub loop-l-init : goal.loop-l-init
loop-l-init c = (omega arith, row_starts c.args.slots.now c.args.sets.now c.args.q (omega arith))

pub bounds-sets-q : goal.bounds-sets-q
bounds-sets-q c = let e = c.loop-l.invariant.1.long in let p = c.requires in omega arith

pub loop-l-preserved : goal.loop-l-preserved
unfolding slot_meet
loop-l-preserved c = let l = c.loop-l in let p = c.requires in (omega arith, row_goes_on l.invariant.1 _ refl (omega arith) (omega arith))

pub returns : goal.returns
returns c = row_ends c.loop-l.invariant.1 0 c.loop-l-test.false
