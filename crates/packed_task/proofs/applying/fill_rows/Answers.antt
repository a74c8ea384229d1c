-- `packed_task::applying::fill_rows` meets its contract. The loop's invariant: rows below q are filled. Assumes nothing.
use Rattle.std.proofs.Common.{arith}
use Rattle.packed_task.proofs.SetsFilled.{rows_start, rows-go_on, rows_end}
use Rattle.packed_task.proofs.applying.fill_rows.Goals as goal

pub loop-q-init : goal.loop-q-init
loop-q-init c = (omega arith, omega arith, rows_start c.args.slots.now c.args.sets.now)

pub fill_row-requires : goal.fill_row-requires
fill_row-requires c = omega (arith, c.requires)

pub loop-q-preserved : goal.loop-q-preserved
loop-q-preserved c = (omega arith, omega arith, rows-go_on c.loop-q.invariant.2 c.fill_row.ensures)

pub returns : goal.returns
returns c = rows_end c.loop-q.invariant.2 c.args.bytes c.loop-q.invariant.0 c.loop-q-test.false c.loop-q.invariant.1
