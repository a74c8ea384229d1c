-- `tables::worklist::incoming::fill_part` meets its contract. Assumes nothing.
use Rattle.std.proofs.Common.{arith}
use Rattle.tables.proofs.Rowing.{part_to_start, part_to_next, part_to_end}
use Rattle.tables.proofs.worklist.incoming.fill_part.Goals as goal

pub loop-h-init : goal.loop-h-init
loop-h-init c = part_to_start

pub loop-h-preserved : goal.loop-h-preserved
loop-h-preserved c = part_to_next c.meet_digits.result (omega (arith, c.loop-h-test.true, c.loop-h.auto.sets)) c.meet_digits.ensures c.loop-h.invariant

pub returns : goal.returns
returns c = part_to_end (omega (arith, c.loop-h-test.false, c.loop-h.auto.sets)) c.loop-h.invariant
