-- `tables::worklist::queue::first_waiting` meets its contract. Assumes nothing.
use Rattle.std.proofs.Common.{arith}
use Rattle.tables.proofs.Queue.{passed_next, passed_all}
use Rattle.tables.proofs.worklist.queue.first_waiting.Goals as goal

pub loop-j-init : goal.loop-j-init
loop-j-init c = record { none = λ j l. absurd (omega arith) }

pub loop-j-preserved : goal.loop-j-preserved
loop-j-preserved c = passed_next c.loop-j.invariant c.if-mark.false

pub returns : goal.returns
returns c = λ some. absurd (passed_all c.loop-j.invariant c.loop-j-test.false some)
