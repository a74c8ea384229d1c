-- `tables::worklist::settle::weights_among` meets its contract. Assumes nothing.
use Rattle.std.proofs.Common.{arith}
use Rattle.tables.proofs.Starting.{lightest_next}
use Rattle.tables.proofs.worklist.settle.weights_among.Goals as goal

pub loop-e-init : goal.loop-e-init
loop-e-init c = record { least = λ e l. absurd (omega arith) }

pub loop-e-preserved : goal.loop-e-preserved
loop-e-preserved c = lightest_next c.loop-e.invariant (omega arith) (omega arith)

pub returns : goal.returns
returns c = λ e l. c.loop-e.invariant.least e (omega (arith, l, c.loop-e-test.false))
