-- `report::lines::Lines::put_word` meets its contract: the first bytes of the word are written. Assumes nothing.
use native.Mathlib.Omega.{arith}
use lib.ListN.{length-take}
use Rattle.report.proofs.Stored.{puts_nothing, puts_more, puts_whole}
use Rattle.report.proofs.lines.Lines.put_word.Goals as goal

pub loop-b-init : goal.loop-b-init
loop-b-init c = puts_nothing _

pub loop-b-preserved : goal.loop-b-preserved
loop-b-preserved c = puts_more _ _ c.loop-b-test.true c.loop-b.invariant c.put_byte.ensures

pub put_byte-requires : goal.put_byte-requires
put_byte-requires c = omega (arith, c.loop-b.invariant.written.ends, length-take c.loop-b.b-index c.args.word.now)

pub returns : goal.returns
returns c = puts_whole _ _ c.loop-b-test.false c.loop-b.invariant
