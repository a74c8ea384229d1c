-- `read_full`: what was read is the front of the input. Assumes nothing.
use Rattle.std.proofs.Common.{rules}
use Rattle.report.proofs.Reading.{known_more}
use Rattle.report.proofs.input.read_full.Goals as goal

pub loop-done-preserved : goal.loop-done-preserved
loop-done-preserved g c = let l = c.loop-done in
    (search rules, search rules, known_more _ _ _ l.buffer c.read.new.buf _ l.done c.in_ok-n.n l.invariant.1 c.in_ok-n.ensures.bound.0 l.invariant.2 c.in_ok-n.ensures.bytes.0)
