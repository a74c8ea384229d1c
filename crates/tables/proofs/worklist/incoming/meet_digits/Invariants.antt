-- `tables::worklist::incoming::meet_digits` meets its contract. The loop's invariant: digits below v are met. Assumes nothing.
use Rattle.std.proofs.Common.{◌-◌}
use Rattle.tables.proofs.Rowing.{Meeting}
use Rattle.tables.proofs.worklist.incoming.meet_digits.Given as goal

abbrev pub invariant-loop-v : goal.invariant-loop-v
invariant-loop-v l = Meeting l.edges.slots l.part l.word l.edges.all l.set l.rest l.w l.v

abbrev pub decreases-loop-v : goal.decreases-loop-v
decreases-loop-v l = 16 - l.v
