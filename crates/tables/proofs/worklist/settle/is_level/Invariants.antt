-- `tables::worklist::settle::is_level` meets its contract. Assumes nothing.
use Rattle.std.proofs.Common.{◌-◌, length}
use Rattle.tables.proofs.Starting.{Seen}
use Rattle.tables.proofs.worklist.settle.is_level.Given as goal

abbrev pub invariant-loop-i : goal.invariant-loop-i
invariant-loop-i l = Seen l.entries l.marks l.most l.least l.i

abbrev pub decreases-loop-i : goal.decreases-loop-i
decreases-loop-i l = length l.entries - l.i
