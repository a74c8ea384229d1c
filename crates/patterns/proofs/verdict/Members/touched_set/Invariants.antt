-- `touched_set`: the set has the patterns with a variable passed to which an outcome gives a value that counts. Assumes nothing.
use mathlib.Core.Path.{◌≡◌}
use lib.ListN.{length}
use Rattle.task_record.specs.Window.{Sixteen}
use Rattle.patterns.specs.Sets.{member_set}
use Rattle.patterns.proofs.Touched.{Seen}
use Rattle.patterns.proofs.verdict.Members.touched_set.Given as goal

abbrev pub invariant-loop-v : goal.invariant-loop-v
invariant-loop-v l = Sixteen (member_set l.self) l.set-items × Seen l.need l.self l.m l.v l.touched × (length l.need ≡ 16)
