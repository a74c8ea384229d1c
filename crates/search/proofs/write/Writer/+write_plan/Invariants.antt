-- `search::write::Writer::write_plan` meets its contract. Invariant of the loop: the outcomes left succeed, and their bytes after those written make the
-- whole plan (`Underway`); what is known of plans that stand in the buffer is right. The depth falls. Assumes nothing.
use Rattle.std.proofs.Common.{◌≡◌}
use Rattle.search.proofs.Writing.{Underway}
use Rattle.search.proofs.write.Writer.+write_plan.Given as goal

abbrev pub decreases-write_plan : goal.decreases-write_plan
decreases-write_plan l = l.d

abbrev pub invariant-loop-k : goal.invariant-loop-k
invariant-loop-k l = Underway l.initial.self.instance.now l.s l.d l.m l.left l.k-end l.k l.at l.end l.start.size l.self.memory.now l.self.written.now l.initial.self.plan.now l.self.plan.now
    × (l.self.instance ≡ l.initial.self.instance) × (l.self.memory.ghost_name ≡ l.initial.self.memory.ghost_name)
    × (l.self.written.ghost_name ≡ l.initial.self.written.ghost_name) × (l.self.plan.ghost_name ≡ l.initial.self.plan.ghost_name)
