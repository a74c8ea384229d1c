-- `search::owners::fill_owners` meets its contract. The loop's invariant: every affected pattern below p is the owner. Assumes nothing.
use Rattle.std.proofs.Common.{◌-◌, ◌≤◌}
use Rattle.task_record.specs.Numbers.{pattern_count}
use Rattle.search.proofs.Owning.{Owning}
use Rattle.search.proofs.Props.{known}
use Rattle.search.proofs.owners.fill_owners.Given as goal

abbrev pub invariant-loop-p : goal.invariant-loop-p
invariant-loop-p l = Owning l.built.rec.now (known l.built.prepared).sound l.owners l.p × (l.p ≤ pattern_count l.built.rec.now)

abbrev pub decreases-loop-p : goal.decreases-loop-p
decreases-loop-p l = pattern_count l.built.rec.now - l.p
