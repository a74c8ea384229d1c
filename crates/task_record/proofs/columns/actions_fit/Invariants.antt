-- `actions_fit`: the scan of the actions passed found nothing. Assumes nothing.
use Rattle.std.proofs.Common.{◌≡◌, ◌-◌, ◌*◌, ◌≤◌}
use Rattle.task_record.specs.Layout.{at_action, action_size}
use Rattle.task_record.specs.Scan.{first_from}
use Rattle.task_record.specs.Record.{cell_ok}
use Rattle.task_record.proofs.columns.actions_fit.Given as goal

abbrev pub invariant-loop-m : goal.invariant-loop-m
invariant-loop-m l = (l.m ≤ l.used) × (first_from (cell_ok l.record.rec.now) (at_action 0) (action_size * l.m) ≡ at_action l.m)

abbrev pub decreases-loop-m : goal.decreases-loop-m
decreases-loop-m l = l.used - l.m

abbrev pub invariant-loop-m-2 : goal.invariant-loop-m-2
invariant-loop-m-2 l = (l.used ≤ l.m) × (l.m ≤ 64) × (first_from (cell_ok l.record.rec.now) (at_action 0) (action_size * l.m) ≡ at_action l.m)

abbrev pub decreases-loop-m-2 : goal.decreases-loop-m-2
decreases-loop-m-2 l = 64 - l.m
