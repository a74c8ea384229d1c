-- `Task::has_action`: the number of actions is the record's. Assumes nothing.
use Rattle.plan_check.proofs.Tower.{tower_actions}
use Rattle.plan_check.proofs.task.Task.has_action.Goals as goal

pub returns : goal.returns
returns c = rw (tower_actions, ← c.self.view_is, ← c.self.invariant.1)
