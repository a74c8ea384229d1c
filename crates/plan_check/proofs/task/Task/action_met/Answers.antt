-- `Task::action_met`: sixteen cells say of the state what the precondition says of its values. Assumes nothing.
use Rattle.std.proofs.Common.{arith}
use Rattle.task_record.proofs.SoundTask.{actions_right}
use Rattle.task_record.proofs.Soundness.{sound_length}
use Rattle.plan_check.proofs.Tower.{tower_enabled, tower_actions}
use Rattle.plan_check.proofs.task.Task.action_met.Goals as goal

pub cells_at-requires : goal.cells_at-requires
cells_at-requires c =
    let sound = c.self.invariant.0 in
    let few = actions_right _ sound in
    let long = sound_length _ sound in
    let m = rw (← c.self.view_is) at c.requires in
    omega arith

pub returns : goal.returns
returns c =
    let m = rw (← c.self.view_is) at c.requires in
    rw (← c.self.view_is, c.met.ensures, c.cells_at.ensures, c.at_precondition.ensures) (tower_enabled _ c.self.invariant.0 _ _ (rw tower_actions m))
