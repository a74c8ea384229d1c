-- `Frame::begun`: the action stands in the record. Assumes nothing.
use Rattle.std.proofs.Common.{arith}
use Rattle.task_record.specs.TaskOf.{action_of}
use Rattle.task_record.proofs.SoundTask.{actions_right}
use Rattle.task_record.proofs.Soundness.{sound_length}
use Rattle.plan_check.specs.Stack.{begun_frame}
use Rattle.plan_check.proofs.frames.Frame.begun.Goals as goal

pub bounds-task-inside-at_cost : goal.bounds-task-inside-at_cost
bounds-task-inside-at_cost c =
    let sound = c.task.invariant.0 in
    let few = actions_right _ sound in
    let long = sound_length _ sound in
    let m = rw (← c.task.view_is) at c.requires.0 in
    omega arith

pub bounds-task-inside-action : goal.bounds-task-inside-action
bounds-task-inside-action c =
    let sound = c.task.invariant.0 in
    let few = actions_right _ sound in
    let long = sound_length _ sound in
    let m = rw (← c.task.view_is) at c.requires.0 in
    omega arith

pub returns : goal.returns
unfolding begun_frame action_of
returns c = rw (c.from.ensures, c.from-2.ensures, ← c.task.view_is, c.at_cost.ensures, c.at_action-action.ensures)
