-- `judge_tables`: the sizes of the task's variables are lent on as they stand in the record. Assumes nothing.
use mathlib.Core.Path.{◌≡◌, ◌∙◌}
use Prim.Native.Nat.{◌+◌, ◌-◌}
use native.Mathlib.Omega.{arith}
use Rattle.task_record.specs.Layout.{at_sizes}
use Rattle.task_record.specs.Numbers.{variable_count}
use Rattle.task_record.specs.TaskOf.{task_of}
use Rattle.task_record.proofs.Soundness.{sound_length}
use Rattle.patterns.proofs.Sizes.{variables_few}
use Rattle.patterns.proofs.space.judge_tables.Goals as goal

pub slice_bounds-judge_room-end : goal.slice_bounds-judge_room-end
slice_bounds-judge_room-end c =
    let variable-count = c.variable_count in
    let from = c.from-end in
    let r = c.record.inside.cells.now in let h = c.record.invariant in let n = sound_length r h in let f = variables_few r h in let w = from.ensures ∙ variable-count.ensures in omega arith

pub judge_room-requires : goal.judge_room-requires
unfolding task_of
judge_room-requires c =
    let args = c.args in
    let variable-count = c.variable_count in
    let from = c.from-end in
    let r = args.record.now in let w = from.ensures ∙ rw c.record.view_is at variable-count.ensures in
    let e : at_sizes + from.result - at_sizes ≡ variable_count r = omega arith in
    rw (c.record.view_is, e)
