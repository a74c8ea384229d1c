-- `start_word`: the start's cells, as many as there are variables, packed. Assumes nothing.
use Rattle.std.proofs.Common.{◌≡◌, ◌≤◌, length, take, drop, sym, ap, ◌∙◌, arith, length-take-le, take-take}
use Rattle.task_record.specs.Layout.{at_start}
use Rattle.task_record.specs.Numbers.{variable_count}
use Rattle.task_record.specs.TaskOf.{start_of}
use Rattle.task_record.proofs.Soundness.{sound_length}
use Rattle.task_record.proofs.SoundTask.{variables_right, length_of_part}
use Rattle.packed_task.specs.Packed.{pack_by, low, digit_by}
use Rattle.packed_task.proofs.packed.start_word.Goals as goal
use Rattle.packed_task.proofs.packed.start_word.Goals.{After-from-n, After-start_cells-cells}

-- The number of variables, and that there are as many cells.

variables-known : (c : After-from-n) → c.from-n.result ≡ variable_count c.record.inside.cells.now
variables-known c = c.from-n.ensures ∙ c.variable_count.ensures

enough-cells : (c : After-start_cells-cells) → c.from-n.result ≤ length c.start_cells-cells.result.now
enough-cells c = let r = c.record.inside.cells.now in
    let n = variables_right r c.record.invariant in let l = sound_length r c.record.invariant in let e = c.from-n.ensures ∙ c.variable_count.ensures in
    rw (c.start_cells-cells.ensures, length_of_part r 16 at_start (omega arith)) (omega (arith, n.1, e))

pub slice_bounds-pack-end : goal.slice_bounds-pack-end
slice_bounds-pack-end c = let w = (goal.at.slice_bounds-pack-end c).After-start_cells-cells in sym (length-take-le _ _ (enough-cells w))

pub pack-requires : goal.pack-requires
pack-requires c = let v = (goal.at.pack-requires c).After-from-n in let w = (goal.at.pack-requires c).After-start_cells-cells in let n = variables_right c.record.inside.cells.now c.record.invariant in
    let e = variables-known v in rw (length-take-le _ _ (enough-cells w)) (omega (arith, n.1, e))

pub returns : goal.returns
unfolding digit_by start_of
returns c = let v = (goal.at.returns c).After-from-n in let r = c.record.inside.cells.now in let n = variables_right r c.record.invariant in
    let e : take c.from-n.result c.start_cells-cells.result.now ≡ start_of r =
    rw (variables-known v, c.start_cells-cells.ensures) (take-take (variable_count r) 16 (drop at_start r) n.1) in
    rw (← c.record.view_is) (c.pack.ensures ∙ ap (pack_by low) e)
