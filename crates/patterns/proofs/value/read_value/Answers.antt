-- `read_value`: sizes and state without the cells of variables that the task does not have. Assumes nothing.
use mathlib.Core.Path.{◌≡◌, sym, ap, ◌∙◌}
use Prim.Native.Nat.{◌+◌, ◌-◌}
use native.Mathlib.Omega.{arith}
use lib.ListN.{length, take}
use lib.Seq.{length-take-le}
use Rattle.planning.specs.Table.{value, Small}
use Rattle.task_record.specs.Layout.{at_sizes}
use Rattle.task_record.specs.Numbers.{variable_count}
use Rattle.task_record.specs.TaskOf.{task_of, patterns_of, values_of}
use Rattle.task_record.proofs.Soundness.{sound_length}
use Rattle.task_record.proofs.States.{good_values}
use Rattle.patterns.specs.Value.{value_of, read_value}
use Rattle.patterns.proofs.Refusals.{ready_means, state_good}
use Rattle.patterns.proofs.Room.{fits_small, fits_room}
use Rattle.patterns.proofs.Sizes.{variables_few}
use Rattle.patterns.proofs.value.read_value.Goals as goal

pub slice_bounds-sum_entries-end : goal.slice_bounds-sum_entries-end
slice_bounds-sum_entries-end c =
    let variables = c.variable_count in
    let from = c.from-variables in
    let r = c.record.inside.cells.now in let h = c.record.invariant in let n = sound_length r h in let f = variables_few r h in let w = from.ensures ∙ variables.ensures in omega arith

pub slice_bounds-sum_entries-end-2 : goal.slice_bounds-sum_entries-end-2
slice_bounds-sum_entries-end-2 c =
    let pre = c.requires in
    let args = c.args in
    let variables = c.variable_count in
    let from = c.from-variables in
    let r = args.record.now in let g = state_good r args.state.now (rw c.record.view_is at c.record.invariant) pre.0 in
    sym (length-take-le _ _ (rw (from.ensures, variables.ensures, c.record.view_is, g.1.whole) (variables_few r g.0)))

pub sum_entries-requires : goal.sum_entries-requires
unfolding Small task_of
sum_entries-requires c =
    let pre = c.requires in
    let args = c.args in
    let variables = c.variable_count in
    let from = c.from-variables in
    let r = args.record.now in let s = args.state.now in let g = state_good r s (rw c.record.view_is at c.record.invariant) pre.0 in
    let k = ready_means r (length args.tables.now) pre.1 in
    let w = from.ensures ∙ rw c.record.view_is at variables.ensures in
    let e : at_sizes + from.result - at_sizes ≡ variable_count r = omega arith in (
      rw (c.record.view_is, e),
      rw w (good_values r g.0 s g.1),
      fits_small (task_of r).sizes (patterns_of r) (length args.tables.now) k.0.0 k.0.1,
      let o = fits_room (task_of r).sizes (patterns_of r) (length args.tables.now) k.0.0 k.0.1 in omega arith,
    )

pub returns : goal.returns
unfolding read_value values_of
returns c =
    let args = c.args in
    let variables = c.variable_count in
    let from = c.from-variables in
    let sum-entries = c.sum_entries in
    let a = args in sum-entries.ensures ∙ ap (λ v. value_of (value (task_of a.record.now).sizes (patterns_of a.record.now) a.tables.now (take v a.state.now))) (from.ensures ∙ rw c.record.view_is at variables.ensures)
