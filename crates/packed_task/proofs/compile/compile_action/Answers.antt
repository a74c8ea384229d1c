-- `packed_task::compile::compile_action` meets its contract. Assumes nothing.
use Rattle.std.proofs.Common.{◌+◌, ◌*◌, ◌<◌, ◌≤◌, drop, refl, arith}
use Rattle.task_record.specs.Layout.{at_precondition}
use Rattle.task_record.specs.Numbers.{outcome_count}
use Rattle.task_record.specs.TaskOf.{action_of}
use Rattle.task_record.proofs.Soundness.{sound_length}
use Rattle.task_record.proofs.SoundTask.{length_of_part, actions_right, outcomes_right}
use Rattle.packed_task.specs.Packed.{in_keep, outcome_stride}
use Rattle.packed_task.proofs.CompiledAction.{Compiling, compiling_start, compiling_outcome, compiling_head, compiling_both}
use Rattle.packed_task.proofs.CompiledRecord.{part_few}
use Rattle.packed_task.proofs.compile.compile_action.Goals as goal
use Rattle.packed_task.proofs.compile.compile_action.Goals.{After-put_head}

-- what `put_head` leaves

module _ (c : After-put_head) where
  few : outcome_count c.args.record.now c.args.m ≤ 8
  few = (outcomes_right c.args.record.now (rw c.record.view_is at c.record.invariant) c.args.m c.requires).1

  known : c.args.m < 64
  known = omega (arith, c.requires, actions_right c.args.record.now (rw c.record.view_is at c.record.invariant))

  headed : Compiling c.args.task.now c.put_head.new.task c.args.m (action_of c.args.record.now c.args.m) 0 in_keep
  headed = compiling_head c.args.record.now c.args.m few c.args.task.now c.put_head.new.task (omega (arith, known))
      (rw (c.from-at.ensures, c.precondition_cells-need.ensures, c.from.ensures, c.from-2.ensures, c.outcome_count.ensures, c.action_weight.ensures, c.record.view_is) at c.put_head.ensures)

pub put_head-requires : goal.put_head-requires
put_head-requires c = let r = c.record.inside.cells.now in let e = c.from-at.ensures in let l = rw (← c.record.view_is) at c.requires in
    (rw c.precondition_cells-need.ensures (part_few (drop (at_precondition c.args.m) r)), omega (arith, e, l, actions_right r c.record.invariant))

pub loop-k-init : goal.loop-k-init
loop-k-init c = (omega arith, refl, compiling_start _ _ _ _)

pub put_outcome-requires : goal.put_outcome-requires
put_outcome-requires c =
    let w = (goal.at.put_outcome-requires c).After-put_head in
    let t = c.loop-k-test.true in let e = c.from-at.ensures in let f = c.from-in-loop-k.ensures in
    let r = c.args.record.now in let i = rw c.record.view_is at c.record.invariant in let n = sound_length r i in record {
      cells = rw (c.precondition_cells-need.ensures, c.record.view_is) (refl, length_of_part r 16 (at_precondition c.args.m) (omega (arith, known w, n)), omega (arith, known w, n, t));
      room = omega (arith, t, e, f, known w);
    }

pub loop-k-preserved : goal.loop-k-preserved
loop-k-preserved c =
    let w = (goal.at.loop-k-preserved c).After-put_head in
    let l = c.loop-k in let a = c.args in
    let g = compiling_outcome a.record.now a.m (few w) _ l.task _ l.k c.loop-k-test.true (omega (arith, (headed w).long, known w))
    (rw (c.from-in-loop-k.ensures, c.from-at.ensures, c.record.view_is) at c.put_outcome.ensures) l.invariant.2 in
    (omega (arith, c.loop-k-test.true), g.long, g)

pub returns : goal.returns
returns c = let w = (goal.at.returns c).After-put_head in let l = c.loop-k in let a = c.args in
    compiling_both a.task.now _ l.task a.m (action_of a.record.now a.m) (in_keep + outcome_stride * l.k) (omega arith) (headed w) l.invariant.2
