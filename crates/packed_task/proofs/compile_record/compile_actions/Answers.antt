-- `packed_task::compile_record::compile_actions` meets its contract. Assumes nothing.
use Rattle.std.proofs.Common.{◌≡◌, arith}
use Rattle.task_record.specs.Numbers.{action_count}
use Rattle.packed_task.proofs.CompiledRecord.{no_actions, next_action}
use Rattle.packed_task.proofs.compile_record.compile_actions.Goals as goal

pub loop-m-init : goal.loop-m-init
loop-m-init c = let h = no_actions c.args.record.now c.args.task.now in (omega arith, h.long, h)

pub compile_action-requires : goal.compile_action-requires
compile_action-requires c = rw (c.action_count-m-end.ensures, c.record.view_is) at c.loop-m-test.true

pub loop-m-preserved : goal.loop-m-preserved
loop-m-preserved c = let a = c.args in let l = c.loop-m in
    let g = next_action a.record.now a.task.now l.task _ l.m l.invariant.2 c.compile_action.ensures in
    (omega (arith, c.loop-m-test.true), g.long, g)

pub returns : goal.returns
returns c = let l = c.loop-m in
    let e : l.m ≡ action_count c.args.record.now = omega (arith, l.invariant.0, c.loop-m-test.false, rw c.record.view_is at c.action_count-m-end.ensures) in
    rw e at l.invariant.2
