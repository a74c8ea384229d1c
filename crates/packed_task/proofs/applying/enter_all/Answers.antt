-- `packed_task::applying::enter_all` meets its contract. The loop's invariant: actions below m are entered. Assumes nothing.
use Rattle.std.proofs.Common.{◌≡◌, min, arith}
use Rattle.packed_task.specs.Sets.{action_need}
use Rattle.packed_task.proofs.SetsFilled.{slotting_starts, slotting_next, slotted, action_needs}
use Rattle.packed_task.proofs.applying.enter_all.Goals as goal

pub loop-m-init : goal.loop-m-init
loop-m-init c = let a = c.args in let p = c.requires in (omega arith, slotting_starts (action_need a.task.now a.mask) a.digits a.slots.now p.2)

pub loop-m-preserved : goal.loop-m-preserved
loop-m-preserved c = let l = c.loop-m in let e : min c.args.digits 16 ≡ c.args.digits = omega (arith, c.requires.1) in (
  omega arith,
  slotting_next (action_need c.args.task.now c.args.mask) c.args.digits (omega (arith, c.requires.0)) l.invariant.1 _ _ (action_needs c.args.task.now c.args.mask l.m) c.requires.1
      (rw (c.need.ensures, c.value.ensures, e) at c.enter.ensures),
)

pub returns : goal.returns
returns c = slotted c.args.actions c.loop-m.invariant.1 c.loop-m.invariant.0 c.loop-m-test.false
