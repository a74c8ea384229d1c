-- `packed_task::applying::enter` meets its contract. The loop's invariant: digits below v are entered. Assumes nothing.
use Rattle.std.proofs.Common.{◌≡◌, ℕ, ◌≤◌, min, refl, arith}
use Rattle.packed_task.proofs.SetsFilled.{entering_starts, entering_goes_on, entering_ends}
use Rattle.packed_task.proofs.applying.enter.Goals as goal

few_small : (n few : ℕ) → few ≡ min n 16 → few ≤ 16
few_small n few e = omega arith

pub loop-v-init : goal.loop-v-init
loop-v-init c = let a = c.args in (c.min-few.ensures, omega arith, entering_starts a.slots.now a.need a.value a.bit (omega arith))

pub bounds-slots-at : goal.bounds-slots-at
bounds-slots-at c = let e = c.loop-v.invariant.2.long in let k = few_small _ _ c.loop-v.invariant.0 in omega (arith, c.lowest_need.ensures.1, e, k, c.loop-v-test.true)

pub bounds-slots-at-in-loop-v : goal.bounds-slots-at-in-loop-v
bounds-slots-at-in-loop-v c = let e = c.loop-v.invariant.2.long in let k = few_small _ _ c.loop-v.invariant.0 in omega (arith, c.lowest_need.ensures.1, e, k, c.loop-v-test.true)

pub loop-v-preserved : goal.loop-v-preserved
loop-v-preserved c = let l = c.loop-v in let k = few_small _ _ l.invariant.0 in
    (l.invariant.0, omega arith, entering_goes_on l.invariant.2 (omega (arith, k, c.loop-v-test.true)) c.lowest_need.result c.lowest_need.ensures.0 c.lowest_need.ensures.1 _ refl)

pub returns : goal.returns
returns c = let i = c.loop-v.invariant in let e : c.loop-v.v ≡ min c.args.digits 16 = omega (arith, i.0, i.1, c.loop-v-test.false) in entering_ends (min c.args.digits 16) i.2 e
