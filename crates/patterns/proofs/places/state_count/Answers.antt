-- `state_count`: the running weight times the number of abstract states of the variables left is the whole number. Assumes nothing.
use Prim.Native.Nat.{◌≤◌}
use native.Mathlib.Nat.{mul-le-mul}
use native.Mathlib.Omega.{arith}
use borrow.Author.Tests.{ne_eqb}
use Rattle.patterns.proofs.Weights.{counting_in, counting_out, counting_done, counting_below}
use Rattle.patterns.proofs.places.state_count.Goals.{then-pattern-v-eq1+else-weight-gt4096, else-pattern-v-eq1}
use Rattle.patterns.proofs.places.state_count.Goals as goal

pub overflow_mul-weight : goal.overflow_mul-weight
overflow_mul-weight c = let b : c.from-weight.result ≤ 255 = omega (arith, c.from-weight.ensures, c.type_inv.sizes c.loop-v.v) in let p = mul-le-mul c.loop-v.invariant.1 b in omega arith

pub returns-then-weight-gt4096 : goal.returns-then-weight-gt4096
returns-then-weight-gt4096 c = let l = c.loop-v in
    let t = c.loop-v-test.true in
    let k = counting_in c.args.sizes.now c.args.pattern.now c.requires.1 l.weight l.v l.invariant.0 t c.if-pattern-v-eq1.true in
    let b = counting_below c.args.sizes.now c.args.pattern.now c.requires.1 _ _ k c.requires.0 in
    let g = rw (← c.from-weight.ensures) at b in omega (arith, c.if-weight-gt4096.true)

pub loop-v-preserved : goal.loop-v-preserved
loop-v-preserved c = let l = c.loop-v in let t = c.loop-v-test.true in
    elim c.if-pattern-v-eq1.branch [
      | then-pattern-v-eq1+else-weight-gt4096 w ↦ rw (w.weight-is, w.from-weight.ensures)
          (counting_in c.args.sizes.now c.args.pattern.now c.requires.1 l.weight l.v l.invariant.0 t w.if-pattern-v-eq1.true, rw w.from-weight.ensures at w.if-weight-gt4096.false)
      | else-pattern-v-eq1 w ↦ rw w.weight-is (counting_out c.args.sizes.now c.args.pattern.now c.requires.1 l.weight l.v l.invariant.0 t (ne_eqb _ _ w.if-pattern-v-eq1.false), l.invariant.1)
    ]

pub returns : goal.returns
returns c = let l = c.loop-v in
    let k = counting_done c.args.sizes.now c.args.pattern.now c.requires.1 l.weight l.v l.invariant.0 c.loop-v-test.false in omega arith
