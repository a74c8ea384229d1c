-- `place_of`: the index so far, and what the variables left add at the running weight, are the whole index. Assumes nothing.
use mathlib.Core.Path.{sym}
use Prim.Native.Nat.{◌≤◌}
use native.Mathlib.Nat.{mul-le-mul}
use native.Mathlib.Omega.{arith}
use borrow.Author.Tests.{ne_eqb}
use Rattle.patterns.proofs.Weights.{numbering_start, numbering_in, numbering_out, numbering_done, counting_done, counting_below}
use Rattle.patterns.proofs.places.place_of.Goals.{then-pattern-v-eq1, else-pattern-v-eq1}
use Rattle.patterns.proofs.places.place_of.Goals as goal

pub loop-v-init : goal.loop-v-init
loop-v-init c = (numbering_start _ _ _ c.requires.2 c.requires.3, omega arith)

pub overflow_mul-index : goal.overflow_mul-index
overflow_mul-index c = let b : c.from.result ≤ 255 = omega (arith, c.from.ensures, c.type_inv.state c.loop-v.v) in let p = mul-le-mul b c.loop-v.invariant.1 in omega arith

pub overflow_add-index : goal.overflow_add-index
overflow_add-index c = let b : c.from.result ≤ 255 = omega (arith, c.from.ensures, c.type_inv.state c.loop-v.v) in let l = c.loop-v in
    let p = mul-le-mul b l.invariant.1 in omega (arith, l.invariant.0.bounded, l.invariant.0.counting.passed, c.requires.1)

pub overflow_mul-states : goal.overflow_mul-states
overflow_mul-states c = let b : c.from-states.result ≤ 255 = omega (arith, c.from-states.ensures, c.type_inv.sizes c.loop-v.v) in let p = mul-le-mul c.loop-v.invariant.1 b in omega arith

pub loop-v-preserved : goal.loop-v-preserved
loop-v-preserved c = let l = c.loop-v in let t = c.loop-v-test.true in
    elim c.if-pattern-v-eq1.branch [
      | then-pattern-v-eq1 w ↦ let b : w.from.result ≤ 255 = omega (arith, w.from.ensures, c.type_inv.state l.v) in let p = rw w.from.ensures at (mul-le-mul b l.invariant.1) in
          let k = numbering_in c.args.sizes.now c.args.pattern.now c.args.state.now c.requires.2 c.requires.3 l.index l.states l.v l.invariant.0 t w.if-pattern-v-eq1.true (omega arith) in
          let m = counting_below c.args.sizes.now c.args.pattern.now c.requires.2 _ _ k.counting c.requires.0 in
          rw (w.index-is, w.states-is, w.from.ensures, w.from-states.ensures) (k, omega (arith, m, c.requires.4))
      | else-pattern-v-eq1 w ↦ rw (w.index-is, w.states-is) (numbering_out c.args.sizes.now c.args.pattern.now c.args.state.now c.requires.2 c.requires.3 l.index l.states l.v l.invariant.0 t (ne_eqb _ _ w.if-pattern-v-eq1.false), l.invariant.1)
    ]

pub returns : goal.returns
returns c = let l = c.loop-v in (
  sym (numbering_done c.args.sizes.now c.args.pattern.now c.args.state.now c.requires.2 c.requires.3 l.index l.states l.v l.invariant.0 c.loop-v-test.false),
  sym (counting_done c.args.sizes.now c.args.pattern.now c.requires.2 l.states l.v l.invariant.0.counting c.loop-v-test.false),
)
