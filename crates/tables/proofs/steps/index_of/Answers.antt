-- `tables::steps::index_of` meets its contract. Assumes nothing.
use Rattle.std.proofs.Common.{◌≡◌, ◌+◌, ◌*◌, ◌<◌, drop, sym, ◌∙◌, arith}
use Rattle.tables.proofs.Stepping.{weigh-zero, weigh_four, digits_left, digits-over}
use Rattle.tables.proofs.steps.index_of.Goals as goal

pub loop-g-init : goal.loop-g-init
loop-g-init c = let f : c.args.s < 18446744073709551616 = omega arith in (omega arith, omega arith, omega arith, f)

pub returns-then-rest-eq0 : goal.returns-then-rest-eq0
returns-then-rest-eq0 c = let l = c.loop-g in let e : l.rest ≡ 0 = omega arith in let z = weigh-zero (drop (4 * l.g) c.args.weights.now) in
    let g = rw e at l.invariant.2 in sym (g ∙ omega arith)

pub loop-g-preserved : goal.loop-g-preserved
loop-g-preserved c = let l = c.loop-g in let e = c.four_digits-sum.ensures in let n : 4 * (l.g + 1) ≡ 4 * l.g + 4 = omega arith in
    let s = weigh_four c.args.weights.now (4 * l.g) l.rest in
    (omega arith, omega arith, rw n (l.invariant.2 ∙ omega arith), digits_left l.g l.rest c.loop-g-test.true l.invariant.3)

pub returns : goal.returns
returns c = let l = c.loop-g in let e = digits-over l.g l.rest c.loop-g-test.false l.invariant.3 in
    let z = weigh-zero (drop (4 * l.g) c.args.weights.now) in let g = rw e at l.invariant.2 in sym (g ∙ omega arith)
