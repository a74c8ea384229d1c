-- `index_of_few` meets its contract. Assumes nothing.
use Rattle.std.proofs.Common.{◌/◌, ◌%◌, ◌<◌, sym, ap, ◌∙◌, arith}
use lib.Count.{count_trailing_zeros}
use Rattle.tables.specs.Steps.{weigh}
use Rattle.tables.proofs.Digits.{place_word, weigh_less}
use Rattle.tables.proofs.Asking.{weigh_few}
use Rattle.tables.proofs.Stepping.{weigh-zero}
use Rattle.tables.proofs.worklist.index.index_of_few.Goals as goal

pub loop-rest-init : goal.loop-rest-init
loop-rest-init c = omega arith

pub overflow_add-result : goal.overflow_add-result
overflow_add-result c = let b = weigh_few c.args.weights.now c.args.s c.fits-weights in record { fits = omega (arith, b, c.told-weights, c.index_of.ensures, c.loop-rest.invariant) }

pub returns-then-digit-eq0 : goal.returns-then-digit-eq0
returns-then-digit-eq0 c = rw c.index_of.ensures (sym c.loop-rest.invariant)

pub overflow_add-sum : goal.overflow_add-sum
overflow_add-sum c = let b = weigh_few c.args.weights.now c.args.s c.fits-weights in let t = c.times-sum.ensures in record { fits = omega (arith, b, c.told-weights, t.1, c.loop-rest.invariant) }

pub loop-rest-preserved : goal.loop-rest-preserved
loop-rest-preserved c = let u = count_trailing_zeros 64 c.loop-rest.rest / 4 % 16 in let l : u < 16 = omega arith in let t = rw (place_word u l) at c.times-sum.ensures in
    let w = weigh_less c.args.weights.now u c.loop-rest.rest in rw (place_word u l) (c.loop-rest.invariant ∙ omega (arith, w, t.0))

pub returns : goal.returns
returns c = let e = weigh-zero c.args.weights.now in sym (c.loop-rest.invariant ∙ omega (arith, e, ap (weigh c.args.weights.now) c.loop-rest-test.false))
