-- `search::estimate::index_of` meets its contract. The loop's invariant: the sum so far and what is left make the whole index. Assumes nothing.
use Rattle.std.proofs.Common.{◌≡◌, ◌≤◌, length, drop, sym, ◌∙◌, arith, rules, drop_of_length-le}
use Rattle.tables.specs.Steps.{weigh}
use Rattle.tables.proofs.Stepping.{weigh-zero, weigh_step}
use Rattle.search.proofs.estimate.index_of.Goals as goal

pub returns-then-rest-eq0 : goal.returns-then-rest-eq0
returns-then-rest-eq0 c = let l = c.loop-w in let z = weigh-zero (drop l.w-index c.args.weights.now) in
    let g = rw c.if-rest-eq0.true at l.invariant.0 in (sym (g ∙ omega (arith, z)), omega arith)

pub loop-w-preserved : goal.loop-w-preserved
loop-w-preserved c = let l = c.loop-w in let s = weigh_step c.args.weights.now l.w-index l.rest in
    (l.invariant.0 ∙ omega (arith, s, c.times-i.ensures.0), omega (arith, c.times-i.ensures.1))

pub returns : goal.returns
unfolding weigh
returns c = let l = c.loop-w in let n : length c.args.weights.now ≡ 16 = search rules in let m : length c.args.weights.now ≤ l.w-index = omega (arith, n, c.loop-w-test.false) in
    let g = rw (drop_of_length-le c.args.weights.now m) at l.invariant.0 in (sym (g ∙ omega arith), omega arith)
