-- `tables::worklist::visits::weigh_from` meets its contract. Assumes nothing.
use Rattle.std.proofs.Common.{◌+◌, ◌/◌, ◌^◌, drop, sym, ap, ◌∙◌, arith}
use Rattle.tables.specs.Steps.{weigh}
use Rattle.tables.proofs.Stepping.{weigh-zero, weigh_step}
use Rattle.tables.proofs.Digits.{place_is}
use Rattle.tables.proofs.Asking.{weigh-over, weigh_skip}
use Rattle.tables.proofs.worklist.visits.+weigh_from.Goals as goal

pub returns-then-s-eq0 : goal.returns-then-s-eq0
returns-then-s-eq0 t c = let a = c.args in let w = drop a.v a.weights.now in (sym (ap (weigh w) c.if-s-eq0.true ∙ weigh-zero w), omega arith)

pub returns-then-u-ge16 : goal.returns-then-u-ge16
returns-then-u-ge16 t c = let a = c.args in let k = c.digits_skipped-skipped.result in let d = c.digits_skipped-skipped.ensures in
    (sym (weigh_skip a.weights.now k a.v a.s d.1 d.2 ∙ weigh-over a.weights.now (a.v + k) (a.s / 16 ^ k) (omega (arith, c.requires.1, c.if-u-ge16.true))), omega arith)

pub returns : goal.returns
returns t c = let y = c.args in let a = c.times.ensures in let b = c.weigh_from.ensures in let k = c.digits_skipped-skipped.result in let d = c.digits_skipped-skipped.ensures in
    let f = rw (sym (place_is k)) at (weigh_skip y.weights.now k y.v y.s d.1 d.2) in let s = rw (sym (place_is k)) at (weigh_step y.weights.now (y.v + k) (y.s / 16 ^ k)) in (omega (arith, f, s, a.0, b.0), omega (arith, a.1, b.1, c.if-u-ge16.false))
