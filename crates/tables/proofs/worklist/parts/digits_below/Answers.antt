-- `tables::worklist::parts::digits_below` meets its contract. Assumes nothing.
use Rattle.std.proofs.Common.{◌%◌, ◌^◌, ◌<◌, ◌≤◌, sym, ap, mod-eq_of_lt, arith}
use native.Mathlib.Nat.{pow-le-pow_right}
use Rattle.tables.proofs.worklist.parts.digits_below.Goals as goal

pub returns-then-v-ge16 : goal.returns-then-v-ge16
returns-then-v-ge16 c = let a = c.args in let f = pow-le-pow_right {n = 16} (omega arith) c.if-v-ge16.true in let l : a.mask < 16 ^ a.v = omega (arith, f, c.ranges.mask) in sym (mod-eq_of_lt l)

pub pow-requires : goal.pow-requires
pow-requires c = let b : c.args.v ≤ 15 = omega (arith, c.if-v-ge16.false) in let f = pow-le-pow_right {n = 16} (omega arith) b in omega (arith, f)

pub nonzero_rem-result : goal.nonzero_rem-result
nonzero_rem-result c = let z : 0 ≤ c.args.v = omega arith in let f = pow-le-pow_right {n = 16} (omega arith) z in omega (arith, c.pow.ensures, f)

pub returns : goal.returns
returns c = ap (λ y. c.args.mask % y) c.pow.ensures
