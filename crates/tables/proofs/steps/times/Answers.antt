-- `tables::steps::times` meets its contract. Assumes nothing.
use Rattle.std.proofs.Common.{◌*◌, ◌≤◌, ap, mul-le-mul, arith}
use Rattle.tables.proofs.steps.times.Goals as goal

pub overflow_mul-result : goal.overflow_mul-result
overflow_mul-result c = let x : c.args.x ≤ 15 = omega (arith, c.requires) in let y : c.from.result ≤ 65535 = omega (arith, c.from.ensures, c.ranges.w.fits) in let p = mul-le-mul x y in record { fits = omega arith }

pub returns : goal.returns
returns c = let x : c.args.x ≤ 15 = omega (arith, c.requires) in let y : c.from.result ≤ 65535 = omega (arith, c.from.ensures, c.ranges.w.fits) in let p = mul-le-mul x y in
    (ap (λ z. c.args.x * z) c.from.ensures, omega arith)
