-- `reader::decimal::value_of` meets its contract: the digits and the value of the whole are those of the rest, after what was read. Seven digits
-- keep it below a power of ten. Assumes nothing.
use mathlib.Core.Bool.{false}
use mathlib.Core.Path.{◌∙◌, ◌≡◌, sym}
use native.Mathlib.Omega.{arith}
use Rattle.reader.specs.Text.{digits}
use Rattle.reader.proofs.Decimals.{digits_end, digits_step, ten_small, ten_step, value_end, value_step}
use Rattle.reader.proofs.decimal.value_of.Goals as goal

pub overflow_mul-v : goal.overflow_mul-v
overflow_mul-v c = omega (arith, ten_small c.loop-b.b-index (omega (arith, c.requires)))

pub overflow_add-v : goal.overflow_add-v
overflow_add-v c = omega (arith, ten_small c.loop-b.b-index (omega (arith, c.requires)))

pub returns-then-not-is_ascii_digit : goal.returns-then-not-is_ascii_digit
returns-then-not-is_ascii_digit c = let l = c.loop-b in let s = c.args.s.now in
    let e : digits s ≡ false = l.invariant.1 ∙ digits_step s l.b-index c.loop-b-test.true ∙ rw (sym c.is_ascii_digit.ensures.value ∙ c.if-not-is_ascii_digit.true) in rw e

pub loop-b-preserved : goal.loop-b-preserved
loop-b-preserved c = let l = c.loop-b in let s = c.args.s.now in
    (omega (arith, ten_step l.b-index, c.if-not-is_ascii_digit.ensures.cases.0, c.if-not-is_ascii_digit.ensures.cases.1), l.invariant.1 ∙ digits_step s l.b-index c.loop-b-test.true ∙ rw (sym c.is_ascii_digit.ensures.value ∙ c.if-not-is_ascii_digit.false), l.invariant.2 ∙ value_step s l.b-index l.v c.loop-b-test.true ∙ rw c.from.ensures)

pub returns : goal.returns
returns c = let l = c.loop-b in let s = c.args.s.now in
    rw (l.invariant.1 ∙ digits_end s l.b-index c.loop-b-test.false, l.invariant.2 ∙ value_end s l.b-index l.v c.loop-b-test.false)
