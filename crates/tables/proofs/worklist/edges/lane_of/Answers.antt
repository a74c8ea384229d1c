-- `lane_of`: a digit that is free, or none. Assumes nothing.
use Rattle.std.proofs.Common.{◌≡◌, ◌+◌, ◌-◌, ◌*◌, ◌/◌, ◌%◌, ◌<◌, get_or, refl, ap, ap₂, arith, rules}
use lib.Count.{count_trailing_zeros, trailing_le}
use Rattle.tables.specs.Made.{one, none}
use Rattle.tables.proofs.Digits.{place_small, place_word, digit-least}
use Rattle.tables.proofs.worklist.edges.lane_of.Goals as goal

pub overflow_cast-u : goal.overflow_cast-u
overflow_cast-u c = record { fits = omega (arith, trailing_le 64 c.args.free) }

pub nonzero_div-free : goal.nonzero_div-free
nonzero_div-free c = let u = count_trailing_zeros 64 c.args.free / 4 % 16 in let l : u < 16 = omega arith in rw (place_word u l) (omega (arith, (place_small u l).1))

pub returns-then-free-place-ne15 : goal.returns-then-free-place-ne15
returns-then-free-place-ne15 c = (none refl refl, omega arith)

pub overflow_mul-result : goal.overflow_mul-result
overflow_mul-result c = let u = count_trailing_zeros 64 c.args.free / 4 % 16 in let l : u < 16 = omega arith in record { fits = rw (place_word u l) (omega (arith, (place_small u l).0)) }

pub overflow_sub-result : goal.overflow_sub-result
overflow_sub-result c = let u = count_trailing_zeros 64 c.args.free / 4 % 16 in let l : u < 16 = omega arith in rw (place_word u l) (digit-least u c.args.free (rw (place_word u l) at c.if-free-place-ne15.false))

pub returns : goal.returns
returns c = let a = c.args in let u = count_trailing_zeros 64 a.free / 4 % 16 in let l : u < 16 = omega arith in let w : c.from.result ≡ get_or a.weights.now u 0 = search rules in let z : c.from-2.result ≡ get_or a.sizes u 0 = search rules in let x : c.from.result < 65536 = search rules in let y : c.from-2.result < 256 = search rules in (
  one u (record {
    near = l;
    free_there = rw (place_word u l) at c.if-free-place-ne15.false;
    light = omega (arith, w, x);
    small = omega (arith, z, y);
    is = ap₂ (λ m n. m + 65536 * (4 * u) + 16777216 * n) w z;
    others = ap (λ y. a.free - 15 * y) (place_word u l);
  }),
  omega (arith, x, y, l),
)
