-- `digits_skipped`: a word is a multiple of the power of 16 that its lowest ones stand above. Assumes nothing.
use Rattle.std.proofs.Common.{◌/◌, ◌%◌, arith}
use lib.Count.{count_trailing_zeros}
use Rattle.tables.proofs.Digits.{trailing_sixteens}
use Rattle.tables.proofs.worklist.visits.digits_skipped.Goals as goal

pub returns : goal.returns
returns c = let t = trailing_sixteens c.args.s (count_trailing_zeros 64 c.args.s / 4 % 16) (omega arith) in (omega arith, t.0, t.1)
