-- `eight`: four cells and four. Assumes nothing.
use Rattle.std.proofs.Common.{arith}
use Rattle.packed_task.proofs.Squeezing.{eight_bytes}
use Rattle.packed_task.proofs.words.eight.Goals as goal

pub returns : goal.returns
returns c = let q = eight_bytes c.args.c.now c.args.at c.requires.0 in
    omega (arith, q, c.four.ensures.0, c.four-2.ensures.0)
