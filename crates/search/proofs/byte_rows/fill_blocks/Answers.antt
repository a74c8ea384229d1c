-- `search::byte_rows::fill_blocks` meets its contract. The loop's invariant: patterns below p have their blocks. Assumes nothing.
use Rattle.std.proofs.Common.{arith}
use Rattle.search.proofs.BlocksFilled.{placing_goes_on}
use Rattle.search.proofs.byte_rows.fill_blocks.Goals as goal

pub loop-p-preserved : goal.loop-p-preserved
loop-p-preserved c = (omega arith, placing_goes_on c.loop-p.invariant.1 c.place_pattern-span.ensures (omega (arith, c.requires)))
