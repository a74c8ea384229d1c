-- `search::memory::result_word` meets its contract. Assumes nothing.
use Rattle.std.proofs.Common.{arith}
use Rattle.search.specs.Memory.{result_word}
use Rattle.search.proofs.memory.result_word.Goals as goal

pub returns : goal.returns
unfolding result_word
returns c = omega (arith, c.from.ensures, c.from-2.ensures, c.from-3.ensures, c.from-4.ensures)
