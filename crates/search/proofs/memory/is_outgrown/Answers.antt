-- `search::memory::is_outgrown` meets its contract. Assumes nothing.
use Rattle.std.proofs.Common.{sym, true≢false}
use Rattle.search.proofs.memory.is_outgrown.Goals as goal

pub returns-then-most-c : goal.returns-then-most-c
returns-then-most-c c = λ e. c.if-most-c.true

pub returns : goal.returns
returns c = λ e. absurd (true≢false (sym e))
