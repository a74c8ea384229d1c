-- `reader::grammar::put_budget` meets its contract: its four stores are those of the four bytes. Assumes nothing.
use Rattle.reader.specs.Grammar.{budget_bytes}
use Rattle.reader.proofs.grammar.put_budget.Goals as goal

pub returns : goal.returns
unfolding budget_bytes
returns c = rw (← c.put.ensures, ← c.put-2.ensures, ← c.put-3.ensures, ← c.put-4.ensures)
