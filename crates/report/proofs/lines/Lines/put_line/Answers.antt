-- `report::lines::Lines::put_line` meets its contract: the word, then byte 10. Assumes nothing.
use Rattle.report.specs.Lines.{line}
use Rattle.report.proofs.Stored.{puts_then}
use Rattle.report.proofs.lines.Lines.put_line.Goals as goal

pub returns-clause-written : goal.returns-clause-written
unfolding line
returns-clause-written c = puts_then c.put_word.ensures c.put_byte.ensures
