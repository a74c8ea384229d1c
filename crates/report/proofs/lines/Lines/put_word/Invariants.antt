-- `put_word`: the first bytes of the word are written. Assumes nothing.
use lib.ListN.{take}
use Rattle.report.specs.Writing.{Puts}
use Rattle.report.proofs.lines.Lines.put_word.Given as goal

abbrev pub invariant-loop-b : goal.invariant-loop-b
invariant-loop-b l = Puts (take l.b-index l.word) l.initial.self l.self
