-- `report::lines::Lines::put_number_line` meets its contract: the key, the digits, then byte 10. Assumes nothing.
use native.Mathlib.Omega.{arith}
use Rattle.report.specs.Lines.{line, number_line}
use Rattle.report.proofs.Decimals.{word_length}
use Rattle.report.proofs.Stored.{puts_then}
use Rattle.report.proofs.lines.Lines.put_number_line.Goals as goal

pub put_byte-requires : goal.put_byte-requires
put_byte-requires c = omega (arith, c.put_word.ensures.written.ends, c.put_decimal.ensures.written.ends, word_length c.args.n (omega arith))

pub returns-clause-written : goal.returns-clause-written
unfolding line number_line
returns-clause-written c = puts_then c.put_word.ensures (puts_then c.put_decimal.ensures c.put_byte.ensures)

pub returns-clause-short : goal.returns-clause-short
returns-clause-short c = omega (arith, c.put_word.ensures.written.ends, c.put_decimal.ensures.written.ends, c.put_byte.ensures.written.ends, word_length c.args.n (omega arith))
