-- `report::lines::Lines::put_plan_line` meets its contract: the key, the bytes parted by commas, then byte 10. Assumes nothing.
use Rattle.reader.specs.Bytes.{bytes}
use Rattle.report.specs.Lines.{line, plan_line}
use Rattle.report.proofs.Stored.{puts_then}
use Rattle.report.proofs.lines.Lines.put_plan_line.Goals as goal

pub returns-clause-written : goal.returns-clause-written
unfolding line plan_line bytes
returns-clause-written c = puts_then c.put_word.ensures (puts_then c.put_list.ensures.written c.put_byte.ensures)
