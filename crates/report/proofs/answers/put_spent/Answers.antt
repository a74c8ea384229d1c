-- `report::answers::put_spent` meets its contract. Assumes nothing.
use Rattle.reader.specs.Bytes.{bytes}
use Rattle.report.specs.Report.{spent_lines}
use Rattle.report.proofs.Stored.{puts_then}
use Rattle.report.proofs.answers.put_spent.Goals as goal

pub returns-clause-written : goal.returns-clause-written
unfolding spent_lines bytes
returns-clause-written c = puts_then c.put_line.ensures.written (puts_then c.put_number_line.ensures.written c.put_number_line-2.ensures.written)
