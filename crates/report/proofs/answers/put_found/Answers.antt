-- `report::answers::put_found` meets its contract. Assumes nothing.
use Rattle.reader.specs.Bytes.{bytes}
use Rattle.report.specs.Report.{found_lines}
use Rattle.report.proofs.Stored.{puts_then}
use Rattle.report.proofs.answers.put_found.Goals as goal

pub returns-clause-written : goal.returns-clause-written
unfolding found_lines bytes
returns-clause-written c = puts_then c.put_line.ensures.written (puts_then c.put_number_line.ensures.written (puts_then c.put_number_line-2.ensures.written c.put_plan_line.ensures.written))
