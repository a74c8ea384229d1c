-- `report::answers::put_refusal` meets its contract. Assumes nothing.
use Rattle.reader.specs.Bytes.{bytes}
use Rattle.report.specs.Report.{refusal_lines}
use Rattle.report.proofs.Stored.{puts_then}
use Rattle.report.proofs.answers.put_refusal.Goals as goal

pub returns-clause-written : goal.returns-clause-written
unfolding refusal_lines bytes
returns-clause-written c = puts_then c.put_number_line.ensures.written c.put_number_line-2.ensures.written
