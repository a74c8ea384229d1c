-- `report::answers::put_count` meets its contract. Assumes nothing.
use Rattle.reader.specs.Bytes.{bytes}
use Rattle.report.proofs.Stored.{puts_then}
use Rattle.report.proofs.answers.put_count.Goals as goal

pub returns-clause-written : goal.returns-clause-written
unfolding bytes
returns-clause-written c = puts_then c.put_line.ensures.written c.put_number_line.ensures.written
