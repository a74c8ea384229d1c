-- `report::answers::put_value` meets its contract: a line for a number, one for infinite, and no case is left. Assumes nothing.
use mathlib.Core.Path.{sym, ◌∙◌}
use Rattle.reader.specs.Bytes.{bytes}
use Rattle.report.proofs.Reports.{finite_line, infinite_line, value_not_refused}
use Rattle.report.proofs.answers.put_value.Goals as goal

pub returns-in-Ok-Some-clause-written : goal.returns-in-Ok-Some-clause-written
unfolding bytes
returns-in-Ok-Some-clause-written c = λ v e. rw (finite_line v _ c.in-Ok-Some.field-0 (rw c.in-Ok-Some.is at c.in-Ok-Some.field-0-is) (sym c.in-Ok-Some.is ∙ e)) c.put_number_line.ensures.written

pub returns-in-Ok-None-clause-written : goal.returns-in-Ok-None-clause-written
unfolding bytes
returns-in-Ok-None-clause-written c = λ v e. rw (infinite_line v c.in-Ok-None.field-0 (rw c.in-Ok-None.is at c.in-Ok-None.field-0-is) (sym c.in-Ok-None.is ∙ e)) c.put_line.ensures.written

pub returns-in-Err-clause-written : goal.returns-in-Err-clause-written
returns-in-Err-clause-written c = λ v e. value_not_refused v _ (sym c.in-Err.is ∙ e)
