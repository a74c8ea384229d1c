-- `report::answers::put_start_value` meets its contract. Assumes nothing.
use mathlib.Core.Path.{◌∙◌}
use Rattle.report.proofs.answers.put_start_value.Goals as goal

pub returns-clause-written : goal.returns-clause-written
returns-clause-written c = λ v e. c.put_value.ensures.written v (rw c.start_cells.ensures at c.state_value.ensures.value ∙ e)
