-- `value_fault`: the two bounds as their differences. Assumes nothing.
use Rattle.task_record.proofs.columns.value_fault.Goals as goal

pub returns : goal.returns
returns c = rw (← c.saturating_sub.ensures, ← c.saturating_sub-2.ensures) c.misfit.ensures
