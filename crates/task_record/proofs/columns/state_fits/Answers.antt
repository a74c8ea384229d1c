-- `state_fits`: a test that answered 0 found a cell that fits. Assumes nothing.
use Rattle.std.proofs.Common.{rules}
use Rattle.task_record.proofs.columns.state_fits.Goals as goal

pub returns : goal.returns
returns c = λ h v l. let said = c.faultless.ensures h v l in search rules
