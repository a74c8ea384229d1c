-- `budget`: four cells, each as it stands. Assumes nothing.
use Rattle.std.proofs.Common.{arith}
use Rattle.task_record.specs.Numbers.{budget_of}
use Rattle.task_record.proofs.cells.budget.Goals as goal

pub returns : goal.returns
unfolding budget_of
returns c = let a = c.cell.ensures in let b = c.cell-2.ensures in let d = c.cell-3.ensures in let e = c.cell-4.ensures in omega (arith, c.from_le_bytes.ensures)
