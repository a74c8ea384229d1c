-- `budget`: four cells, each as it stands. Assumes nothing.
use Rattle.std.proofs.Common.{arith}
use Rattle.stored.specs.FirstLayout.{first_budget}
use Rattle.stored.proofs.first_cells.budget.Goals as goal

pub returns : goal.returns
unfolding first_budget
returns c = let a = c.cell.ensures in let b = c.cell-2.ensures in let d = c.cell-3.ensures in let e = c.cell-4.ensures in omega (arith, c.from_le_bytes.ensures)
