-- `filled_up`: each cell is the slice's, or 255 where it has none. Assumes nothing.
use Rattle.std.proofs.Common.{rules}
use Rattle.task_record.proofs.Cellwise.{state_cells_lem}
use Rattle.task_record.proofs.cells.filled_up.Goals as goal

pub returns : goal.returns
returns c = let made = c.from_fn.ensures.items in
    state_cells_lem c.args.c.now c.from_fn.result made.long (λ k h. let ran = (made.at k 0 h).2 in search rules)
