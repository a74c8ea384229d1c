-- `state_of`: sixteen cells are their own. Assumes nothing.
use Rattle.std.proofs.Common.{◌∙◌}
use Rattle.task_record.proofs.Cellwise.{state_cells_whole}
use Rattle.task_record.proofs.cells.state_of.Goals as goal

pub returns-then-c-eq16 : goal.returns-then-c-eq16
returns-then-c-eq16 c =
    let args = c.args in
    let if1 = c.if-c-eq16 in
    let copied = c.copied in
    copied.ensures ∙ state_cells_whole args.c.now if1.true
