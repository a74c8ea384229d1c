-- `used_fits`: an action whose columns are right is passed whole. Assumes nothing.
use Rattle.std.proofs.Common.{rules}
use Rattle.task_record.proofs.ColumnLaws.{action_told}
use Rattle.task_record.proofs.columns.used_fits.Goals as goal

pub rows_fit-requires : goal.rows_fit-requires
rows_fit-requires c =
    let l = c.args.record.now.passed.long in search rules

pub returns : goal.returns
returns c =
    let pre = c.requires in
    let args = c.args in
    let rows_fit = c.rows_fit in
    λ t. let f = rw c.at_action-a.ensures at (rows_fit.ensures t) in
    action_told args.record.now.rec.now args.record.now.sizes args.record.now.passed.byte args.record.now.passed args.m pre.1 pre.0 f.0 f.1 f.2
