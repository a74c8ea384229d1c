-- `cells_at`: each cell is the record's. Assumes nothing.
use Rattle.std.proofs.Common.{◌≡◌, ◌+◌, sym, ◌∙◌, get_or, ext_get_or, rules, arith}
use Rattle.task_record.specs.TaskOf.{cells_at}
use Rattle.task_record.proofs.SoundTask.{cell_of_part, length_of_part}
use Rattle.plan_check.proofs.cells.cells_at.Goals as goal

pub returns : goal.returns
returns c =
    let r = c.args.rec.now in
    let at = c.args.at in
    let made = c.from_fn.ensures.items in
    ext_get_or 0 c.from_fn.result (cells_at r at) (made.long ∙ sym (length_of_part r 16 at c.requires))
    (λ k h.
    let ran = (made.at k 0 (omega (arith, made.long))).2 in
    let same : get_or c.from_fn.result k 0 ≡ get_or r (at + k) 0 = search rules in
    same ∙ sym (cell_of_part r 16 at k (omega (arith, made.long))))
