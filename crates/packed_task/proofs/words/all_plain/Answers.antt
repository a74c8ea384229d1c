-- `all_plain`: the faults gathered so far are none exactly if the cells passed are plain. Assumes nothing.
use Rattle.std.proofs.Common.{◌≡◌, get_or, refl, ap, ◌∙◌, arith}
use Rattle.task_record.specs.Scan.{all_below}
use Rattle.task_record.proofs.Scanning.{gathered_next}
use Rattle.packed_task.specs.Squeezed.{plain_cell}
use Rattle.packed_task.proofs.words.all_plain.Goals as goal

pub loop-x-init : goal.loop-x-init
unfolding all_below
loop-x-init c = (omega arith, refl)

pub loop-x-preserved : goal.loop-x-preserved
loop-x-preserved c =
    let l = c.loop-x in
    let a = c.args in
    (omega arith, gathered_next (λ k. plain_cell (get_or a.cells.now k 0)) l.x-index l.bad c.strange-bad.result c.strange-bad.ensures l.invariant.1)

pub returns : goal.returns
returns c =
    let l = c.loop-x in
    let a = c.args in
    let e : l.x-index ≡ 16 = omega arith in
    l.invariant.1 ∙ ap (all_below (λ k. plain_cell (get_or a.cells.now k 0))) e
