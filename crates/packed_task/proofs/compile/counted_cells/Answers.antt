-- `counted_cells`: the cell that is written counts as it is to. Assumes nothing.
use Rattle.std.proofs.Common.{◌≡◌, sym, ◌∙◌, arith, rules, length-set, ext_get_or, get_or}
use Rattle.planning.specs.Pattern.{counted}
use Rattle.planning.proofs.Pattern.{length_counted, counted_at}
use Rattle.task_record.proofs.Sixteens.{filled_next, any_default}
use Rattle.packed_task.proofs.compile.counted_cells.Goals as goal

pub loop-v-init : goal.loop-v-init
loop-v-init c = (search rules, λ k h. absurd (omega arith))

pub loop-v-preserved : goal.loop-v-preserved
loop-v-preserved c =
    let l = c.loop-v in let n = l.invariant in let r = c.requires in
    let here : c.counted_cell.result ≡ get_or (counted c.args.need.now c.args.outcome.now) l.v 0 =
    c.counted_cell.ensures ∙ rw (any_default c.args.need.now l.v 0 255 (omega arith)) (sym (counted_at c.args.need.now c.args.outcome.now l.v 0 (omega arith))) in (
      simp length-set n.0,
      filled_next (λ k. get_or (counted c.args.need.now c.args.outcome.now) k 0) l.cell-items l.v c.counted_cell.result (omega arith) here n.1,
    )

pub returns : goal.returns
returns c =
    let n = c.loop-v.invariant in let m = length_counted c.args.need.now c.args.outcome.now in
    ext_get_or 0 c.loop-v.cell-items (counted c.args.need.now c.args.outcome.now) (omega (arith, c.requires.1, m)) (λ k h. n.1 k (omega arith))
