-- `copy_cells`: the cells of the one are those of the other. Assumes nothing.
use Rattle.std.proofs.Common.{sym, arith, length-set, ext_get_or, get_or, refl}
use Rattle.task_record.proofs.Sixteens.{filled_next}
use Rattle.stored.proofs.upgrade.copy_cells.Goals as goal

pub loop-i-init : goal.loop-i-init
loop-i-init c = (sym c.requires, λ k h. absurd (omega arith))

pub loop-i-preserved : goal.loop-i-preserved
loop-i-preserved c =
    let l = c.loop-i in
    let n = l.invariant in (
      simp length-set n.0,
      filled_next (λ k. get_or c.args.cells.now k 0) l.target l.i (get_or c.args.cells.now l.i 0) (omega arith) refl n.1,
    )

pub returns : goal.returns
returns c =
    let n = c.loop-i.invariant in
    ext_get_or 0 c.loop-i.target c.args.cells.now n.0 (λ k h. n.1 k (omega arith))
