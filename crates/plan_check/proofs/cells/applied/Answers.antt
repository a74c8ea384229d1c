-- `applied`: the cell that is written is changed, and the others stay. Assumes nothing.
use Rattle.std.proofs.Common.{◌≡◌, sym, ◌∙◌, arith, rules, length-set, ext_get_or, get_or-set_other, refl}
use Rattle.planning.specs.Task.{apply}
use Rattle.task_record.proofs.Sixteens.{filled_next, any_default}
use Rattle.task_record.proofs.Cellwise.{changed, apply-length, apply_cell_lem}
use Rattle.plan_check.proofs.cells.applied.Goals as goal

pub loop-i-init : goal.loop-i-init
loop-i-init c = (search rules, search rules, search rules, λ k h. absurd (omega arith), λ k h. refl)

pub loop-i-preserved : goal.loop-i-preserved
loop-i-preserved c =
    let l = c.loop-i in
    let n = l.invariant in
    let here : c.choose.result ≡ changed c.args.cells c.args.state l.i =
    c.choose.ensures ∙ rw (n.4 l.i (omega arith), any_default c.args.cells l.i 0 255 (omega arith)) in (
      n.0,
      n.1,
      simp length-set n.2,
      filled_next (changed c.args.cells c.args.state) l.x-items l.i c.choose.result (omega arith) here n.3,
      λ k h. get_or-set_other l.x-items l.i k c.choose.result 0 (λ e. omega arith) ∙ n.4 k (omega arith),
    )

pub returns : goal.returns
returns c =
    let n = c.loop-i.invariant in
    let m = apply-length c.args.cells c.args.state in
    ext_get_or 0 c.loop-i.x-items (apply c.args.cells c.args.state) (omega arith)
    (λ k h. n.3 k (omega arith) ∙ sym (apply_cell_lem c.args.cells c.args.state k (omega arith)))
