-- `costs_fit`: each cost is right. Assumes nothing.
use Rattle.std.proofs.Common.{◌≡◌, ℕ, ltb, get_or, arith, eqb-true}
use Rattle.task_record.specs.Layout.{at_cost}
use Rattle.task_record.proofs.ColumnLaws.{faults_next, costs_pass}
use Rattle.task_record.proofs.columns.costs_fit.Goals as goal

pub loop-m-init : goal.loop-m-init
loop-m-init c = (omega arith, λ h k l. absurd (omega arith))

pub loop-m-preserved : goal.loop-m-preserved
loop-m-preserved c =
    let l = c.loop-m in (
      omega (arith, c.loop-m-test.true),
      faults_next (λ (k : ℕ). ltb 0 (get_or c.args.record.now.cells.now (at_cost k) 0) ≡ ltb k c.action_count-used.result) l.m l.bad c.cost_fault-bad.result
          (rw c.from.ensures at c.cost_fault-bad.ensures) l.invariant.1,
    )

pub returns : goal.returns
returns c =
    let r = c.args.record.now in let t = c.loop-m-test.false in
    λ h. costs_pass r.cells.now r.byte (λ k l. rw c.action_count-used.ensures at (c.loop-m.invariant.1 (eqb-true _ _ h) k (omega (arith, t))))
