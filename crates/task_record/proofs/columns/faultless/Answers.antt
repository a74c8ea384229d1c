-- `faultless`: no fault was gathered only if each test so far answered 0. Assumes nothing.
use Rattle.std.proofs.Common.{ℕ, arith, eqb-true}
use Rattle.task_record.proofs.ColumnLaws.{faults_next}
use Rattle.task_record.proofs.columns.faultless.Goals as goal

pub loop-v-init : goal.loop-v-init
loop-v-init g c = (omega arith, λ h k l. absurd (omega arith))

pub loop-v-preserved : goal.loop-v-preserved
loop-v-preserved g c =
    let l = c.loop-v in
    (omega arith, faults_next (λ (k : ℕ). goal.F-post g c.args.fault k 0) l.v l.bad c.fault-bad.result (λ e. rw e at c.fault-bad.ensures) l.invariant.1)

pub returns : goal.returns
returns g c = let t = c.loop-v-test.false in
    λ h v w. c.loop-v.invariant.1 (eqb-true _ _ h) v (omega (arith, t))
