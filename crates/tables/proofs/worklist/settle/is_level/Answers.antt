-- `tables::worklist::settle::is_level` meets its contract. Assumes nothing.
use Rattle.std.proofs.Common.{◌≡◌, get_or, sym, ◌∙◌, arith, leb-true, rules}
use Rattle.task_record.proofs.Tests.{false_true}
use Rattle.tables.proofs.Starting.{seen_none, seen_next, seen_level}
use Rattle.tables.proofs.worklist.settle.is_level.Goals as goal
use Rattle.tables.proofs.worklist.settle.is_level.Goals.{then-marks-i, else-marks-i}

pub loop-i-init : goal.loop-i-init
loop-i-init c = rw c.from-least.ensures (seen_none _ _)

pub loop-i-preserved : goal.loop-i-preserved
loop-i-preserved c = let v = c.loop-i.invariant in let e : c.from-e.result ≡ get_or c.args.entries.now c.loop-i.i 0 = search rules in
    elim c.if-marks-i.branch [
      | then-marks-i w ↦ rw w.least-is (seen_next v (omega arith) (omega (arith, e)) (omega (arith, v.small)) (omega arith) (λ u. omega (arith, e)))
      | else-marks-i w ↦ rw w.least-is (seen_next v (omega arith) (omega (arith, e)) (omega (arith, v.small)) (omega arith) (λ u. false_true (sym w.if-marks-i.false ∙ u)))
    ]

pub overflow_add-result : goal.overflow_add-result
overflow_add-result c = omega (arith, c.loop-i.invariant.few)

pub returns : goal.returns
returns c = λ e. seen_level c.loop-i.invariant c.loop-i-test.false (let l = leb-true _ _ e in omega (arith, l, c.from.ensures))
