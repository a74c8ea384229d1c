-- `tables::steps::may_idle` meets its contract. Assumes nothing.
use Rattle.std.proofs.Common.{arith}
use Rattle.tables.proofs.Stepping.{idling_start, idling_hit, idling_miss, idling_end}
use Rattle.tables.proofs.steps.may_idle.Goals as goal

pub loop-o-init : goal.loop-o-init
loop-o-init c = let a = c.args in let e = c.outcome_count-n.ensures in (e, omega arith, rw e (idling_start a.task.now a.mask a.m.number))

pub returns-then-kept-mask : goal.returns-then-kept-mask
returns-then-kept-mask c = let a = c.args in let l = c.loop-o in
    idling_hit a.task.now a.mask a.m.number c.outcome_count-n.result l.o c.loop-o-test.true (rw c.kept.ensures at c.if-kept-mask.true) l.invariant.2

pub loop-o-preserved : goal.loop-o-preserved
loop-o-preserved c = let a = c.args in let l = c.loop-o in
    (l.invariant.0, omega arith, idling_miss a.task.now a.mask a.m.number c.outcome_count-n.result l.o c.loop-o-test.true (rw c.kept.ensures at c.if-kept-mask.false) l.invariant.2)

pub returns : goal.returns
returns c = let a = c.args in let l = c.loop-o in idling_end a.task.now a.mask a.m.number c.outcome_count-n.result l.o c.loop-o-test.false l.invariant.2
