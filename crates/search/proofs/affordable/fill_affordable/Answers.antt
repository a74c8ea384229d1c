-- `search::affordable::fill_affordable` meets its contract. Invariants: actions below m are entered in the sets of their weights (`Entering`), and
-- sets below d hold all that weighs no more (`Joining`). Assumes nothing.
use Rattle.std.proofs.Common.{refl, arith}
use Rattle.search.proofs.Affording.{entering_starts, entering_next, joining_starts, joining_next, joining_ends}
use Rattle.search.proofs.affordable.fill_affordable.Goals as goal

pub loop-m-init : goal.loop-m-init
loop-m-init c = let a = c.args in (omega arith, entering_starts a.task.now a.sets.now (omega arith) c.requires.2)

pub loop-m-preserved : goal.loop-m-preserved
loop-m-preserved c = let l = c.loop-m in let p = c.requires in let t = c.loop-m-test.true in
    (omega arith, entering_next l.invariant.1 (omega (arith, p.0, t)) c.weight-w.result c.weight-w.ensures (omega (arith, c.weight-w.ensures, p.1 l.m t)) _ refl)

pub loop-d-init : goal.loop-d-init
loop-d-init c = let i = c.loop-m.invariant in joining_starts c.args.actions i.1 (omega (arith, i.0, c.loop-m-test.false))

pub loop-d-preserved : goal.loop-d-preserved
loop-d-preserved c = joining_next c.loop-d.invariant c.loop-d-test.true _ refl

pub returns : goal.returns
returns c = joining_ends c.loop-d.invariant c.loop-d-test.false
