-- `tables::ranking::extend` meets its contract. Assumes nothing.
use Rattle.std.proofs.Common.{refl, arith, length-set}
use Rattle.tables.proofs.Spacing.{extended_start, extended_step, extended_end}
use Rattle.tables.proofs.ranking.extend.Goals as goal

pub loop-k-init : goal.loop-k-init
loop-k-init c = let a = c.args in (omega arith, (λ b. b), refl, extended_start a.states.now a.w a.place)

pub loop-k-preserved : goal.loop-k-preserved
loop-k-preserved c = let a = c.args in let l = c.loop-k in let p = c.requires in let t = c.loop-k-test.true in
    (omega arith, (λ b. omega arith), simp length-set l.invariant.2, extended_step a.states.now l.states a.w l.k a.place _ p.0 l.invariant.0 (omega (arith, l.invariant.2, p.1)) refl l.invariant.3)

pub returns : goal.returns
returns c = let a = c.args in let l = c.loop-k in extended_end a.states.now l.states a.w l.k a.end a.place l.invariant.1 c.loop-k-test.false l.invariant.3
