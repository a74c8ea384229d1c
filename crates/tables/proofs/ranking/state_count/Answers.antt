-- `tables::ranking::state_count` meets its contract. Assumes nothing.
use Rattle.std.proofs.Common.{◌≡◌, length, arith, rules}
use Rattle.tables.proofs.Spacing.{weighed_start, weighed_step, weighed_end, weighed_small}
use Rattle.tables.proofs.ranking.state_count.Goals as goal

pub loop-v-init : goal.loop-v-init
loop-v-init c = let h : length c.args.sizes ≡ 16 = search rules in weighed_start c.args.sizes c.args.pattern c.args.n h

pub bounds-pattern-v : goal.bounds-pattern-v
bounds-pattern-v c = let s = c.requires.variables_few in omega arith

pub bounds-sizes-v : goal.bounds-sizes-v
bounds-sizes-v c = let s = c.requires.variables_few in omega arith

pub next_weight-w-requires : goal.next_weight-w-requires
next_weight-w-requires c = let a = c.args in let l = c.loop-v in weighed_small a.sizes a.pattern a.n l.w l.v c.requires l.invariant

pub loop-v-preserved : goal.loop-v-preserved
loop-v-preserved c = let a = c.args in let l = c.loop-v in
    rw c.next_weight-w.ensures (weighed_step a.sizes a.pattern a.n l.w l.v c.requires c.loop-v-test.true l.invariant)

pub returns : goal.returns
returns c = let a = c.args in let l = c.loop-v in weighed_end a.sizes a.pattern a.n l.w l.v c.loop-v-test.false l.invariant
