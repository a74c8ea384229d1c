-- `tables::worklist::parts::lower_variables` meets its contract. The loop's invariant: w is the number of states of the variables below v, at most 64. Assumes nothing.
use Rattle.std.proofs.Common.{◌≡◌, length, arith, rules}
use Rattle.tables.proofs.Spacing.{weighed_start, weighed_step}
use Rattle.tables.proofs.Parting.{lower_stops, lower_whole}
use Rattle.tables.proofs.worklist.parts.lower_variables.Goals as goal

pub loop-v-init : goal.loop-v-init
loop-v-init c = let p = c.pattern.inside in let h : length p.sizes ≡ 16 = search rules in rw (← c.pattern.view_is) (weighed_start p.sizes p.picked p.n h, omega arith)

pub next_weight-next-requires : goal.next_weight-next-requires
next_weight-next-requires c = let i = c.loop-v.invariant.1 in omega arith

pub returns-then-next-gt64 : goal.returns-then-next-gt64
returns-then-next-gt64 c = let p = c.pattern.inside in let l = c.loop-v in let i = rw (← c.pattern.view_is) at l.invariant in
    rw (← c.pattern.view_is) (lower_stops p.sizes p.picked p.n l.w l.v c.next_weight-next.result c.pattern.invariant.bounded i.0 c.loop-v-test.true i.1 c.next_weight-next.ensures c.if-next-gt64.true)

pub loop-v-preserved : goal.loop-v-preserved
loop-v-preserved c = let p = c.pattern.inside in let l = c.loop-v in let i = rw (← c.pattern.view_is) at l.invariant in
    rw (← c.pattern.view_is) (rw c.next_weight-next.ensures (weighed_step p.sizes p.picked p.n l.w l.v c.pattern.invariant.bounded c.loop-v-test.true i.0), c.if-next-gt64.false)

pub returns : goal.returns
returns c = let p = c.pattern.inside in let l = c.loop-v in let i = rw (← c.pattern.view_is) at l.invariant in
    let w = lower_whole p.sizes p.picked p.n l.w l.v i.0 c.loop-v-test.false i.1 in let e : l.v ≡ p.n = omega (arith, w.0, c.loop-v-test.false) in rw (← c.pattern.view_is) (rw e at w)
