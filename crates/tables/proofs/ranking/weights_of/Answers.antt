-- `tables::ranking::weights_of` meets its contract. Assumes nothing.
use Rattle.std.proofs.Common.{◌≡◌, length, refl, arith, rules}
use Rattle.planning.specs.Table.{state_count}
use Rattle.tables.specs.Steps.{weights_from}
use Rattle.tables.proofs.Spacing.{weighing_step, weighing_end, weighing_small}
use Rattle.tables.proofs.ranking.weights_of.Goals as goal

pub loop-v-init : goal.loop-v-init
unfolding weights_from state_count
loop-v-init c = let h : length c.pattern.inside.sizes ≡ 16 = search rules in rw (← c.pattern.view_is) (record { at = omega arith; long = h; count = refl; weights = refl })

pub weight_in-requires : goal.weight_in-requires
weight_in-requires c = let p = c.pattern.inside in let l = c.loop-v in weighing_small p.sizes p.picked p.n l.r l.w l.v c.pattern.invariant.bounded (rw (← c.pattern.view_is) at l.invariant)

pub next_weight-w-requires : goal.next_weight-w-requires
next_weight-w-requires c = let p = c.pattern.inside in let l = c.loop-v in weighing_small p.sizes p.picked p.n l.r l.w l.v c.pattern.invariant.bounded (rw (← c.pattern.view_is) at l.invariant)

pub loop-v-preserved : goal.loop-v-preserved
loop-v-preserved c = let p = c.pattern.inside in let l = c.loop-v in
    rw (← c.pattern.view_is, c.next_weight-w.ensures, c.weight_in.ensures) (weighing_step p.sizes p.picked p.n l.r l.w l.v c.pattern.invariant.bounded c.loop-v-test.true (rw (← c.pattern.view_is) at l.invariant))

pub returns : goal.returns
returns c = let p = c.pattern.inside in let l = c.loop-v in rw (← c.pattern.view_is) (weighing_end p.sizes p.picked p.n l.r l.w l.v c.loop-v-test.false (rw (← c.pattern.view_is) at l.invariant))
