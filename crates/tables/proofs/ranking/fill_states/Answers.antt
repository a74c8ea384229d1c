-- `tables::ranking::fill_states` meets its contract. Assumes nothing.
use Rattle.std.proofs.Common.{◌≡◌, length, refl, ◌∙◌, arith, rules}
use Rattle.tables.proofs.Spacing.{filling_start, filling_small, filling_positive, filling_room, filling_step, filling_end}
use Rattle.tables.proofs.ranking.fill_states.Goals as goal

pub loop-v-init : goal.loop-v-init
loop-v-init c = let x = c.pattern.inside in let h : length x.sizes ≡ 16 = search rules in let p = rw (← c.pattern.view_is) at c.requires in
    rw (← c.pattern.view_is) (filling_start x.sizes x.picked x.n c.args.states.now h (omega (arith, p.0, c.pattern.invariant.bounded.states_few)) p.1, refl)

pub next_weight-next-requires : goal.next_weight-next-requires
next_weight-next-requires c = let x = c.pattern.inside in let l = c.loop-v in let i = rw (← c.pattern.view_is) at l.invariant in
    filling_small x.sizes x.picked x.n l.states l.w l.place l.v c.pattern.invariant.bounded c.loop-v-test.true i.0

pub extend-requires : goal.extend-requires
extend-requires c = let x = c.pattern.inside in let l = c.loop-v in let t = c.loop-v-test.true in let p = c.pattern.invariant.bounded in let i = rw (← c.pattern.view_is) at l.invariant in
    (filling_positive x.sizes x.picked x.n l.states l.w l.place l.v p t i.0, rw c.next_weight-next.ensures (filling_room x.sizes x.picked x.n l.states l.w l.place l.v p t i.0))

pub loop-v-preserved : goal.loop-v-preserved
loop-v-preserved c = let x = c.pattern.inside in let l = c.loop-v in let t = c.loop-v-test.true in let p = c.pattern.invariant.bounded in let w = c.next_weight-next.ensures in let i = rw (← c.pattern.view_is) at l.invariant in
    rw (← c.pattern.view_is) (rw (c.next_place-place.ensures, w) (filling_step x.sizes x.picked x.n l.states l.w l.place l.v p t i.0 _ (rw w at c.extend.ensures)), c.extend.ensures.long ∙ i.1)

pub returns : goal.returns
returns c = let x = c.pattern.inside in let l = c.loop-v in let i = rw (← c.pattern.view_is) at l.invariant in
    rw (← c.pattern.view_is) (filling_end x.sizes x.picked x.n l.states l.w l.place l.v c.loop-v-test.false i.0)
