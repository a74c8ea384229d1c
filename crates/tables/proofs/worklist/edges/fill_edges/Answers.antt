-- `fill_edges`: the edges of one action after the other. Assumes nothing.
use Rattle.std.proofs.Common.{arith}
use Rattle.tables.proofs.Making.{building_known, building_next, building_end, building_tests}
use Rattle.tables.proofs.worklist.edges.fill_edges.Goals as goal

pub put_action-c-requires : goal.put_action-c-requires
put_action-c-requires c = let p = rw (← c.pattern.view_is) at c.requires in let v = rw (← c.pattern.view_is) at c.loop-m.invariant in let s = c.in-Some.ensures.steps in let k = building_known c.pattern.invariant.readable.actions_few v s.0 in
    rw (← c.pattern.view_is, s.1) (k.0, omega (arith, k.1, p.0), omega (arith, k.1, v.room_there))

pub loop-m-preserved : goal.loop-m-preserved
loop-m-preserved c = let v = rw (← c.pattern.view_is) at c.loop-m.invariant in let s = c.in-Some.ensures.steps in let e = rw (← c.pattern.view_is, s.1) at c.put_action-c.ensures in
    rw (← c.pattern.view_is, s.2) (building_next c.pattern.invariant.readable.actions_few v s.0 e)

pub returns : goal.returns
returns c = let p = rw (← c.pattern.view_is) at c.requires in let i = c.pattern.invariant in let l = rw (← c.pattern.view_is) at c.args.states.now.listed in let r = i.walkable.regular _ _ l.weights_are l.words_are in
    let v = rw (← c.pattern.view_is) at c.loop-m.invariant in let z = c.in-None.ensures.steps in
    rw (← c.pattern.view_is) (building_end i.readable.actions_few v r p.0 z, building_tests i.readable.actions_few v r p.0 z, omega (arith, v.fits))
