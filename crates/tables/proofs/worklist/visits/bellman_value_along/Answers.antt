-- `tables::worklist::visits::bellman_value_along` meets its contract. Assumes nothing.
use Rattle.std.proofs.Common.{refl, arith}
use Rattle.tables.specs.Steps.{space}
use Rattle.tables.proofs.Asking.{largest_start, largest_inside, largest_next, value_infinite, value_waits, value_end}
use Rattle.tables.proofs.Graphs.{edges_here, few_here}
use Rattle.tables.proofs.worklist.visits.bellman_value_along.Goals as goal

pub loop-f-init : goal.loop-f-init
loop-f-init c = let g = c.graph.inside in rw c.from-first.ensures (largest_start (space g.task.now g.mask g.weights.now g.states.now g.actions) g.edges.now c.args.entries.now c.args.e c.args.i)

pub returns-then-v : goal.returns-then-v
returns-then-v c = let p = rw (← c.graph.view_is) at c.requires in let w = c.graph.invariant in let k = c.type_inv.entries c.args.i in
    rw (← c.graph.view_is) (value_infinite (edges_here w p.2) p.0 p.1 (few_here w p.2) p.4 c.loop-f.invariant c.index_after-j.result c.entry_at-v.result c.index_after-j.ensures c.entry_at-v.ensures (omega (arith, c.loop-f-test.true, c.from-many.ensures, c.from-first.ensures)) refl (omega (arith, k)) c.if-v.true)

pub bounds-marks-j : goal.bounds-marks-j
bounds-marks-j c = let p = rw (← c.graph.view_is) at c.requires in let w = c.graph.invariant in
    let h = largest_inside (edges_here w p.2) p.0 p.1 (few_here w p.2) p.4 c.loop-f.invariant c.index_after-j.result c.entry_at-v.result c.index_after-j.ensures c.entry_at-v.ensures (omega (arith, c.loop-f-test.true, c.from-many.ensures, c.from-first.ensures)) (omega arith) c.if-v.false in omega (arith, h, p.3)

pub returns-then-marks-j : goal.returns-then-marks-j
returns-then-marks-j c = let p = rw (← c.graph.view_is) at c.requires in let w = c.graph.invariant in
    rw (← c.graph.view_is) (value_waits (edges_here w p.2) p.0 p.1 (few_here w p.2) p.4 c.loop-f.invariant c.index_after-j.result c.entry_at-v.result c.index_after-j.ensures c.entry_at-v.ensures (omega (arith, c.loop-f-test.true, c.from-many.ensures, c.from-first.ensures)) refl c.if-marks-j.true)

pub loop-f-preserved : goal.loop-f-preserved
loop-f-preserved c = let p = rw (← c.graph.view_is) at c.requires in let w = c.graph.invariant in
    largest_next (edges_here w p.2) p.0 p.1 (few_here w p.2) p.4 c.loop-f.invariant c.index_after-j.result c.entry_at-v.result c.index_after-j.ensures c.entry_at-v.ensures (omega (arith, c.loop-f-test.true, c.from-many.ensures, c.from-first.ensures)) _ (omega arith) (omega arith) c.if-v.false

pub returns : goal.returns
returns c = let p = rw (← c.graph.view_is) at c.requires in let w = c.graph.invariant in let k = c.type_inv.entries c.args.i in
    rw (← c.graph.view_is) (value_end (edges_here w p.2) p.0 p.1 (few_here w p.2) p.4 c.loop-f.invariant (omega (arith, c.loop-f-test.false, c.from-many.ensures, c.from-first.ensures)) (omega (arith, k)) (rw c.from.ensures at c.raise.ensures))
