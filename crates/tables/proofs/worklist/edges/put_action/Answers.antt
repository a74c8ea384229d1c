-- `put_action`: an edge for each outcome that needs one. Assumes nothing.
use Rattle.std.proofs.Common.{◌≡◌, arith}
use Rattle.packed_task.specs.Packed.{outcome_count}
use Rattle.tables.proofs.Making.{acting_none, edge_put, acting_new, acting_twin, acting_end}
use Rattle.tables.proofs.worklist.edges.put_action.Goals as goal
use Rattle.tables.proofs.worklist.edges.put_action.Goals.{in-Some, in_default}

pub invariant_of-action : goal.invariant_of-action
invariant_of-action c = let p = rw (← c.pattern.view_is) at c.requires in record { below = omega (arith, p.0, c.pattern.invariant.readable.actions_few) }

pub loop-o-init : goal.loop-o-init
loop-o-init c = (rw (← c.pattern.view_is) c.outcome_count-n.ensures, acting_none)

pub invariant_of-edge_of : goal.invariant_of-edge_of
invariant_of-edge_of c = let p = rw (← c.pattern.view_is) at c.requires in let r = c.pattern.invariant.readable in record { below = omega (arith, c.loop-o-test.true, c.outcome_count-n.ensures, r.outcomes_few _ p.0) }

pub edge_of-requires : goal.edge_of-requires
edge_of-requires c = c.requires.0

pub loop-o-preserved : goal.loop-o-preserved
loop-o-preserved c = let v = c.loop-o.invariant in elim c.match-edge_of.branch [
  | in-Some w ↦ rw (w.edges-is, w.e-is) (v.0, acting_new v.1 (edge_put _ _ _ (omega (arith, c.loop-o-test.true, v.0, v.1.most, c.requires.2, v.1.untouched.long))) w.in-Some.ensures.some)
  | in_default w ↦ rw (w.edges-is, w.e-is) (v.0, acting_twin v.1 w.in_default.ensures.none)
]

pub put_span-requires : goal.put_span-requires
put_span-requires c = let p = c.requires in let l = c.loop-o in let v = l.invariant in let q = rw (← c.pattern.view_is) at p in let few = c.pattern.invariant.readable.outcomes_few _ q.0 in (
  v.1.grows,
  omega (arith, l.auto.o-end, v.1.most, c.outcome_count-n.ensures, few),
  omega (arith, v.0, l.auto.o-end, v.1.most, p.1),
  omega (arith, v.0, l.auto.o-end, v.1.most, p.2, v.1.untouched.long),
)

pub returns : goal.returns
returns c = let l = c.loop-o in let v = l.invariant in let a = c.args in let z : l.o ≡ outcome_count a.states.now.pattern.now.task a.m = omega (arith, v.0, l.auto.o-end, c.loop-o-test.false) in acting_end (rw z at v.1) c.put_span.ensures
