-- `ask_from`: the only edge of its action, where that leads from i to j, or any other action. Assumes nothing.
use Rattle.std.proofs.Common.{sym, refl, arith}
use Rattle.tables.specs.Steps.{space}
use Rattle.tables.specs.Edges.{way_back}
use Rattle.tables.proofs.Asking.{single_on, single_before, asked_from, asked_elsewhere}
use Rattle.tables.proofs.Rounds.{queue_as}
use Rattle.tables.proofs.Graphs.{few_here}
use Rattle.tables.proofs.worklist.visits.ask_from.Goals as goal

pub returns-then-not-is_only : goal.returns-then-not-is_only
returns-then-not-is_only g c = let a = c.ask.ensures in (asked_from c.requires.4 a.0, a.1)

pub overflow_add-at : goal.overflow_add-at
overflow_add-at g c = let p = rw (← c.graph.view_is) at c.requires in let w = c.graph.invariant in record { fits = omega (arith, w.edges_of.back _ p.0, few_here w p.2, p.4.near, c.from.ensures) }

pub ask_only-requires : goal.ask_only-requires
unfolding way_back
ask_only-requires g c = let p = rw (← c.graph.view_is) at c.requires in let w = c.graph.invariant in let v = c.graph.inside in let d = rw c.one.ensures at c.sum.ensures.0 in
    rw (← c.graph.view_is) (
      omega (arith, c.args.queue.now.small),
      (
        p.0,
        p.1,
        p.2,
        p.3,
        record {
          after = c.args.j;
          lowers = p.4;
          there = single_on (space v.task.now v.mask v.weights.now v.states.now v.actions) _ _ _ _ (w.edges_of.back _ p.0) (omega (arith, few_here w p.2, p.4.near)) p.5 (omega (arith, sym c.if-at-sum.true, c.from.ensures, d));
          alone = omega (arith, c.is_only.ensures c.if-not-is_only.false);
        },
      ),
    )

pub returns-then-at-sum : goal.returns-then-at-sum
returns-then-at-sum g c = let a = c.ask_only.ensures in (asked_from c.requires.4 a.0, a.1)

pub returns-else-at-sum : goal.returns-else-at-sum
unfolding way_back
returns-else-at-sum g c = let p = rw (← c.graph.view_is) at c.requires in let d = rw c.one.ensures at c.sum.ensures.0 in
    rw (← c.graph.view_is) (asked_elsewhere p.4 (queue_as p.3 c.args.queue.now.waits) (λ n. c.if-at-sum.false (let r = single_before _ _ _ _ _ p.5 n in omega (arith, r, c.from.ensures, d))), refl)
