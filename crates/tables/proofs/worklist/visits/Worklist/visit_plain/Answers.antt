-- `visit_plain`: the one state before j is asked about, or need not be. Assumes nothing.
use Rattle.std.proofs.Common.{sym, refl, ◌∙◌, arith}
use Rattle.tables.specs.Steps.{space}
use Rattle.tables.specs.Edges.{way_back}
use Rattle.tables.proofs.Asking.{plain_on, less_other}
use Rattle.tables.proofs.Visiting.{going_none}
use Rattle.tables.proofs.Graphs.{few_here}
use Rattle.tables.proofs.Walks.{heard_not_above, above_inside, above_less, passed_plain}
use Rattle.tables.proofs.Goes.{queue_of}
use Rattle.tables.proofs.worklist.visits.Worklist.visit_plain.Goals as goal

pub returns-then-not-is_above : goal.returns-then-not-is_above
unfolding way_back
returns-then-not-is_above g c = let p = rw (← c.graph.view_is) at c.requires in
    record {
      same_entries = refl;
      same_queue = refl;
      same_graph = refl;
      done = rw (← c.graph.view_is) (passed_plain (omega (arith, c.from.ensures)) p.3 (going_none (queue_of c.args.self.now))
          (λ b f z. heard_not_above _ _ _ _ _ _ _ _ _ (c.graph.invariant.edges_of.weight _ p.0) (omega (arith, c.from-2.ensures, c.from-3.ensures)) p.1 b p.2 (sym c.is_above.ensures.0 ∙ c.if-not-is_above.true) c.is_above.ensures.1 z));
    }

pub ask_only-requires : goal.ask_only-requires
unfolding way_back
ask_only-requires g c = let w = c.args.self.now in let p = rw (← c.graph.view_is) at c.requires in let t = sym c.is_above.ensures.0 ∙ c.if-not-is_above.false in
    let f = few_here c.graph.invariant (rw (← c.graph.view_is) at w.all) in let v = c.graph.inside in
    rw (← c.graph.view_is) (
      omega (arith, w.queue.now.small),
      (
        p.0,
        above_inside _ _ _ t,
        rw (← c.graph.view_is) at w.all,
        w.queue_states,
        record {
          after = c.args.j;
          lowers = record { near = p.1; value_is = omega (arith, c.from-2.ensures, c.from-3.ensures, p.2); less = above_less _ _ _ t; small = c.is_above.ensures.1 };
          there = plain_on (space v.task.now v.mask v.weights.now v.states.now v.actions) _ _ _ _ (c.graph.invariant.edges_of.back _ p.0) (omega (arith, p.1, f)) p.3 (omega (arith, c.from.ensures));
          alone = omega (arith, c.is_only.ensures c.if-is_only.true);
        },
      ),
    )

pub returns-then-is_only : goal.returns-then-is_only
unfolding way_back
returns-then-is_only g c = let p = rw (← c.graph.view_is) at c.requires in let a = rw (← c.graph.view_is) at c.ask_only.ensures in let t = sym c.is_above.ensures.0 ∙ c.if-not-is_above.false in
    record {
      same_entries = refl;
      same_queue = refl;
      same_graph = refl;
      done = rw (← c.graph.view_is) (passed_plain (omega (arith, c.from.ensures)) p.3 (a.0.going c.args.j (less_other _ _ _ c.from-3.result _ (omega (arith, c.from-2.ensures, p.2)) (above_less _ _ _ t))) (λ b f z. a.0.heard f));
    }

pub ask-requires : goal.ask-requires
ask-requires g c = let w = c.args.self.now in (omega (arith, w.queue.now.small), (c.requires.0, above_inside _ _ _ (sym c.is_above.ensures.0 ∙ c.if-not-is_above.false), w.all, w.queue_states))

pub returns : goal.returns
unfolding way_back
returns g c = let p = rw (← c.graph.view_is) at c.requires in let a = rw (← c.graph.view_is) at c.ask.ensures in let t = sym c.is_above.ensures.0 ∙ c.if-not-is_above.false in
    record {
      same_entries = refl;
      same_queue = refl;
      same_graph = refl;
      done = rw (← c.graph.view_is) (passed_plain (omega (arith, c.from.ensures)) p.3 (a.0.going c.args.j (less_other _ _ _ c.from-3.result _ (omega (arith, c.from-2.ensures, p.2)) (above_less _ _ _ t))) (λ b f z. a.0.heard f));
    }

pub overflow_add-at : goal.overflow_add-at
overflow_add-at g c = let b = c.graph.invariant.edges_of.back _ (rw (← c.graph.view_is) at c.requires.0) in let f = few_here c.graph.invariant (rw (← c.graph.view_is) at c.args.self.now.all) in record { fits = omega (arith, b, f, c.requires.1, c.from.ensures) }
