-- `visit_lane`: the values of the lane one by one. Assumes nothing.
use Rattle.std.proofs.Common.{◌≡◌, sym, refl, ◌∙◌, arith}
use Rattle.tables.specs.Edges.{way_back, edge_lanes, lane_weight}
use Rattle.tables.proofs.Visiting.{going_none}
use Rattle.tables.proofs.Graphs.{few_here}
use Rattle.tables.proofs.Walks.{cells_start, cells_next, passed_single, heard_not_above, above_inside, above_less}
use Rattle.tables.proofs.Goes.{queue_of}
use Rattle.tables.proofs.worklist.visits.Worklist.visit_lane.Goals as goal
use Rattle.tables.proofs.worklist.visits.Worklist.visit_lane.Goals.{then-is_above, else-is_above}

pub overflow_add-at : goal.overflow_add-at
overflow_add-at g c = let b = c.graph.invariant.edges_of.back _ (rw (← c.graph.view_is) at c.requires.0) in let f = few_here c.graph.invariant (rw (← c.graph.view_is) at c.args.self.now.all) in record { fits = omega (arith, b, f, c.requires.1, c.from-3.ensures) }

pub loop-x-init : goal.loop-x-init
loop-x-init g c = (cells_start (queue_of c.args.self.now), omega arith, omega arith, omega arith, refl)

pub ask_from-requires : goal.ask_from-requires
ask_from-requires g c = let p = c.requires in let v = c.loop-x.invariant in let l = v.0.going.moved.long in let w = c.args.self.now in let t = sym c.is_above.ensures.0 ∙ c.if-is_above.true in let k = v.0.going.stays ∙ p.2 in
    (omega (arith, w.queue.now.small), (p.0, above_inside _ _ _ t, w.all ∙ sym l, v.4 ∙ w.queue_states ∙ sym l, record { near = omega (arith, l, p.1); value_is = rw (← c.graph.view_is) (omega (arith, c.from.ensures, c.from-2.ensures, k)); less = above_less _ _ _ t; small = c.is_above.ensures.1 }, p.3))

pub overflow_add-i : goal.overflow_add-i
overflow_add-i g c = let v = c.loop-x.invariant in record { fits = omega (arith, v.2, v.3, c.from-values.ensures) }

pub loop-x-preserved : goal.loop-x-preserved
loop-x-preserved g c = let p = c.requires in let v = c.loop-x.invariant in let l = v.0.going.moved.long in
    let a₁ : c.from-one.result ≡ lane_weight (edge_lanes c.graph.inside.edges.now c.args.e) = rw c.one.ensures at (c.from-one.ensures ∙ c.weight.ensures) in
    let q = rw a₁ at v.1 in (
      rw (← c.graph.view_is) (elim c.if-is_above.branch [
        | then-is_above w ↦ let a = rw (← c.graph.view_is) at w.ask_from.ensures.0 in rw (w.entries-is, w.queue-is) (cells_next (rw (← c.graph.view_is) at v.0) _ (omega (arith, q)) a.going (λ b f z u. a.heard f u))
        | else-is_above w ↦ rw (w.entries-is, w.queue-is) (cells_next (rw (← c.graph.view_is) at v.0) _ (omega (arith, q)) (going_none v.0.going.queue)
            (λ b f z u. heard_not_above _ _ _ _ _ _ _ _ _ (c.graph.invariant.edges_of.weight _ (rw (← c.graph.view_is) at p.0)) (omega (arith, c.from.ensures, c.from-2.ensures)) (omega (arith, l, p.1)) b (v.0.going.stays ∙ p.2) (sym c.is_above.ensures.0 ∙ w.if-is_above.false) c.is_above.ensures.1 z))
      ]),
      omega (arith, v.1),
      omega (arith, v.2, c.from-one.ensures),
      omega (arith, c.loop-x-test.true),
      elim c.if-is_above.branch [ then-is_above w ↦ rw w.queue-is (w.ask_from.ensures.1 ∙ v.4) | else-is_above w ↦ rw w.queue-is v.4 ],
    )

pub returns : goal.returns
unfolding way_back
returns g c = let p = rw (← c.graph.view_is) at c.requires in let v = c.loop-x.invariant in let e = c.loop-x-test.false in let n = rw (c.from-values.ensures ∙ c.values.ensures, c.one-2.ensures) at e in
    record {
      same_entries = refl;
      same_queue = refl;
      same_graph = refl;
      done = rw (← c.graph.view_is) (passed_single (omega (arith, c.from-3.ensures)) p.3 n (rw (← c.graph.view_is) at v.0));
    }
