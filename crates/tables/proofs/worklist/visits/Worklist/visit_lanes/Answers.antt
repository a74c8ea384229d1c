-- `tables::worklist::visits::Worklist::visit_lanes` meets its contract. Assumes nothing.
use Rattle.std.proofs.Common.{◌≡◌, sym, refl, ◌∙◌, arith}
use Rattle.tables.specs.Edges.{edge_lanes, lane_weight, lane_after}
use Rattle.tables.proofs.Visiting.{going_none}
use Rattle.tables.proofs.Walks.{rows_start, rows_next, rows_end, cells_start, cells_next, heard_not_above, above_inside, above_less}
use Rattle.tables.proofs.Asking.{less_other}
use Rattle.tables.proofs.Goes.{queue_of}
use Rattle.tables.proofs.worklist.visits.Worklist.visit_lanes.Goals as goal
use Rattle.tables.proofs.worklist.visits.Worklist.visit_lanes.Goals.{then-is_above, else-is_above}

pub loop-y-init : goal.loop-y-init
loop-y-init g c = (rows_start (queue_of c.args.self.now), omega arith, omega arith, omega arith, refl)

pub loop-x-init : goal.loop-x-init
loop-x-init g c = let o = c.loop-y.invariant in (cells_start o.0.going.queue, omega arith, omega arith, omega arith, o.4)

pub ask-requires : goal.ask-requires
ask-requires g c = let p = c.requires in let v = c.loop-x.invariant in let l = v.0.going.moved.long ∙ c.loop-y.invariant.0.going.moved.long in let w = c.args.self.now in
    (omega (arith, w.queue.now.small), (rw c.from-e.ensures p.0, above_inside _ _ _ (sym c.is_above.ensures.0 ∙ c.if-is_above.true), w.all ∙ sym l, v.4 ∙ w.queue_states ∙ sym l))

pub overflow_add-i : goal.overflow_add-i
overflow_add-i g c = let p = c.requires in let v = c.loop-x.invariant in let o = c.loop-y.invariant in record { fits = omega (arith, p.3, v.2, o.2, o.3, v.3, c.from-ones.ensures, c.from-twos.ensures) }

pub loop-x-preserved : goal.loop-x-preserved
loop-x-preserved g c = let p = c.requires in let v = c.loop-x.invariant in let o = c.loop-y.invariant in let l = v.0.going.moved.long ∙ o.0.going.moved.long in
    let a₁ : c.from-one.result ≡ lane_weight (edge_lanes c.graph.inside.edges.now c.from-e.result) = rw c.one.ensures at (c.from-one.ensures ∙ c.weight.ensures) in
    let a₂ : c.from-two.result ≡ lane_weight (lane_after (edge_lanes c.graph.inside.edges.now c.from-e.result)) = rw c.two.ensures at (c.from-two.ensures ∙ c.weight-2.ensures) in
    let q = rw (a₁, o.1, a₂) at v.1 in (
      rw (← c.graph.view_is) (elim c.if-is_above.branch [
        | then-is_above w ↦ let a = rw (← c.graph.view_is) at w.ask.ensures.0 in rw (w.entries-is, w.queue-is) (cells_next (rw (← c.graph.view_is) at v.0) _ q
            (a.going _ (less_other _ _ _ c.from-2.result _ (omega (arith, c.from.ensures, v.0.going.stays ∙ o.0.going.stays ∙ p.2)) (above_less _ _ _ (sym c.is_above.ensures.0 ∙ w.if-is_above.true)))) (λ b f z u. a.heard f))
        | else-is_above w ↦ rw (w.entries-is, w.queue-is) (cells_next (rw (← c.graph.view_is) at v.0) _ q (going_none v.0.going.queue)
            (λ b f z u. heard_not_above _ _ _ _ _ _ _ _ _ (c.graph.invariant.edges_of.weight _ (rw c.from-e.ensures (rw (← c.graph.view_is) at p.0))) (omega (arith, c.from.ensures, c.from-2.ensures)) (omega (arith, l, p.1)) b (v.0.going.stays ∙ o.0.going.stays ∙ p.2) (sym c.is_above.ensures.0 ∙ w.if-is_above.false) c.is_above.ensures.1 z))
      ]),
      omega (arith, v.1),
      omega (arith, v.2, c.from-one.ensures),
      omega (arith, c.loop-x-test.true),
      elim c.if-is_above.branch [ then-is_above w ↦ rw w.queue-is (w.ask.ensures.1 ∙ v.4) | else-is_above w ↦ rw w.queue-is v.4 ],
    )

pub overflow_add-row : goal.overflow_add-row
overflow_add-row g c = let p = c.requires in let o = c.loop-y.invariant in record { fits = omega (arith, p.3, o.2, o.3, c.from-twos.ensures) }

pub loop-y-preserved : goal.loop-y-preserved
loop-y-preserved g c = let o = c.loop-y.invariant in let v = c.loop-x.invariant in let e = c.loop-x-test.false in let n = rw (c.from-ones.ensures ∙ c.values.ensures, c.one-2.ensures) at e in
    (rw (← c.graph.view_is) (rows_next (rw (← c.graph.view_is) at o.0) (rw (← c.graph.view_is) at v.0) n), omega (arith, o.1), omega (arith, o.2, c.from-two.ensures), omega (arith, c.loop-y-test.true), v.4)

pub returns : goal.returns
returns g c = let o = c.loop-y.invariant in let e = c.loop-y-test.false in let n = rw (c.from-twos.ensures ∙ c.values-2.ensures, c.two-2.ensures) at e in
    record {
      same_entries = refl;
      same_queue = refl;
      same_graph = refl;
      done = rw (← c.graph.view_is) (rw c.from-e.ensures at (rows_end (rw (← c.graph.view_is) at o.0) n));
    }
