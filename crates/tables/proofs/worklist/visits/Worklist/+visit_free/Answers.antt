-- `tables::worklist::visits::Worklist::visit_free` meets its contract. Assumes nothing.
use Rattle.std.proofs.Common.{◌≤◌, length, sym, ◌∙◌, inl, inr, arith}
use Rattle.tables.proofs.Digits.{place_is}
use Rattle.tables.proofs.Walks.{choices_as, choices_next, choices_skip, freed_none, freed_skip, choosing_start, choosing_next, choosing_over}
use Rattle.tables.proofs.Goes.{queue_of, goes_nowhere, goes_then, goes_as}
use Rattle.tables.proofs.worklist.visits.Worklist.+visit_free.Goals as goal
use Rattle.tables.proofs.worklist.visits.Worklist.+visit_free.Goals.{then-free-eq0-via-then-free-eq0, then-free-eq0-via-else-free-eq0+then-u-ge16}

pub returns-then-free-eq0 : goal.returns-then-free-eq0
returns-then-free-eq0 g t c = let f : length c.graph.inside.weights.now ≤ 16 = c.graph.invariant.weights_few in
    let d = c.digits_skipped-skipped.ensures in goes_as c.visit_lanes.ensures (λ a. rw (← c.graph.view_is) (elim c.then-free-eq0.branch [
      | then-free-eq0-via-then-free-eq0 w ↦ freed_none (inl w.if-free-eq0.true) (rw (← c.graph.view_is) at a)
      | then-free-eq0-via-else-free-eq0+then-u-ge16 w ↦ freed_skip c.digits_skipped-skipped.result c.args.v c.args.free d.1 d.2 (freed_none (inr (omega (arith, f, w.if-u-ge16.true))) (rw (← c.graph.view_is) at a))
    ]))

pub loop-d-init : goal.loop-d-init
loop-d-init g t c = let p = c.requires in (goes_nowhere _ (choosing_start (queue_of c.args.self.now)), omega arith, p.0, p.1, p.2, choices_next (rw (sym (place_is c.digits_skipped-skipped.result)) at (choices_skip c.digits_skipped-skipped.result c.args.v c.args.free p.3)))

pub loop-d-preserved : goal.loop-d-preserved
loop-d-preserved g t c = let v = c.loop-d.invariant in let e = c.visit_free.ensures in let m = e.done.going.moved in let l = m.long in (
  goes_then v.0 e (λ a. rw (← c.graph.view_is) (choosing_next (rw (← c.graph.view_is) at v.0.done) _ (omega (arith, c.times.ensures.0)) (rw (← c.graph.view_is) at a))),
  omega (arith, c.loop-d-test.true),
  rw e.same_graph v.2,
  omega (arith, l, v.3),
  e.done.going.stays ∙ v.4,
  rw e.same_graph (choices_as (sym l) v.5),
)

pub returns : goal.returns
returns g t c = let v = c.loop-d.invariant in let p = rw (← c.graph.view_is) at c.requires in let n = c.values_of-end.ensures in let o = c.loop-d-test.false in
    let k = c.digits_skipped-skipped.result in let s = c.digits_skipped-skipped.ensures in
    goes_as v.0 (λ a. rw (← c.graph.view_is) (freed_skip k c.args.v c.args.free s.1 s.2 (choosing_over (rw (place_is k) at (rw (← c.graph.view_is) at a)) _ (λ q. omega (arith, n.1 (rw (place_is k) q), o)) (λ q d u w. omega (arith, n.2 (rw (place_is k) q) d u w, o)) (choices_skip k c.args.v c.args.free p.3))))
