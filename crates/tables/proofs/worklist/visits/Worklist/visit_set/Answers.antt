-- `visit_set`: the edges of a set one by one, and the rest of them from the first that is not plain; the set falls. Assumes nothing.
use Rattle.std.proofs.Common.{◌≡◌, ◌*◌, ◌/◌, ◌^◌, refl, ◌∙◌, arith, rules}
use Rattle.tables.proofs.Rounds.{row_start, row_known, row_next, row_rest, row_end}
use Rattle.tables.proofs.Goes.{queue_of, goes_nowhere, goes_then, goes_as}
use Rattle.tables.proofs.worklist.visits.Worklist.visit_set.Goals as goal

pub loop-q-init : goal.loop-q-init
loop-q-init g c = let e : c.into_iter-q-iterator.result.0 ≡ c.args.set = search rules in let z : c.args.set ≡ c.args.set / 2 ^ 0 * 2 ^ 0 = omega arith in
    goes_nowhere _ (row_start 0 c.requires.2 (e ∙ z) (queue_of c.args.self.now))

pub overflow_mul-e : goal.overflow_mul-e
overflow_mul-e g c = omega (arith, c.requires.3)

pub overflow_add-e : goal.overflow_add-e
overflow_add-e g c = let s = c.in-Some.ensures.steps in let k = row_known refl c.loop-q.invariant.done s.0 in omega (arith, k.0, s.1, c.requires.3)

pub is_plain-requires : goal.is_plain-requires
is_plain-requires g c = let s = c.in-Some.ensures.steps in let k = row_known refl c.loop-q.invariant.done s.0 in let k₁ = rw (← c.graph.view_is) at k.1 in omega (arith, k₁, s.1, c.graph.invariant.edges_of.room)

pub visit_row-requires : goal.visit_row-requires
visit_row-requires g c = let p = c.requires in let v = c.loop-q.invariant in let s = c.in-Some.ensures.steps in let k = row_known refl v.done s.0 in let m = v.done.going in
    (omega (arith, c.args.self.now.queue.now.small), (omega (arith, p.0, m.moved.long), m.stays ∙ p.1, rw v.same_graph p.2, p.3, omega (arith, k.0, s.1)))

pub returns-then-not-is_plain : goal.returns-then-not-is_plain
returns-then-not-is_plain g c = let v = c.loop-q.invariant in let s = c.in-Some.ensures.steps in goes_then v (rw s.1 at c.visit_row.ensures) (row_rest refl v.done s.0)

pub visit_plain-requires : goal.visit_plain-requires
visit_plain-requires g c = let p = c.requires in let v = c.loop-q.invariant in let s = c.in-Some.ensures.steps in let k = row_known refl v.done s.0 in let m = v.done.going in
    (omega (arith, c.args.self.now.queue.now.small), (rw (v.same_graph, s.1) k.1, omega (arith, p.0, m.moved.long), m.stays ∙ p.1, rw (v.same_graph, ← c.graph.view_is) (c.is_plain.ensures c.if-not-is_plain.false)))

pub loop-q-preserved : goal.loop-q-preserved
loop-q-preserved g c = let v = c.loop-q.invariant in let s = c.in-Some.ensures.steps in rw s.2 (goes_then v (rw s.1 at c.visit_plain.ensures) (row_next refl v.done s.0))

pub returns : goal.returns
returns g c = goes_as c.loop-q.invariant (λ a. row_end refl a c.in-None.ensures.steps)
