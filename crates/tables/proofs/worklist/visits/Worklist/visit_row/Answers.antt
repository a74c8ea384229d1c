-- `visit_row`: the edges of a set one by one; the set falls. Assumes nothing.
use Rattle.std.proofs.Common.{◌≡◌, ◌*◌, ◌/◌, ◌%◌, ◌^◌, refl, ◌∙◌, arith, rules}
use Rattle.std.proofs.Math.Nat.{div-mul-le_self}
use Rattle.tables.proofs.Rounds.{row_start, row_known, row_next, row_end}
use Rattle.tables.proofs.Goes.{queue_of, goes_nowhere, goes_then, goes_as}
use Rattle.tables.proofs.worklist.visits.Worklist.visit_row.Goals as goal

pub loop-q-init : goal.loop-q-init
loop-q-init g c = let a = c.args in let w : c.into_iter-q-iterator.result.0 ≡ a.set / 2 ^ a.from * 2 ^ a.from % 18446744073709551616 = search rules in
    let e : c.into_iter-q-iterator.result.0 ≡ a.set / 2 ^ a.from * 2 ^ a.from = omega (arith, w, c.ranges.set.fits, div-mul-le_self a.set (2 ^ a.from)) in goes_nowhere _ (row_start a.from c.requires.2 e (queue_of a.self.now))

pub overflow_mul-c : goal.overflow_mul-c
overflow_mul-c g c = omega (arith, c.requires.3)

pub overflow_add-c : goal.overflow_add-c
overflow_add-c g c = let s = c.in-Some.ensures.steps in let k = row_known refl c.loop-q.invariant.done s.0 in omega (arith, k.0, s.1, c.requires.3)

pub visit_edge-requires : goal.visit_edge-requires
visit_edge-requires g c = let p = c.requires in let v = c.loop-q.invariant in let s = c.in-Some.ensures.steps in let k = row_known refl v.done s.0 in let m = v.done.going in
    (omega (arith, c.args.self.now.queue.now.small), (rw (v.same_graph, s.1) k.1, omega (arith, p.0, m.moved.long), m.stays ∙ p.1))

pub loop-q-preserved : goal.loop-q-preserved
loop-q-preserved g c = let v = c.loop-q.invariant in let s = c.in-Some.ensures.steps in rw s.2 (goes_then v (rw s.1 at c.visit_edge.ensures) (row_next refl v.done s.0))

pub returns : goal.returns
returns g c = goes_as c.loop-q.invariant (λ a. row_end refl a c.in-None.ensures.steps)
