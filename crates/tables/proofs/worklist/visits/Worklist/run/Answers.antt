-- `tables::worklist::visits::Worklist::run` meets its contract. Assumes nothing.
use Rattle.std.proofs.Common.{◌≡◌, length, refl, ◌∙◌, arith}
use Rattle.tables.proofs.Queue.{count_few}
use Rattle.tables.proofs.Starting.{running_start, running_since, running_next, running_end, running_level}
use Rattle.tables.proofs.Goes.{queue_of}
use Rattle.tables.proofs.worklist.visits.Worklist.run.Goals as goal

pub loop-j-init : goal.loop-j-init
loop-j-init g c = (running_start (queue_of c.args.self.now) c.requires.0, refl, refl, refl)

pub overflow_add-since-in-Some : goal.overflow_add-since-in-Some
overflow_add-since-in-Some g c = let v = c.loop-j.invariant.0 in let u = queue_of c.visit.new.self in record { fits = omega (arith, v.recent, v.queue.states_few, count_few u, u.states_few) }

pub returns-then-is_level-clause-settled : goal.returns-then-is_level-clause-settled
returns-then-is_level-clause-settled g c = let v = c.loop-j.invariant in let k = c.in-Some.ensures.taken in let e = c.visit.ensures in
    let n = running_next v.0 (rw (c.loop-j.self.queue_states ∙ v.0.long) at k.0) (rw k.2 at e.done) in
    rw (← c.graph.view_is) (running_level (rw (v.1, ← c.graph.view_is) at n) (rw (← c.graph.view_is) at c.requires.1) (c.is_level.ensures c.if-is_level.true))

pub loop-j-preserved-then-since-self : goal.loop-j-preserved-then-since-self
loop-j-preserved-then-since-self g c = let v = c.loop-j.invariant in let k = c.in-Some.ensures.taken in let e = c.visit.ensures in
    (rw e.same_graph (running_next v.0 (rw (c.loop-j.self.queue_states ∙ v.0.long) at k.0) (rw k.2 at e.done)), e.same_graph ∙ v.1, e.same_entries ∙ v.2, e.same_queue ∙ v.3)

pub loop-j-preserved : goal.loop-j-preserved
loop-j-preserved g c = let v = c.loop-j.invariant in let k = c.in-Some.ensures.taken in let e = c.visit.ensures in
    let l : c.graph.inside.n ≡ length c.args.self.now.entries.now = rw (← c.graph.view_is) at c.args.self.now.all in (
      rw e.same_graph (running_since (running_next v.0 (rw (c.loop-j.self.queue_states ∙ v.0.long) at k.0) (rw k.2 at e.done)) (omega (arith, l, c.if-since-self.false))),
      e.same_graph ∙ v.1,
      e.same_entries ∙ v.2,
      e.same_queue ∙ v.3,
    )

pub returns-clause-settled : goal.returns-clause-settled
returns-clause-settled g c = let v = c.loop-j.invariant in running_end (rw v.1 at v.0) (omega (arith, c.in_default.ensures.none))
