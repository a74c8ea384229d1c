-- `tables::worklist::visits::ask` meets its contract. Assumes nothing.
use Rattle.std.proofs.Common.{sym, refl, ◌∙◌, arith}
use Rattle.tables.specs.Steps.{permitted_at}
use Rattle.tables.proofs.Asking.{asked_never, asked_miss, asked_hit}
use Rattle.tables.proofs.Rounds.{queue_as}
use Rattle.tables.proofs.worklist.visits.ask.Goals as goal

pub returns-then-not-permits : goal.returns-then-not-permits
unfolding permitted_at
returns-then-not-permits g c = let p = rw (← c.graph.view_is) at c.requires in
    rw (← c.graph.view_is) (asked_never p.1 (queue_as p.3 c.args.queue.now.waits) (sym (rw c.from.ensures at c.permits.ensures) ∙ c.if-not-permits.true), refl)

pub bellman_value_along-v-requires : goal.bellman_value_along-v-requires
unfolding permitted_at
bellman_value_along-v-requires g c = let p = rw (← c.graph.view_is) at c.requires in
    rw (← c.graph.view_is) (p.0, p.1, p.2, (queue_as p.3 c.args.queue.now.waits).room, sym (rw c.from.ensures at c.permits.ensures) ∙ c.if-not-permits.false)

pub returns-then-v-entries : goal.returns-then-v-entries
returns-then-v-entries g c = let p = c.requires in (asked_miss p.1 (queue_as p.3 c.args.queue.now.waits) _ c.bellman_value_along-v.ensures c.if-v-entries.true, refl)

pub returns : goal.returns
unfolding permitted_at
returns g c = let p = rw (← c.graph.view_is) at c.requires in let o = rw (← c.graph.view_is) at c.bellman_value_along-v.ensures in let u = c.put.ensures in
    rw (← c.graph.view_is) (asked_hit p.1 (queue_as p.3 c.args.queue.now.waits) c.bellman_value_along-v.result (c.graph.invariant.edges_of.known _ p.0) (sym (rw c.from.ensures at c.permits.ensures) ∙ c.if-not-permits.false) (omega arith) o c.if-v-entries.false refl p.3 u.0, u.1)
