-- `tables::worklist::visits::ask_only` meets its contract. Assumes nothing.
use Rattle.std.proofs.Common.{sym, refl, ◌∙◌, arith}
use Rattle.tables.specs.Steps.{permitted_at}
use Rattle.tables.proofs.Asking.{asked_never, asked_only}
use Rattle.tables.proofs.Rounds.{queue_as}
use Rattle.tables.proofs.Graphs.{edges_here, few_here}
use Rattle.tables.proofs.worklist.visits.ask_only.Goals as goal

pub returns-then-not-permits : goal.returns-then-not-permits
unfolding permitted_at
returns-then-not-permits g c = let p = rw (← c.graph.view_is) at c.requires in
    rw (← c.graph.view_is) (asked_never p.1 (queue_as p.3 c.args.queue.now.waits) (sym (rw c.from.ensures at c.permits.ensures) ∙ c.if-not-permits.true), refl)

pub overflow_cast-entries : goal.overflow_cast-entries
overflow_cast-entries g c = let s = c.requires.4.lowers in record { fits = omega (arith, s.less, s.small) }

pub returns : goal.returns
unfolding permitted_at
returns g c = let a = c.args in let p = rw (← c.graph.view_is) at c.requires in let w = c.graph.invariant in let f = sym (rw c.from.ensures at c.permits.ensures) ∙ c.if-not-permits.false in
    let u = c.put.ensures in
    rw (← c.graph.view_is) (asked_only (edges_here w p.2) p.0 p.1 (few_here w p.2) (queue_as p.3 a.queue.now.waits) f p.4 refl p.3 u.0, u.1)
