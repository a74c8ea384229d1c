-- `search::examine::look` meets its contract. Assumes nothing.
use Rattle.std.proofs.Common.{sym, ◌∙◌, arith}
use Rattle.search.proofs.Looking.{looked_spent, looked_cut, looked_arrived, looked_failed, looked_won, looked_open}
use Rattle.search.proofs.examine.look.Goals as goal

pub returns-in-Spent : goal.returns-in-Spent
returns-in-Spent c = looked_spent c.requires (sym c.open_state.ensures ∙ c.in-Spent.is)

pub returns-in-Cut : goal.returns-in-Cut
returns-in-Cut c = looked_cut c.requires (sym c.open_state.ensures ∙ c.in-Cut.is)

pub returns-in-Arrived : goal.returns-in-Arrived
returns-in-Arrived c = looked_arrived c.requires (sym c.open_state.ensures ∙ c.in-Arrived.is)

pub returns-in_err-known-in-Expand : goal.returns-in_err-known-in-Expand
returns-in_err-known-in-Expand c = rw c.from_residual.ensures (looked_open c.requires (sym c.open_state.ensures ∙ c.in-Expand.is))

pub overflow_add-result-then-known-eq0 : goal.overflow_add-result-then-known-eq0
overflow_add-result-then-known-eq0 c = let h = rw c.in_ok-known-in-Expand.was at c.recall.ensures in record { fits = omega (arith, h.1, c.requires.within, c.args.instance.now.matching.ready.small_budget) }

pub returns-then-known-eq0 : goal.returns-then-known-eq0
returns-then-known-eq0 c = let h = rw c.in_ok-known-in-Expand.was at c.recall.ensures in looked_failed c.requires _ _ _ h.0 h.1 c.if-known-eq0.true

pub overflow_add-result-in-Expand : goal.overflow_add-result-in-Expand
overflow_add-result-in-Expand c = let h = rw c.in_ok-known-in-Expand.was at c.recall.ensures in record { fits = omega (arith, h.1, c.requires.within, c.args.instance.now.matching.ready.small_budget) }

pub returns-else-known-eq0 : goal.returns-else-known-eq0
returns-else-known-eq0 c = let h = rw c.in_ok-known-in-Expand.was at c.recall.ensures in looked_won c.requires _ _ _ h.0 h.1 c.if-known-eq0.false
