-- `search::examine::open_state` meets its contract: the tests in the definition's order, but depth 0 before the value, where both cut. Assumes nothing.
use Rattle.std.proofs.Common.{sym, ◌∙◌, eq-eqb, ne_eqb, le-leb}
use borrow.Author.Tests.{lt-leb}
use Rattle.packed_task.specs.Packed.{packed_system}
use Rattle.planning.specs.Extended.{◌≤?◌}
use Rattle.search.specs.Examination.{opening_of}
use Rattle.search.specs.Packed.{instance_value}
use Rattle.search.proofs.Openings.{cut_either_way}
use Rattle.search.proofs.examine.open_state.Goals as goal

pub returns-then-v-instance : goal.returns-then-v-instance
unfolding opening_of packed_system
returns-then-v-instance c = rw (eq-eqb _ _ c.if-v-instance.true)

pub returns-then-is_goal : goal.returns-then-is_goal
unfolding opening_of packed_system
returns-then-is_goal c = rw (ne_eqb _ _ c.if-v-instance.false, sym c.is_goal.ensures ∙ c.if-is_goal.true)

pub returns-then-v-eq0 : goal.returns-then-v-eq0
unfolding opening_of packed_system
returns-then-v-eq0 c = let a = c.args in rw (ne_eqb _ _ c.if-v-instance.false, sym c.is_goal.ensures ∙ c.if-is_goal.false, eq-eqb _ _ c.if-v-eq0.true) (cut_either_way (instance_value a.instance.now a.v.s ≤? a.v.d))

pub returns-then-v-from : goal.returns-then-v-from
unfolding opening_of packed_system
returns-then-v-from c = rw (ne_eqb _ _ c.if-v-instance.false, sym c.is_goal.ensures ∙ c.if-is_goal.false, ne_eqb _ _ c.if-v-eq0.false, c.requires.1.within _ c.requires.0 ∙ le-leb _ _ (rw c.from.ensures at c.if-v-from.true))

pub returns : goal.returns
unfolding opening_of packed_system
returns c = rw (ne_eqb _ _ c.if-v-instance.false, sym c.is_goal.ensures ∙ c.if-is_goal.false, c.requires.1.within _ c.requires.0 ∙ lt-leb _ _ (rw c.from.ensures at c.if-v-from.false))
