-- `search::rounds::run_rounds` meets its contract: none, over at once, or the rounds from the value on. Assumes nothing.
use Rattle.std.proofs.Common.{sym, ◌∙◌, arith}
use Rattle.packed_task.specs.Packed.{packed_system}
use Rattle.search.specs.Packed.{instance_value}
use Rattle.search.proofs.Carrying.{finite_estimated}
use Rattle.search.proofs.Conclusions.{ends_over, ends_none, search_none, search-over, search-rounds, value_is}
use Rattle.search.proofs.rounds.run_rounds.Goals as goal

pub returns-in-None : goal.returns-in-None
returns-in-None c = ends_none _ _ _ c.clear.ensures _ (search_none _ _ _ _ _ (sym c.in-None.is ∙ c.value_of.ensures))

pub returns-then-from-value : goal.returns-then-from-value
returns-then-from-value c = ends_over _ _ _ c.clear-then-from-value.ensures _ (search-over _ _ _ _ _ _ (sym c.in-Some.is ∙ c.value_of.ensures) (rw c.from.ensures at c.if-from-value.true))

pub run_from-requires : goal.run_from-requires
run_from-requires c = let i = c.args.instance.now in record {
  within = omega arith;
  shallow = omega (arith, c.if-from-value.false, c.from.ensures, c.requires);
  limited = c.requires;
  valued = rw (value_is (instance_value i c.args.s) c.in-Some.value (sym c.in-Some.is ∙ c.value_of.ensures)) (finite_estimated c.in-Some.value);
}

pub returns-else-from-value : goal.returns-else-from-value
returns-else-from-value c = let i = c.args.instance.now in let w = search-rounds (packed_system i.task.now i.constants.actions) (instance_value i) i.constants.budget i.constants.limit c.args.s c.in-Some.value (sym c.in-Some.is ∙ c.value_of.ensures) (rw c.from.ensures at c.if-from-value.false) in rw w c.run_from.ensures
