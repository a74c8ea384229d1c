-- `search::constants::constants_of` meets its contract. Assumes nothing.
use Rattle.std.proofs.Common.{refl, ◌∙◌}
use Rattle.search.proofs.constants.constants_of.Goals as goal

pub returns : goal.returns
returns c = let p = c.from.ensures ∙ c.pattern_count.ensures in let v = c.from-2.ensures ∙ c.variable_count.ensures in let a = c.from-3.ensures ∙ c.action_count.ensures in record {
  numbers = record { patterns = p; variables = v; actions = a; spends = refl; limit = c.from-4.ensures ∙ c.limit.ensures };
  offsets = refl;
  owned = λ weights begins f. rw (p, a) (c.fill_owners.ensures weights begins f);
}
