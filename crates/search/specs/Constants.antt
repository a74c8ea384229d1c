-- What the constants of a search are of a record. Assumes nothing.
use Rattle.std.specs.Prelude.{◌≡◌, ℕ, List}
use Rattle.task_record.specs.Numbers.{action_count, pattern_count, variable_count, limit_of}
use Rattle.search.specs.declared.constants.Constants.{Constants}

-- The record's numbers and a budget.
pub record ConstantsOf (r : List ℕ) (budget : ℕ) (constants : Constants) : Type 0 where
  pub patterns : constants.patterns ≡ pattern_count r
  pub variables : constants.variables ≡ variable_count r
  pub actions : constants.actions ≡ action_count r
  pub spends : constants.budget ≡ budget
  pub limit : constants.limit ≡ limit_of r
