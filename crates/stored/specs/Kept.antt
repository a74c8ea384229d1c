-- What a record that was upgraded is to be beside the stored one. Laws speak of it, no code does. Assumes nothing.
use Rattle.std.specs.Prelude.{◌≡◌, ℕ, List}
use Rattle.task_record.specs.Numbers.{limit_of, budget_of}
use Rattle.task_record.specs.Record.{Sound}
use Rattle.task_record.specs.TaskOf.{task_of, patterns_of, start_of}
use Rattle.stored.specs.FirstLayout.{first_limit, first_budget}
use Rattle.stored.specs.FirstTask.{first_task, first_patterns, first_start}

-- Today's record r passes its check, and says all that the record old of the first form says.
pub record Kept (old r : List ℕ) : Type 0 where
  pub sound : Sound r
  pub task : task_of r ≡ first_task old
  pub patterns : patterns_of r ≡ first_patterns old
  pub start : start_of r ≡ first_start old
  pub limit : limit_of r ≡ first_limit old
  pub budget : budget_of r ≡ first_budget old
