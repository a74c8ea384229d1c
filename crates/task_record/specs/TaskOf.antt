-- What a record says, as a task of the theory: document 01, "Record". Assumes nothing.
use Rattle.std.specs.Prelude.{ℕ, List, take, drop}
use Rattle.planning.specs.Finite.{tabulate}
use Rattle.planning.specs.Task.{Action, Task}
use Rattle.task_record.specs.Layout.{at_sizes, at_goal, at_start, at_pattern, at_precondition, at_outcome}
use Rattle.task_record.specs.Numbers.{variable_count, action_count, pattern_count, outcome_count, action_cost}

-- The sixteen cells from an offset on.
abbrev pub cells_at : List ℕ → ℕ → List ℕ
cells_at r k = take 16 (drop k r)

-- "number of outcomes, need of 16, eight outcomes of 16"; "Costs replace the 1".
unfoldable pub action_of : List ℕ → ℕ → Action
action_of r m = record {
  precondition = cells_at r (at_precondition m);
  outcomes = tabulate (λ k. cells_at r (at_outcome m k)) 0 (outcome_count r m);
  weight = action_cost r m;
}

-- "8 sizes (16 bytes); 24 goal (16); .. 184 moves": as many sizes and actions as are used.
unfoldable pub task_of : List ℕ → Task
task_of r = record {
  sizes = take (variable_count r) (drop at_sizes r);
  goal = cells_at r at_goal;
  actions = tabulate (action_of r) 0 (action_count r);
}

-- "56 patterns (8 times 16, byte 1 if the variable is in, else 0)": those that are used.
unfoldable pub patterns_of : List ℕ → List (List ℕ)
patterns_of r = tabulate (λ p. cells_at r (at_pattern p)) 0 (pattern_count r)

-- "40 start (16)": the values of the variables.
unfoldable pub start_of : List ℕ → List ℕ
start_of r = take (variable_count r) (drop at_start r)

-- "a state of 16 bytes (255 beyond N)": the values of the N variables.
unfoldable pub values_of : List ℕ → List ℕ → List ℕ
values_of r s = take (variable_count r) s
