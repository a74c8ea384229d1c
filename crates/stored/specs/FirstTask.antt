-- What a record of the first form says, as a task of the theory: document 01, "Record" and "Patterns and their tables". Assumes nothing.
use Rattle.std.specs.Prelude.{ℕ, List, take, drop}
use Rattle.planning.specs.Finite.{tabulate}
use Rattle.planning.specs.Task.{Action, Task}
use Rattle.stored.specs.FirstLayout.{first_variable_count, first_action_count, first_pattern_count, first_at_sizes, first_at_goal, first_at_start, first_at_pattern, first_at_precondition, first_at_outcome, first_outcome_count}

-- The sixteen cells from an offset on.
abbrev pub first_cells : List ℕ → ℕ → List ℕ
first_cells r k = take 16 (drop k r)

-- "number of outcomes, need of 16, eight outcomes of 16"; "the least over applying moves of 1 plus the largest cost among its outcomes": every
-- action weighs 1.
unfoldable pub first_action : List ℕ → ℕ → Action
first_action r m = record {
  precondition = first_cells r (first_at_precondition m);
  outcomes = tabulate (λ k. first_cells r (first_at_outcome m k)) 0 (first_outcome_count r m);
  weight = 1;
}

-- "8 sizes (16 bytes); 24 goal (16); .. 184 moves": as many sizes and actions as are used.
unfoldable pub first_task : List ℕ → Task
first_task r = record {
  sizes = take (first_variable_count r) (drop first_at_sizes r);
  goal = first_cells r first_at_goal;
  actions = tabulate (first_action r) 0 (first_action_count r);
}

-- "56 patterns (8 times 16, byte 1 if the variable is in, else 0)": those that are used.
unfoldable pub first_patterns : List ℕ → List (List ℕ)
first_patterns r = tabulate (λ p. first_cells r (first_at_pattern p)) 0 (first_pattern_count r)

-- "40 start (16)": the values of the variables.
unfoldable pub first_start : List ℕ → List ℕ
first_start r = take (first_variable_count r) (drop first_at_start r)
