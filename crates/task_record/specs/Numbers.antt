-- The numbers that a record holds: document 01, "Record". Assumes nothing.
use Rattle.std.specs.Prelude.{ℕ, ◌+◌, ◌*◌, List, slice_index}
use Rattle.task_record.specs.Layout.{at_variables, at_actions, at_patterns, at_limit, at_budget, at_sizes, at_action, at_cost}

-- The cell at an offset; 0 past the end.
abbrev pub byte : List ℕ → ℕ → ℕ
byte r k = slice_index r k

-- "0 N; 1 M; 2 P; 3 limit"
abbrev pub variable_count : List ℕ → ℕ
variable_count r = byte r at_variables

abbrev pub action_count : List ℕ → ℕ
action_count r = byte r at_actions

abbrev pub pattern_count : List ℕ → ℕ
pattern_count r = byte r at_patterns

abbrev pub limit_of : List ℕ → ℕ
limit_of r = byte r at_limit

-- "4 to 7 budget, lowest byte first"
unfoldable pub budget_of : List ℕ → ℕ
budget_of r = byte r at_budget + 256 * byte r (at_budget + 1) + 65536 * byte r (at_budget + 2) + 16777216 * byte r (at_budget + 3)

-- "8 sizes (16 bytes)"
abbrev pub size_of : List ℕ → ℕ → ℕ
size_of r v = byte r (at_sizes + v)

-- "184 moves (64 times 145: number of outcomes, ..)"
abbrev pub outcome_count : List ℕ → ℕ → ℕ
outcome_count r m = byte r (at_action m)

-- "a line cost= of 1 to 255 after each need, and the record 64 bytes at its end"
abbrev pub action_cost : List ℕ → ℕ → ℕ
action_cost r m = byte r (at_cost m)
