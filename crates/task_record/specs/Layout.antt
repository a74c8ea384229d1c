-- The record's layout, document 01, "Record", and document 02, item 3: where each cell stands. Every offset is named here and nowhere else.
-- Assumes nothing.
use Rattle.std.specs.Prelude.{ℕ, ◌+◌, ◌*◌}

-- "The record is 9,528 bytes."
abbrev pub record_size : ℕ
record_size = 9528

-- "0 N; 1 M; 2 P; 3 limit; 4 to 7 budget, lowest byte first"
abbrev pub at_variables : ℕ
at_variables = 0

abbrev pub at_actions : ℕ
at_actions = 1

abbrev pub at_patterns : ℕ
at_patterns = 2

abbrev pub at_limit : ℕ
at_limit = 3

abbrev pub at_budget : ℕ
at_budget = 4

-- "8 sizes (16 bytes); 24 goal (16); 40 start (16)"
abbrev pub at_sizes : ℕ
at_sizes = 8

abbrev pub at_goal : ℕ
at_goal = 24

abbrev pub at_start : ℕ
at_start = 40

-- "56 patterns (8 times 16 ..)"
abbrev pub at_pattern : ℕ → ℕ
at_pattern p = 56 + 16 * p

-- "184 moves (64 times 145: number of outcomes, need of 16, eight outcomes of 16)"
abbrev pub at_action : ℕ → ℕ
at_action m = 184 + 145 * m

abbrev pub at_precondition : ℕ → ℕ
at_precondition m = 185 + 145 * m

abbrev pub at_outcome : ℕ → ℕ → ℕ
at_outcome m k = 201 + 145 * m + 16 * k

-- "the record 64 bytes at its end": the cost of each move
abbrev pub at_cost : ℕ → ℕ
at_cost m = 9464 + m

-- The cells of an action, and where its precondition and its outcomes start in them.
abbrev pub action_size : ℕ
action_size = 145

abbrev pub in_precondition : ℕ
in_precondition = 1

abbrev pub in_outcomes : ℕ
in_outcomes = 17
