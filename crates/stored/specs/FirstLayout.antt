-- The first form of a record, document 01, "Record": where each cell stands, and the numbers that it holds. Assumes nothing.
use Rattle.std.specs.Prelude.{ℕ, ◌+◌, ◌*◌, List, slice_index}

-- "9,464 bytes"
abbrev pub first_size : ℕ
first_size = 9464

-- "0 N; 1 M; 2 P; 3 limit; 4 to 7 budget, lowest byte first"
abbrev pub first_variable_count : List ℕ → ℕ
first_variable_count r = slice_index r 0

abbrev pub first_action_count : List ℕ → ℕ
first_action_count r = slice_index r 1

abbrev pub first_pattern_count : List ℕ → ℕ
first_pattern_count r = slice_index r 2

abbrev pub first_limit : List ℕ → ℕ
first_limit r = slice_index r 3

unfoldable pub first_budget : List ℕ → ℕ
first_budget r = slice_index r 4 + 256 * slice_index r 5 + 65536 * slice_index r 6 + 16777216 * slice_index r 7

-- "8 sizes (16 bytes); 24 goal (16); 40 start (16)"
abbrev pub first_at_sizes : ℕ
first_at_sizes = 8

abbrev pub first_at_goal : ℕ
first_at_goal = 24

abbrev pub first_at_start : ℕ
first_at_start = 40

abbrev pub first_size_of : List ℕ → ℕ → ℕ
first_size_of r v = slice_index r (first_at_sizes + v)

-- "56 patterns (8 times 16 ..)"
abbrev pub first_at_pattern : ℕ → ℕ
first_at_pattern p = 56 + 16 * p

-- "184 moves (64 times 145: number of outcomes, need of 16, eight outcomes of 16)"
abbrev pub first_at_action : ℕ → ℕ
first_at_action m = 184 + 145 * m

abbrev pub first_at_precondition : ℕ → ℕ
first_at_precondition m = 185 + 145 * m

abbrev pub first_at_outcome : ℕ → ℕ → ℕ
first_at_outcome m k = 201 + 145 * m + 16 * k

abbrev pub first_outcome_count : List ℕ → ℕ → ℕ
first_outcome_count r m = slice_index r (first_at_action m)
