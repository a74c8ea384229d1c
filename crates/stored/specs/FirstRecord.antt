-- The rule of each cell of a record of the first form, by its offset, and what its check answers: document 01, "The tower as a task", "Record" and
-- "Where a call can say no", lines 5 and 6. Assumes nothing.
use Rattle.std.specs.Prelude.{ℕ, ◌-◌, ◌/◌, ◌%◌, Bool, true, cond, ◌&&◌, ◌||◌, List, length, slice_index, ◌==◌, nat_le, nat_lt, Result, Ok, Err}
use Rattle.task_record.specs.Scan.{first_from}
use Rattle.task_record.specs.declared.refusal.Refusal.{Refusal}
use Rattle.task_record.specs.declared.refusal.Refusal.TheVariants.{ShortRecord, WrongCell}
use Rattle.stored.specs.FirstLayout.{first_size, first_variable_count, first_action_count, first_pattern_count, first_limit, first_budget, first_at_sizes, first_at_goal, first_at_start, first_size_of, first_at_pattern, first_at_action, first_outcome_count}

abbrev within : ℕ → ℕ → ℕ → Bool
within low high x = nat_le low x && nat_le x high

-- "Ranges: N 1 to 16, .. moves M 0 to 64, patterns P 0 to 8, limit 0 to 32, budget 0 to 1,000,000"; a fault of the budget is at 4 ("budget 4").
unfoldable pub first_head_ok : List ℕ → ℕ → Bool
first_head_ok r k =
    cond (k == 0) (within 1 16 (first_variable_count r))
    (cond (k == 1) (nat_le (first_action_count r) 64)
    (cond (k == 2) (nat_le (first_pattern_count r) 8)
    (cond (k == 3) (nat_le (first_limit r) 32)
    (cond (k == 4) (nat_le (first_budget r) 1000000) true))))

-- "size 2 to 16"; "Unused cells: size .. 0".
unfoldable pub first_size_ok : List ℕ → ℕ → ℕ → Bool
first_size_ok r v x = cond (nat_lt v (first_variable_count r)) (within 2 16 x) (x == 0)

-- "In goals, needs and outcomes 255 means not named. Unused cells: .. all others 255"; "Variable v has values 0 up to its size less one."
unfoldable pub first_assignment_ok : List ℕ → Bool → ℕ → ℕ → Bool
first_assignment_ok r used v x = x == 255 || (used && (nat_lt v (first_variable_count r) && nat_lt x (first_size_of r v)))

-- "start cells below N are never 255"; "Unused cells: .. all others 255".
unfoldable pub first_start_ok : List ℕ → ℕ → ℕ → Bool
first_start_ok r v x = cond (nat_lt v (first_variable_count r)) (nat_lt x (first_size_of r v)) (x == 255)

-- "byte 1 if the variable is in, else 0"; "Unused cells: .. pattern .. 0".
unfoldable pub first_pattern_ok : List ℕ → ℕ → ℕ → ℕ → Bool
first_pattern_ok r p v x = x == 0 || (nat_lt p (first_pattern_count r) && nat_lt v (first_variable_count r) && x == 1)

-- "1 to 8 outcomes"; "Unused cells: .. outcome number 0".
unfoldable pub first_count_ok : List ℕ → ℕ → ℕ → Bool
first_count_ok r m x = cond (nat_lt m (first_action_count r)) (within 1 8 x) (x == 0)

-- Cell c of action m: "number of outcomes, need of 16, eight outcomes of 16".
unfoldable pub first_action_ok : List ℕ → ℕ → ℕ → ℕ → Bool
first_action_ok r m c x =
    cond (c == 0) (first_count_ok r m x)
    (cond (nat_lt c 17) (first_assignment_ok r (nat_lt m (first_action_count r)) (c - 1) x)
    (first_assignment_ok r (nat_lt m (first_action_count r) && nat_lt ((c - 17) / 16) (first_outcome_count r m)) ((c - 17) % 16) x))

-- "0 N; 1 M; 2 P; 3 limit; 4 to 7 budget ..; 8 sizes (16 bytes); 24 goal (16); 40 start (16); 56 patterns (8 times 16 ..); 184 moves (64
-- times 145 ..)".
unfoldable pub first_cell_ok : List ℕ → ℕ → Bool
first_cell_ok r k =
    cond (nat_lt k first_at_sizes) (first_head_ok r k)
    (cond (nat_lt k first_at_goal) (first_size_ok r (k - first_at_sizes) (slice_index r k))
    (cond (nat_lt k first_at_start) (first_assignment_ok r true (k - first_at_goal) (slice_index r k))
    (cond (nat_lt k (first_at_pattern 0)) (first_start_ok r (k - first_at_start) (slice_index r k))
    (cond (nat_lt k (first_at_action 0)) (first_pattern_ok r ((k - first_at_pattern 0) / 16) ((k - first_at_pattern 0) % 16) (slice_index r k))
    (first_action_ok r ((k - first_at_action 0) / 145) ((k - first_at_action 0) % 145) (slice_index r k))))))

-- "cell outside its rule": the "lowest offset", or the record's size where every cell is inside.
unfoldable pub first_wrong : List ℕ → ℕ
first_wrong r = first_from (first_cell_ok r) 0 first_size

-- "5 lent record below 9,464 bytes: its length. 6 cell outside its rule: lowest offset (budget 4)."
unfoldable pub first_check : List ℕ → Result Unit Refusal
first_check r =
    cond (nat_lt (length r) first_size) (Err (ShortRecord (length r)))
    (cond (nat_lt (first_wrong r) first_size) (Err (WrongCell (first_wrong r))) (Ok tt))
