-- The rule of each cell of a record, by its offset, and what the check of a record answers: document 01, "The tower as a task", "Record"
-- and "Where a call can say no", lines 5 and 6, and document 02, item 3. Assumes nothing.
use Rattle.std.specs.Prelude.{◌≡◌, ℕ, ◌-◌, ◌/◌, ◌%◌, Bool, true, cond, ◌&&◌, ◌||◌, List, length, ◌==◌, nat_le, nat_lt, Result, Ok, Err}
use Rattle.task_record.specs.Layout.{record_size, at_variables, at_actions, at_patterns, at_limit, at_budget, at_sizes, at_goal, at_start, at_pattern, at_action, at_cost, action_size, in_precondition, in_outcomes}
use Rattle.task_record.specs.Numbers.{byte, variable_count, action_count, pattern_count, limit_of, budget_of, size_of, outcome_count}
use Rattle.task_record.specs.Scan.{first_from}
use Rattle.task_record.specs.declared.refusal.Refusal.{Refusal}
use Rattle.task_record.specs.declared.refusal.Refusal.TheVariants.{ShortRecord, WrongCell}

abbrev within : ℕ → ℕ → ℕ → Bool
within low high x = nat_le low x && nat_le x high

-- "N 1 to 16, .. moves M 0 to 64, patterns P 0 to 8, .. budget 0 to 1,000,000"; a fault of the budget is at 4 ("budget 4"). "Limit is a cost from
-- 0 to 255": no byte is above.
unfoldable pub head_ok : List ℕ → ℕ → Bool
head_ok r k =
    cond (k == at_variables) (within 1 16 (variable_count r))
    (cond (k == at_actions) (nat_le (action_count r) 64)
    (cond (k == at_patterns) (nat_le (pattern_count r) 8)
    (cond (k == at_limit) (nat_le (limit_of r) 255)
    (cond (k == at_budget) (nat_le (budget_of r) 1000000) true))))

-- "size 2 to 16"; "Unused cells: size .. 0".
unfoldable pub size_ok : List ℕ → ℕ → ℕ → Bool
size_ok r v x = cond (nat_lt v (variable_count r)) (within 2 16 x) (x == 0)

-- "Variable v has values 0 up to its size less one."
unfoldable pub value_ok : List ℕ → ℕ → ℕ → Bool
value_ok r v x = nat_lt v (variable_count r) && nat_lt x (size_of r v)

-- "In goals, needs and outcomes 255 means not named. Unused cells: .. all others 255".
unfoldable pub assignment_ok : List ℕ → Bool → ℕ → ℕ → Bool
assignment_ok r used v x = x == 255 || (used && value_ok r v x)

-- A cell of the start or of another state: "start cells below N are never 255", "(255 beyond N)".
unfoldable pub state_ok : List ℕ → ℕ → ℕ → Bool
state_ok r v x = cond (nat_lt v (variable_count r)) (nat_lt x (size_of r v)) (x == 255)

-- "byte 1 if the variable is in, else 0"; "Unused cells: .. pattern .. 0".
unfoldable pub pattern_ok : List ℕ → ℕ → ℕ → ℕ → Bool
pattern_ok r p v x = x == 0 || (nat_lt p (pattern_count r) && nat_lt v (variable_count r) && x == 1)

-- "1 to 8 outcomes"; "Unused cells: .. outcome number 0".
unfoldable pub count_ok : List ℕ → ℕ → ℕ → Bool
count_ok r m x = cond (nat_lt m (action_count r)) (within 1 8 x) (x == 0)

-- Cell c of action m: "number of outcomes, need of 16, eight outcomes of 16".
unfoldable pub action_ok : List ℕ → ℕ → ℕ → ℕ → Bool
action_ok r m c x =
    cond (c == 0) (count_ok r m x)
    (cond (nat_lt c in_outcomes) (assignment_ok r (nat_lt m (action_count r)) (c - in_precondition) x)
    (assignment_ok r (nat_lt m (action_count r) && nat_lt ((c - in_outcomes) / 16) (outcome_count r m)) ((c - in_outcomes) % 16) x))

-- "cost= of 1 to 255", "0 for unused moves".
unfoldable pub cost_ok : List ℕ → ℕ → ℕ → Bool
cost_ok r m x = cond (nat_lt m (action_count r)) (within 1 255 x) (x == 0)

-- "0 N; 1 M; 2 P; 3 limit; 4 to 7 budget ..; 8 sizes (16 bytes); 24 goal (16); 40 start (16); 56 patterns (8 times 16 ..); 184 moves (64
-- times 145 ..)", and "64 bytes at its end".
unfoldable pub cell_ok : List ℕ → ℕ → Bool
cell_ok r k =
    cond (nat_lt k at_sizes) (head_ok r k)
    (cond (nat_lt k at_goal) (size_ok r (k - at_sizes) (byte r k))
    (cond (nat_lt k at_start) (assignment_ok r true (k - at_goal) (byte r k))
    (cond (nat_lt k (at_pattern 0)) (state_ok r (k - at_start) (byte r k))
    (cond (nat_lt k (at_action 0)) (pattern_ok r ((k - at_pattern 0) / 16) ((k - at_pattern 0) % 16) (byte r k))
    (cond (nat_lt k (at_cost 0)) (action_ok r ((k - at_action 0) / action_size) ((k - at_action 0) % action_size) (byte r k))
    (cost_ok r (k - at_cost 0) (byte r k)))))))

-- "cell outside its rule": the "lowest offset", or the record's size where every cell is inside.
unfoldable pub first_bad : List ℕ → ℕ
first_bad r = first_from (cell_ok r) 0 record_size

-- "5 lent record below 9,464 bytes: its length. 6 cell outside its rule: lowest offset (budget 4)." The bytes are now 9,528.
unfoldable pub record_check : List ℕ → Result Unit Refusal
record_check r =
    cond (nat_lt (length r) record_size) (Err (ShortRecord (length r)))
    (cond (nat_lt (first_bad r) record_size) (Err (WrongCell (first_bad r))) (Ok tt))

-- "A task is sound when its record gives neither 5 nor 6."
unfoldable pub Sound : List ℕ → Type 0
Sound r = record_check r ≡ Ok tt
