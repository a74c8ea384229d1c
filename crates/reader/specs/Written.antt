-- The text of a record, document 01, "Text", the other way round: what the reader is to read back. No code writes it.
-- Assumes nothing.
use Rattle.std.specs.Prelude.{ℕ, zero, suc, ◌+◌, ◌/◌, ◌%◌, cond, List, [], ◌∷◌, ◌++◌, map, ltb, eqb}
use Rattle.task_record.specs.Layout.{at_variables, at_actions, at_patterns, at_limit, at_sizes, at_goal, at_start, at_pattern, at_action, at_precondition, at_outcome}
use Rattle.task_record.specs.Numbers.{byte, variable_count, action_count, pattern_count, outcome_count, action_cost, budget_of}
use Rattle.task_record.specs.TaskOf.{cells_at}
use Rattle.reader.specs.Text.{line_break, comma, colon}
use Rattle.reader.specs.Lists.{unnamed}
use Rattle.reader.specs.Grammar.{key_vars, key_size, key_moves, key_need, key_cost, key_outcomes, key_eff, key_goal, key_start, key_patterns, key_pattern, key_limit, key_budget}
use Rattle.reader.specs.declared.lists.Kind.{Kind}
use Rattle.reader.specs.declared.lists.Kind.TheVariants.{Pairs, Values, Members}
use Rattle.reader.specs.declared.order.Due.{Due}
use Rattle.reader.specs.declared.order.Due.TheVariants.{Vars, Size, Moves, Need, Outcomes, Eff, Goal, Start, Patterns, Pattern, Limit, Budget, End, Cost}

-- "A number is 1 to 7 decimal digits, without a leading zero except 0 itself.": the digits of n, at most k + 1 of them
unfoldable pub digits_of : ℕ → ℕ → List ℕ
digits_of zero n = (48 + n) ∷ []
digits_of (suc k) n = cond (ltb n 10) ((48 + n) ∷ []) (digits_of k (n / 10) ++ ((48 + n % 10) ∷ []))

unfoldable pub decimal : ℕ → List ℕ
decimal n = digits_of 6 n

-- "need, eff and goal hold variable:value pairs", "start holds N values", "pattern holds ascending variables": the piece of a variable v with value x
unfoldable pub item_text : Kind → ℕ → ℕ → List ℕ
item_text Pairs v x = decimal v ++ (colon ∷ decimal x)
item_text Values v x = decimal x
item_text Members v x = decimal v

-- the pieces of the cells from variable v on: one for each that is named
unfoldable pub items_of : Kind → ℕ → List ℕ → List (List ℕ)
items_of kind v [] = []
items_of kind v (x ∷ xs) = cond (eqb x (unnamed kind)) (items_of kind (v + 1) xs) (item_text kind v x ∷ items_of kind (v + 1) xs)

-- "parted by commas"
unfoldable pub after_commas : List (List ℕ) → List ℕ
after_commas [] = []
after_commas (p ∷ ps) = comma ∷ (p ++ after_commas ps)

unfoldable pub joined : List (List ℕ) → List ℕ
joined [] = []
joined (p ∷ ps) = p ++ after_commas ps

abbrev pub list_text : Kind → List ℕ → List ℕ
list_text kind cells = joined (items_of kind 0 cells)

-- "Lines key=value": the line that says what the record r has
unfoldable pub line_of : List ℕ → Due → List ℕ
line_of r Vars = key_vars ++ decimal (byte r at_variables)
line_of r (Size i) = key_size ++ decimal (byte r (at_sizes + i))
line_of r Moves = key_moves ++ decimal (byte r at_actions)
line_of r (Need m) = key_need ++ list_text Pairs (cells_at r (at_precondition m))
line_of r (Cost m) = key_cost ++ decimal (action_cost r m)
line_of r (Outcomes m) = key_outcomes ++ decimal (byte r (at_action m))
line_of r (Eff m k) = key_eff ++ list_text Pairs (cells_at r (at_outcome m k))
line_of r Goal = key_goal ++ list_text Pairs (cells_at r at_goal)
line_of r Start = key_start ++ list_text Values (cells_at r at_start)
line_of r Patterns = key_patterns ++ decimal (byte r at_patterns)
line_of r (Pattern p) = key_pattern ++ list_text Members (cells_at r (at_pattern p))
line_of r Limit = key_limit ++ decimal (byte r at_limit)
line_of r Budget = key_budget ++ decimal (budget_of r)
line_of r End = []

-- "vars; size per variable; moves; per move need, outcomes, then eff per outcome; goal; start; patterns; pattern each; limit; budget", and "a line
-- cost= .. after each need", though it "may be left out": n lines of each kind, before the rest
unfoldable pub sizes_from : ℕ → ℕ → List Due → List Due
sizes_from i zero rest = rest
sizes_from i (suc n) rest = Size i ∷ sizes_from (i + 1) n rest

unfoldable pub outcomes_from : ℕ → ℕ → ℕ → List Due → List Due
outcomes_from m k zero rest = rest
outcomes_from m k (suc n) rest = Eff m k ∷ outcomes_from m (k + 1) n rest

unfoldable pub actions_from : List ℕ → ℕ → ℕ → List Due → List Due
actions_from r m zero rest = rest
actions_from r m (suc n) rest = Need m ∷ Cost m ∷ Outcomes m ∷ outcomes_from m 0 (outcome_count r m) (actions_from r (m + 1) n rest)

unfoldable pub patterns_from : ℕ → ℕ → List Due → List Due
patterns_from p zero rest = rest
patterns_from p (suc n) rest = Pattern p ∷ patterns_from (p + 1) n rest

unfoldable pub dues_of : List ℕ → List Due
dues_of r =
    Vars ∷ sizes_from 0 (variable_count r)
    (Moves ∷ actions_from r 0 (action_count r)
    (Goal ∷ Start ∷ Patterns ∷ patterns_from 0 (pattern_count r) (Limit ∷ Budget ∷ [])))

-- "Lines are parted by byte 10."
unfoldable pub text_of : List (List ℕ) → List ℕ
text_of [] = []
text_of (l ∷ ls) = l ++ (line_break ∷ text_of ls)

-- the text of a record
unfoldable pub written : List ℕ → List ℕ
written r = text_of (map (line_of r) (dues_of r))
