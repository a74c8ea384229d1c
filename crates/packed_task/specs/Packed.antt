-- States and partial assignments packed into words of 64 bits, 4 bits per variable, the lowest variable lowest. A precondition or a goal
-- is then a mask and a value, an outcome what it keeps and what it sets, and each test or change is one operation. Assumes nothing.
use Rattle.std.specs.Prelude.{ℕ, zero, suc, ◌+◌, ◌*◌, ◌/◌, ◌%◌, ◌<◌, ◌≤◌, Bool, cond, List, [], ◌∷◌, ◌++◌, length, take, replicate, ◌==◌, bit_and, bit_or, slice_index}
use Rattle.planning.specs.Finite.{tabulate, chain}
use Rattle.planning.specs.System.{System}
use Rattle.planning.specs.Task.{Action, Task}
use Rattle.planning.specs.Table.{most_weight}
use Rattle.planning.specs.Pattern.{counted}
use Rattle.packed_task.specs.declared.packed.DigitRule.{DigitRule}
use Rattle.packed_task.specs.declared.packed.DigitRule.TheVariants.{Naming, Leaving, Setting, Low, Picking}

-- A list of cells as one number, a digit of 16 for each, by a rule for the digit.
unfoldable pub pack_by : (ℕ → ℕ) → List ℕ → ℕ
pack_by g [] = 0
pack_by g (x ∷ xs) = pack_by g xs * 16 + g x

-- The rules: the value itself; 15 where a cell names its variable; 15 where it does not; the value that it names.
abbrev pub low : ℕ → ℕ
low x = x % 16

abbrev pub naming : ℕ → ℕ
naming x = cond (x == 255) 0 15

abbrev pub leaving : ℕ → ℕ
leaving x = cond (x == 255) 15 0

abbrev pub setting : ℕ → ℕ
setting x = cond (x == 255) 0 (x % 16)

-- The first n digits of a word, lowest first: the state that it stands for.
unfoldable pub cells_of : ℕ → ℕ → List ℕ
cells_of zero s = []
cells_of (suc n) s = s % 16 ∷ cells_of n (s / 16)

-- The layout of a compiled task: the words of each of 64 actions, and mask and value of the goal. Every place is named here and nowhere else.
abbrev pub task_words : ℕ
task_words = 1282

-- The words of an action: mask and value of the precondition, number of outcomes, weight, then what each of 8 outcomes keeps and sets; where they
-- stand in the action, and the words of an outcome and of all eight.
abbrev pub action_stride : ℕ
action_stride = 20

abbrev pub in_value : ℕ
in_value = 1

abbrev pub in_count : ℕ
in_count = 2

abbrev pub in_weight : ℕ
in_weight = 3

abbrev pub in_keep : ℕ
in_keep = 4

abbrev pub in_set : ℕ
in_set = 5

abbrev pub outcome_stride : ℕ
outcome_stride = 2

abbrev pub outcomes_size : ℕ
outcomes_size = 16

-- The words of all actions, and behind them mask and value of the goal.
abbrev pub actions_size : ℕ
actions_size = 1280

abbrev pub at_goal_mask : ℕ
at_goal_mask = actions_size

abbrev pub at_goal_value : ℕ
at_goal_value = 1281

abbrev pub pre_mask : List ℕ → ℕ → ℕ
pre_mask a m = slice_index a (action_stride * m)

abbrev pub pre_value : List ℕ → ℕ → ℕ
pre_value a m = slice_index a (action_stride * m + in_value)

abbrev pub outcome_count : List ℕ → ℕ → ℕ
outcome_count a m = slice_index a (action_stride * m + in_count)

abbrev pub action_weight : List ℕ → ℕ → ℕ
action_weight a m = slice_index a (action_stride * m + in_weight)

abbrev pub keep_mask : List ℕ → ℕ → ℕ → ℕ
keep_mask a m k = slice_index a (action_stride * m + in_keep + outcome_stride * k)

abbrev pub set_value : List ℕ → ℕ → ℕ → ℕ
set_value a m k = slice_index a (action_stride * m + in_set + outcome_stride * k)

abbrev pub goal_mask : List ℕ → ℕ
goal_mask a = slice_index a at_goal_mask

abbrev pub goal_value : List ℕ → ℕ
goal_value a = slice_index a at_goal_value

-- The packed test of a need: a state has the values that action m needs.
unfoldable pub need_met : List ℕ → ℕ → ℕ → Bool
need_met a m s = (bit_and s (pre_mask a m) == pre_value a m)

-- The system of a compiled task with a number of actions, over packed states.
unfoldable pub packed_system : List ℕ → ℕ → System ℕ
packed_system a actions = record {
  actions = actions;
  goal = λ s. (bit_and s (goal_mask a) == goal_value a);
  enabled = need_met a;
  successors = λ m s. tabulate (λ k. bit_or (bit_and s (keep_mask a m k)) (set_value a m k)) 0 (outcome_count a m);
  weight = λ m. action_weight a m;
}

-- The words of an outcome: of the assignments that count, by the need of its action. Where the need is met they lead to the same state as the whole
-- outcome (counted_leads), and they leave every pattern alone that the action does not affect.
abbrev pub outcome_words : List ℕ → List ℕ → List ℕ
outcome_words need o = pack_by leaving (counted need o) ∷ pack_by setting (counted need o) ∷ []

-- The compiled task of a task.
unfoldable pub action_words : Action → List ℕ
action_words a = pack_by naming a.precondition ∷ pack_by setting a.precondition ∷ length a.outcomes ∷ a.weight ∷
    take outcomes_size (chain (outcome_words a.precondition) a.outcomes ++ replicate outcomes_size 0)

unfoldable pub compiled : Task → List ℕ
compiled t = take actions_size (chain action_words t.actions ++ replicate actions_size 0) ++ (pack_by naming t.goal ∷ pack_by setting t.goal ∷ [])

-- The digits of a pattern's variables: 15 where a cell is 1.
abbrev pub picking : ℕ → ℕ
picking b = cond (b == 1) 15 0

-- The digit by each rule.
unfoldable pub digit_by : DigitRule → ℕ → ℕ
digit_by Naming x = naming x
digit_by Leaving x = leaving x
digit_by Setting x = setting x
digit_by Low x = low x
digit_by Picking x = picking x

-- The numbers of outcomes in a compiled task are such that they can be read, every action has an outcome, and none weighs nothing or more than the
-- largest cost.
pub record Readable (a : List ℕ) (actions : ℕ) : Type 0 where
  pub actions_few : actions ≤ 64
  pub outcomes_few : (m : ℕ) → m < actions → outcome_count a m ≤ 8
  pub outcomes_some : (m : ℕ) → m < actions → 1 ≤ outcome_count a m
  pub weights_some : (m : ℕ) → m < actions → 1 ≤ action_weight a m
  pub weights_few : (m : ℕ) → m < actions → action_weight a m ≤ most_weight
