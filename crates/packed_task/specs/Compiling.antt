-- The words of a record's task in a compiled task, as they are made one by one. Assumes nothing.
use Rattle.std.specs.Prelude.{◌≡◌, ℕ, ◌+◌, ◌*◌, ◌<◌, ◌≤◌, cond, ◌⊎◌, List, length, nat_lt, slice_index}
use Rattle.planning.specs.Finite.{tabulate}
use Rattle.planning.specs.Task.{Action, Task}
use Rattle.planning.specs.Pattern.{counted}
use Rattle.task_record.specs.Layout.{at_precondition, at_outcome}
use Rattle.task_record.specs.Numbers.{outcome_count}
use Rattle.task_record.specs.TaskOf.{cells_at, action_of}
use Rattle.packed_task.specs.Packed.{pack_by, action_stride, actions_size, task_words, action_words, compiled}

-- The assignments of outcome k of action m that count, as a word by a rule for its digits, 0 where there is no such outcome.
unfoldable pub outcome_word : (ℕ → ℕ) → List ℕ → ℕ → ℕ → ℕ
outcome_word rule r m k = cond (nat_lt k (outcome_count r m)) (pack_by rule (counted (cells_at r (at_precondition m)) (cells_at r (at_outcome m k)))) 0

-- The words of action m are there, and the others as they were.
pub record ActionCompiled (old new : List ℕ) (m : ℕ) (a : Action) : Type 0 where
  pub long : length new ≡ length old
  pub words : (i : ℕ) → i < action_stride → slice_index new (action_stride * m + i) ≡ slice_index (action_words a) i
  pub others : (i : ℕ) → (i < action_stride * m) ⊎ (action_stride * m + action_stride ≤ i) → slice_index new i ≡ slice_index old i

-- The words of the actions before n are there, and those after them as they were.
pub record ActionsCompiled (r old new : List ℕ) (n : ℕ) : Type 0 where
  pub long : length new ≡ length old
  pub words : (m i : ℕ) → m < n → i < action_stride → slice_index new (action_stride * m + i) ≡ slice_index (action_words (action_of r m)) i
  pub others : (i : ℕ) → action_stride * n ≤ i → slice_index new i ≡ slice_index old i

-- The words from one on and before another are 0, and the others as they were.
pub record Cleared (old new : List ℕ) (from end : ℕ) : Type 0 where
  pub long : length new ≡ length old
  pub zeros : (i : ℕ) → from ≤ i → i < end → slice_index new i ≡ 0
  pub others : (i : ℕ) → (i < from) ⊎ (end ≤ i) → slice_index new i ≡ slice_index old i

-- The compiled task over other words: the words of the actions that there are, and of the goal; those between stay.
unfoldable pub word_over : Task → List ℕ → ℕ → ℕ
word_over t old i = cond (nat_lt i (action_stride * length t.actions)) (slice_index (compiled t) i)
    (cond (nat_lt i actions_size) (slice_index old i) (slice_index (compiled t) i))

unfoldable pub compiled_over : Task → List ℕ → List ℕ
compiled_over t old = tabulate (word_over t old) 0 task_words
