-- What a worklist keeps while it lowers the entries of a table: no entry is above the Bellman value of an action, or an outcome of the action
-- still waits. The order in which states wait is free. Assumes nothing.
use Rattle.std.specs.Prelude.{◌≡◌, ℕ, ◌+◌, ◌<◌, ◌≤◌, Bool, true, false, ◌⊎◌, List, length, get_or, slice_index, slice_index_or}
use Rattle.planning.specs.Finite.{total}
use Rattle.packed_task.specs.Packed.{outcome_count}
use Rattle.tables.specs.Steps.{weigh, Space, bellman_value_at, permitted_at, Steps}
use Rattle.packed_task.specs.Within.{after, idles}

-- The index of the state after outcome o of action m in state i.
unfoldable pub index_after : Space → ℕ → ℕ → ℕ → ℕ
index_after x m i o = weigh x.weights (after x.task x.mask m o (slice_index x.states i))

-- State j waits: it is marked.
abbrev pub Waits : List Bool → ℕ → Type 0
Waits marks j = get_or marks j false ≡ true

-- Entry i is not above the Bellman value of action m, or an outcome of the action waits.
pub data Heard (x : Space) (t : List ℕ) (marks : List Bool) (m i : ℕ) : Type 0 where
  low : slice_index_or t i 0 ≤ bellman_value_at x t m i → Heard x t marks m i
  later : (o : ℕ) → o < outcome_count x.task m → Waits marks (index_after x m i o) → Heard x t marks m i

-- An outcome of action m leads from state i to state j.
pub record Leads (x : Space) (m i j : ℕ) : Type 0 where
  pub outcome : ℕ
  pub known : outcome < outcome_count x.task m
  pub there : index_after x m i outcome ≡ j

-- The actions that are asked: those that leave no state as it is, where they are permitted.
pub record Asks (x : Space) (m i : ℕ) : Type 0 where
  pub known : m < x.actions
  pub moves : idles x.task x.mask m ≡ false
  pub enabled : permitted_at x m i ≡ true

-- What the worklist keeps: the entries came by steps, and every action was heard.
pub record Kept (x : Space) (first t : List ℕ) (marks : List Bool) : Type 0 where
  pub steps : Steps x first t
  pub heard : (m i : ℕ) → Asks x m i → i < length t → Heard x t marks m i

-- A change of entries and marks that keeps what was heard: an entry that was lowered waits, what waited still does, and the sum of the
-- entries and of the number of waiting states does not grow.
pub record Moved (x : Space) (t : List ℕ) (marks : List Bool) (c : ℕ) (new : List ℕ) (marks₁ : List Bool) (d : ℕ) : Type 0 where
  pub long : length new ≡ length t
  pub steps : Steps x t new
  pub keeps : (m i : ℕ) → Heard x t marks m i → Heard x new marks₁ m i
  pub lowered : (j : ℕ) → (slice_index new j ≡ slice_index t j) ⊎ Waits marks₁ j
  pub still : (j : ℕ) → Waits marks j → Waits marks₁ j
  pub falls : total new + d ≤ total t + c
