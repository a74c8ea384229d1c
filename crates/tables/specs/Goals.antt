-- The goals of a pattern by their indices: the digits that the goal leaves free have any values. Assumes nothing.
use Rattle.std.specs.Prelude.{◌≡◌, ℕ, ◌+◌, ◌<◌, ◌⊎◌, Bool, List, length, drop, ◌≢◌, slice_index}
use Rattle.tables.specs.Steps.{weigh}
use Rattle.tables.specs.Edges.{digit}
use Rattle.tables.specs.Visits.{GoalsWait}

-- The digits of y are those of a word from v on: below the sizes where a digit is free, and 0 elsewhere.
pub record Values (sizes : List ℕ) (v free y : ℕ) : Type 0 where
  pub fixed : (u : ℕ) → digit free u ≡ 0 → digit y u ≡ 0
  pub below : (u : ℕ) → v + u < 16 → (digit free u ≢ 0) → digit y u < slice_index sizes (v + u)

-- Index i is `at` and what such digits add to it.
pub record Reached (ws sizes : List ℕ) (v free at i : ℕ) : Type 0 where
  pub values : ℕ
  pub are : Values sizes v free values
  pub sum : i ≡ at + weigh (drop v ws) values

-- The entries of these indices became 0, and the others are as they were.
pub record Entered (ws sizes : List ℕ) (v free at : ℕ) (t new : List ℕ) : Type 0 where
  pub long : length new ≡ length t
  pub zeros : (i : ℕ) → slice_index t i ≡ 0 → slice_index new i ≡ 0
  pub reached : (i : ℕ) → i < length t → Reached ws sizes v free at i → slice_index new i ≡ 0
  pub others : (i : ℕ) → (slice_index new i ≡ slice_index t i) ⊎ Reached ws sizes v free at i

-- Entry i became 0, if it is there, and the others are as they were.
pub record Zeroed (t new : List ℕ) (i : ℕ) : Type 0 where
  pub long : length new ≡ length t
  pub here : i < length t → slice_index new i ≡ 0
  pub same : (j : ℕ) → (j ≢ i) → slice_index new j ≡ slice_index t j

-- The queue is for the states of the entries, and every state whose entry is 0 waits.
pub record Held (t : List ℕ) (n : ℕ) (marks : List Bool) (c : ℕ) : Type 0 where
  pub states : n ≡ length t
  pub wait : GoalsWait t marks c
