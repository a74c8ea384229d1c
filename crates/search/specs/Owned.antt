-- The one pattern that each action of a compiled task may move a word in: its owner. Assumes nothing.
use Rattle.std.specs.Prelude.{◌≡◌, ℕ, ◌<◌, Bool, cond, not, List, [], ◌==◌, ◌≢◌, bit_and, bit_or, slice_index, slice_index_or}
use Rattle.planning.specs.Finite.{any_from}
use Rattle.packed_task.specs.Packed.{outcome_count, keep_mask, set_value}
use Rattle.tables.specs.Steps.{weigh}

-- "Patterns are additive when each move touches at most one": no outcome changes the index of any word in a pattern that is not the
-- action's owner. A number that names no pattern stands for an action that touches none.
pub record Owned (task : List ℕ) (weights : List (List ℕ)) (actions patterns : ℕ) (owners : List ℕ) : Type 0 where
  pub unmoved : (s m k q : ℕ) → m < actions → k < outcome_count task m → q < patterns → (q ≢ slice_index owners m) →
      weigh (slice_index_or weights q []) (bit_or (bit_and s (keep_mask task m k)) (set_value task m k)) ≡ weigh (slice_index_or weights q []) s

-- An outcome of action m names a variable under a mask.
unfoldable pub touches : List ℕ → ℕ → ℕ → Bool
touches a k m = any_from 0 (outcome_count a m) (λ o. not (bit_and (keep_mask a m o) k == k))

-- The actions below `actions` that touch the variables under a mask were given the owner p; the others have the one that they had.
pub record Marked (task : List ℕ) (mask p actions : ℕ) (old new : List ℕ) : Type 0 where
  pub marks : (m : ℕ) → m < actions → slice_index new m ≡ cond (touches task mask m) p (slice_index old m)
