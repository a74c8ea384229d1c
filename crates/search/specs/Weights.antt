-- What a task's sizes and patterns ask for: the weights of each pattern's variables, and where each table begins. Assumes nothing.
use Rattle.std.specs.Prelude.{◌≡◌, ℕ, ◌-◌, ◌<◌, List, [], ◌++◌, length, take, replicate, slice_index, slice_index_or}
use Rattle.patterns.specs.Space.{entries_needed}
use Rattle.tables.specs.Steps.{weights_from}

-- "The index is the sum of value times weight; the lowest variable's weight is 1, each next is the previous weight times the previous
-- size": the weights of sixteen variables, 0 outside the pattern.
abbrev pub pattern_weights : List ℕ → List ℕ → List ℕ
pattern_weights zs p = weights_from 1 zs p ++ replicate (16 - length zs) 0

-- "Tables follow each other in pattern order". Weights of other patterns are never read.
pub record WeightsOf (zs : List ℕ) (ps weights : List (List ℕ)) (offsets : List ℕ) : Type 0 where
  pub weigh : (p : ℕ) → p < length ps → slice_index_or weights p [] ≡ pattern_weights zs (slice_index_or ps p [])
  pub offset : (p : ℕ) → p < length ps → slice_index offsets p ≡ entries_needed zs (take p ps)
