-- The estimate of a packed state from the weights of each pattern's variables. Assumes nothing.
use Rattle.std.specs.Prelude.{◌≡◌, ℕ, zero, suc, ◌+◌, ◌-◌, ◌<◌, cond, List, [], nat_le, nat_lt, slice_index, slice_index_or}
use Rattle.planning.specs.Extended.{ℕ∞, fin, add∞, ◌≤?◌}
use Rattle.planning.specs.Table.{infinite_entry, cost_of}
use Rattle.tables.specs.Steps.{weigh}

module _ (weights : List (List ℕ)) (offsets tables : List ℕ) where
  -- The entry of s in the table of pattern p. What lies past the tables' end counts as infinite.
  unfoldable pub pattern_entry : ℕ → ℕ → ℕ
  pattern_entry s p = slice_index_or tables (slice_index offsets p + weigh (slice_index_or weights p []) s) infinite_entry

  -- The sum over n patterns from p on, infinite if one is.
  unfoldable pub pattern_sum : ℕ → ℕ → ℕ → ℕ∞
  pattern_sum s p zero = fin 0
  pattern_sum s p (suc n) = add∞ (cost_of (pattern_entry s p)) (pattern_sum s (p + 1) n)

  unfoldable pub packed_value : ℕ → ℕ → ℕ∞
  packed_value patterns s = pattern_sum s 0 patterns

  -- The value of s without the entry of pattern p, and that value with the entry of x; a number that names no pattern has no entry.
  unfoldable pub rest_of : ℕ → ℕ → ℕ → ℕ → ℕ
  rest_of patterns s p value = cond (nat_lt p patterns) (value - pattern_entry s p) value

  unfoldable pub sum_with : ℕ → ℕ → ℕ → ℕ → ℕ
  sum_with patterns x p rest = cond (nat_lt p patterns) (rest + pattern_entry x p) rest

-- A number stands for a value below the infinite entry: it is the value, or both are above every depth.
pub record Estimated (h : ℕ∞) (v : ℕ) : Type 0 where
  pub within : (d : ℕ) → d < infinite_entry → (h ≤? d) ≡ nat_le v d
  pub exact : v < infinite_entry → h ≡ fin v
