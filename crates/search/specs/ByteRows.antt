-- The index of a state in a pattern's table by the bytes of its word: a block of 256 sums for each byte that the pattern has says what
-- the two digits of that byte add. Assumes nothing.
use Rattle.std.specs.Prelude.{◌≡◌, ℕ, zero, suc, ◌+◌, ◌*◌, ◌/◌, ◌%◌, ◌<◌, ◌≤◌, Bool, true, ◌⊎◌, List, [], Option, Some, None, slice_index, slice_index_or}
use Rattle.search.specs.declared.byte_rows.Blocks.{Blocks}
use Rattle.search.specs.declared.byte_rows.Span.{Span}

-- The block of a byte whose digits have these weights stands at `at`.
pub record BlockAt (low high : ℕ) (sums : List ℕ) (at : ℕ) : Type 0 where
  pub block : (x : ℕ) → x < 256 → slice_index sums (at + x) ≡ x % 16 * low + x / 16 * high

-- The sum over n bytes of s whose blocks follow each other from `at` on.
unfoldable pub block_sum : List ℕ → ℕ → ℕ → ℕ → ℕ
block_sum sums at zero s = 0
block_sum sums at (suc n) s = slice_index sums (at + s % 256) + block_sum sums (at + 256) n (s / 256)

-- The blocks of `count` bytes from byte `first` on follow each other from `at` on, and the variables of all other bytes have the weight 0.
pub record SpanAt (weights sums : List ℕ) (first count at : ℕ) : Type 0 where
  pub some : 1 ≤ count
  pub within : first + count ≤ 8
  pub room : at + 256 * count ≤ 4096
  pub below : (v : ℕ) → v < 2 * first → slice_index weights v ≡ 0
  pub above : (v : ℕ) → 2 * (first + count) ≤ v → slice_index weights v ≡ 0
  pub blocks : (j : ℕ) → j < count → BlockAt (slice_index weights (2 * (first + j))) (slice_index weights (2 * (first + j) + 1)) sums (at + 256 * j)

-- Every pattern that has blocks has them as its span says.
pub record BytesOf (weights : List (List ℕ)) (patterns : ℕ) (blocks : Blocks) : Type 0 where
  pub span : (p : ℕ) → p < patterns → (w : Span) → slice_index_or blocks.spans p None ≡ Some w → SpanAt (slice_index_or weights p []) blocks.sums w.first w.count w.at

-- A block was written from `at` on, and nothing else.
pub record BlockFilled (low high : ℕ) (old new : List ℕ) (at : ℕ) : Type 0 where
  pub block : BlockAt low high new at
  pub kept : (i : ℕ) → (i < at) ⊎ (at + 256 ≤ i) → slice_index new i ≡ slice_index old i

-- The blocks of `count` bytes were written from `at` on, and nothing else.
pub record SpanFilled (weights : List ℕ) (first count : ℕ) (old new : List ℕ) (at : ℕ) (r : Bool) : Type 0 where
  pub blocks : r ≡ true → (j : ℕ) → j < count → BlockAt (slice_index weights (2 * (first + j))) (slice_index weights (2 * (first + j) + 1)) new (at + 256 * j)
  pub kept : (i : ℕ) → (i < at) ⊎ (at + 256 * count ≤ i) → slice_index new i ≡ slice_index old i

-- A pattern has blocks between `at` and `end` if it has any. What stands below `at` is as it was.
pub record PatternPlaced (weights old new : List ℕ) (at : ℕ) (r : Option Span) (end : ℕ) : Type 0 where
  pub span : (w : Span) → r ≡ Some w → SpanAt weights new w.first w.count w.at × (w.at + 256 * w.count ≤ end)
  pub kept : (i : ℕ) → i < at → slice_index new i ≡ slice_index old i
  pub grows : at ≤ end
  pub room : end ≤ 4096
