-- What a buffer of bytes holds around a place. Assumes nothing.
use Rattle.std.specs.Prelude.{◌≡◌, ℕ, ◌+◌, ◌<◌, List, length, slice_index}

-- The bytes below `at` are as they were.
unfoldable pub Keeps : ℕ → List ℕ → List ℕ → Type 0
Keeps at old new = (i : ℕ) → i < at → slice_index new i ≡ slice_index old i

-- The bytes p stand from `at` on, as far as the buffer reaches.
unfoldable pub Holds : List ℕ → ℕ → List ℕ → Type 0
Holds p at new = (i : ℕ) → i < length p → at + i < length new → slice_index new (at + i) ≡ slice_index p i
