-- One test for every kind of cell, as the code makes it on sixteen cells at once. A window is given by a shift and a top: a byte fits it if,
-- moved up by the shift and round past 255, it is at most the top. So 255 and the values below a size are the window of shift 1 and top size.
-- Assumes nothing.
use Rattle.std.specs.Prelude.{◌≡◌, ℕ, ◌+◌, ◌%◌, ◌<◌, Bool, List, length, nat_le, slice_index}

unfoldable pub fits : ℕ → ℕ → ℕ → Bool
fits x shift top = nat_le ((x + shift) % 256) top

-- Sixteen cells given one by one.
pub record Sixteen (f : ℕ → ℕ) (cells : List ℕ) : Type 0 where
  pub whole : length cells ≡ 16
  pub cell : (v : ℕ) → v < 16 → slice_index cells v ≡ f v
