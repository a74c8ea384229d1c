-- Cells as the bytes of a word, and the low digits of a word's bytes side by side: eight cells are packed at once. Assumes nothing.
use Rattle.std.specs.Prelude.{ℕ, zero, suc, ◌+◌, ◌*◌, ◌/◌, ◌%◌, Bool, ◌||◌, List, [], ◌∷◌, ◌==◌, nat_lt}

-- Cells as one number, a byte for each, the first lowest.
unfoldable pub bytes_of : List ℕ → ℕ
bytes_of [] = 0
bytes_of (x ∷ xs) = bytes_of xs * 256 + x

-- The low digit of 16 of each of the n lowest bytes.
unfoldable pub squeezed : ℕ → ℕ → ℕ
squeezed zero x = 0
squeezed (suc n) x = squeezed n (x / 256) * 16 + x % 16

-- A cell that is a value or names nothing.
unfoldable pub plain_cell : ℕ → Bool
plain_cell x = x == 255 || nat_lt x 16
