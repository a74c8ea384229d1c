-- A state as sixteen cells, and one cell of a pattern beside one of an outcome. Assumes nothing.
use Rattle.std.specs.Prelude.{ℕ, Bool, not, ◌&&◌, List, ◌==◌, slice_index_or}
use Rattle.planning.specs.Finite.{tabulate}

-- The outcome does not name the variable, or the variable is not in the pattern.
unfoldable pub spares_cell : ℕ → ℕ → Bool
spares_cell b y = not (b == 1 && not (y == 255))

-- "a state of 16 bytes (255 beyond N)": the first sixteen cells, 255 for each that is missing.
unfoldable pub state_cells : List ℕ → List ℕ
state_cells c = tabulate (λ i. slice_index_or c i 255) 0 16
