-- Sets of small numbers as words: number m + i is in the set if digit i, to base 2, is 1. Assumes nothing.
use Rattle.std.specs.Prelude.{Bool, cond, ℕ, zero, suc, ◌+◌, ◌*◌}

-- The numbers m, m + 1, ..., n of them, that pass a test: the lowest binary digit stands for m.
unfoldable pub set_from : (ℕ → Bool) → ℕ → ℕ → ℕ
set_from f m zero = 0
set_from f m (suc n) = set_from f (m + 1) n * 2 + cond (f m) 1 0
