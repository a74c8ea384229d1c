-- A scan of numbers in order: the first that fails a test, and whether all pass it. Assumes nothing.
use Rattle.std.specs.Prelude.{ℕ, zero, suc, ◌+◌, Bool, true, cond, ◌&&◌}

-- The lowest of the n numbers from k on that fails the test, or k + n where none does.
unfoldable pub first_from : (ℕ → Bool) → ℕ → ℕ → ℕ
first_from ok k zero = k
first_from ok k (suc n) = cond (ok k) (first_from ok (k + 1) n) k

-- Each number below n passes the test.
unfoldable pub all_below : (ℕ → Bool) → ℕ → Bool
all_below ok zero = true
all_below ok (suc n) = all_below ok n && ok n
