-- A number in decimal, as it is printed. Assumes nothing.
use Rattle.std.specs.Prelude.{List, [], ◌∷◌, ◌++◌, ℕ, zero, suc, ◌+◌, ◌/◌, ◌%◌, ltb}
use Rattle.planning.specs.Finite.{choose}

-- The digits of n, most significant first: those of n / 10, then the last; a number below 10 is its digit. The first number is fuel, and
-- one more than n is enough (decimal_of_digit and decimal_of_more say it without).
unfoldable pub digits_of : ℕ → ℕ → List ℕ
digits_of zero n = []
digits_of (suc f) n = choose (ltb n 10) (λ u. (48 + n) ∷ []) (λ u. digits_of f (n / 10) ++ ((48 + n % 10) ∷ []))

unfoldable pub decimal : ℕ → List ℕ
decimal n = digits_of (suc n) n
