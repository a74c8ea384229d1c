-- The spread of a table, which shows whether a pattern tells states apart: document 02, item 1. Assumes nothing.
use Rattle.std.specs.Prelude.{Bool, true, false, cond, List, [], ◌∷◌, ◌++◌, ℕ, suc, ◌+◌, eqb}
use Rattle.planning.specs.Finite.{tabulate}
use Rattle.planning.specs.Extended.{ℕ∞, fin, inf}
use Rattle.planning.specs.Table.{most_cost}

-- Whether two costs are the same.
unfoldable pub same_cost : ℕ∞ → ℕ∞ → Bool
same_cost (fin a) (fin b) = eqb a b
same_cost (fin a) inf = false
same_cost inf (fin b) = false
same_cost inf inf = true

-- "How many abstract states have" a cost: the entries of a table that are this cost.
unfoldable pub states_with : ℕ∞ → List ℕ∞ → ℕ
states_with c [] = 0
states_with c (x ∷ tab) = cond (same_cost x c) (suc (states_with c tab)) (states_with c tab)

-- "Item 1's row has a count per value from 0 to 1,044,225, then infinite" (document 02, item 3).
unfoldable pub row_size : ℕ
row_size = most_cost + 2

-- "List how many abstract states have each value .., and how many are infinite".
unfoldable pub spread : List ℕ∞ → List ℕ
spread tab = tabulate (λ v. states_with (fin v) tab) 0 (suc most_cost) ++ (states_with inf tab ∷ [])

-- The place of a cost in the row: infinity has the last.
unfoldable pub place_of : ℕ∞ → ℕ
place_of (fin v) = v
place_of inf = suc most_cost
