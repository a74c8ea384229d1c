-- Tables of patterns and the value of a state: document 01, "Patterns and their tables" and "Value". Assumes nothing.
use Rattle.std.specs.Prelude.{◌≡◌, cond, List, [], ◌∷◌, map, ℕ, zero, suc, ◌+◌, ◌*◌, ◌-◌, ◌/◌, ◌%◌, ◌≤◌, ◌<◌, max, eqb, get_or, drop, replicate}
use Rattle.planning.specs.Finite.{All, tabulate, chain}
use Rattle.planning.specs.Extended.{ℕ∞, fin, inf, add∞, sum∞, infinite_from}
use Rattle.planning.specs.System.{bellman}
use Rattle.planning.specs.Task.{Action, Task, system}
use Rattle.planning.specs.Pattern.{project, abstraction}

-- "The index is the sum of value times weight; the lowest variable's weight is 1, each next is the previous weight times the previous
-- size." Only the pattern's variables count; w is the weight of the next one.
unfoldable pub index_from : ℕ → List ℕ → List ℕ → List ℕ → ℕ
index_from w [] p s = 0
index_from w (z ∷ zs) p [] = 0
index_from w (z ∷ zs) [] (x ∷ s) = index_from w zs [] s
index_from w (z ∷ zs) (b ∷ p) (x ∷ s) = cond (eqb b 1) (x * w + index_from (w * z) zs p s) (index_from w zs p s)

unfoldable pub index : List ℕ → List ℕ → List ℕ → ℕ
index zs p s = index_from 1 zs p s

-- The number of abstract states ("an empty [pattern] has 1"), and the abstract state with a given index.
unfoldable pub state_count : List ℕ → List ℕ → ℕ
state_count [] p = 1
state_count (z ∷ zs) [] = state_count zs []
state_count (z ∷ zs) (b ∷ p) = cond (eqb b 1) (state_count zs p * z) (state_count zs p)

unfoldable pub state_at : List ℕ → List ℕ → ℕ → List ℕ
state_at [] p i = []
state_at (z ∷ zs) [] i = 0 ∷ state_at zs [] i
state_at (z ∷ zs) (b ∷ p) i = cond (eqb b 1) (i % z) 0 ∷ state_at zs p (cond (eqb b 1) (i / z) i)

-- The entry of a state.
unfoldable pub entry_at : List ℕ → List ℕ → List ℕ∞ → List ℕ → ℕ∞
entry_at zs p tab s = get_or tab (index zs p s) inf

unfoldable pub largest_weight : List Action → (Action → ℕ) → ℕ
largest_weight [] q = 0
largest_weight (a ∷ rest) q = max (q a) (largest_weight rest q)

module _ (t : Task) (p : List ℕ) (q : Action → ℕ) where
  -- Definition 2.9 for all abstract states at once, "reachable or not": a round makes the entries anew from those before, starting from 0.
  unfoldable pub table_round : List ℕ∞ → List ℕ∞
  table_round tab = tabulate (λ i. bellman (system (abstraction p q t)) (entry_at t.sizes p tab) (state_at t.sizes p i)) 0 (state_count t.sizes p)

  unfoldable pub table_after : ℕ → List ℕ∞
  table_after zero = replicate (state_count t.sizes p) (fin 0)
  table_after (suc n) = table_round (table_after n)

  -- As many rounds as are sure to be enough: more than any finite cost (finite_cost_bound).
  unfoldable pub rounds_enough : ℕ
  rounds_enough = suc ((state_count t.sizes p - 1) * largest_weight t.actions q)

  -- "The table has an entry for every abstract state, reachable or not": its cost.
  unfoldable pub weighted_table : List ℕ∞
  weighted_table = map (infinite_from rounds_enough) (table_after rounds_enough)

-- The table of a pattern: each action counts with its own weight.
unfoldable pub table : Task → List ℕ → List ℕ∞
table t p = weighted_table t p (λ a. a.weight)

-- "Table entries become 32 bits, infinite 4,294,967,295" (document 02, item 3).
abbrev pub infinite_entry : ℕ
infinite_entry = 4294967295

unfoldable pub entry_of : ℕ∞ → ℕ
entry_of (fin k) = k
entry_of inf = infinite_entry

unfoldable pub cost_of : ℕ → ℕ∞
cost_of e = cond (eqb e infinite_entry) inf (fin e)

-- "Tables follow each other in pattern order".
unfoldable pub tables : Task → List (List ℕ) → List ℕ
tables t ps = chain (λ p. map entry_of (table t p)) ps

-- Finite entries of a table are below n.
abbrev pub EntriesBelow : ℕ → List ℕ∞ → Type 0
EntriesBelow n tab = (i k : ℕ) → get_or tab i inf ≡ fin k → k < n

-- "The sum of the entries of a state's projections, infinite if one is", from any tables that are lent.
unfoldable pub value : List ℕ → List (List ℕ) → List ℕ → List ℕ → ℕ∞
value zs [] tabs s = fin 0
value zs (p ∷ ps) tabs s = add∞ (cost_of (get_or tabs (index zs p s) infinite_entry)) (value zs ps (drop (state_count zs p) tabs) s)

-- "The summed estimate of demand 3": the same from the costs themselves. On tables as built the two are equal (value_of_built).
unfoldable pub estimate : Task → List (List ℕ) → List ℕ → ℕ∞
estimate t ps s = sum∞ (λ p. entry_at t.sizes p (table t p) (project p s)) ps

-- "A pattern has at most 4,096 states".
unfoldable pub Small : Task → List (List ℕ) → Type 0
Small t ps = All (λ p. state_count t.sizes p ≤ 4096) ps

-- "cost= of 1 to 255": the largest weight of an action.
abbrev pub most_weight : ℕ
most_weight = 255

-- "a count per value from 0 to 1,044,225": the largest finite cost that an entry can have, one less than the 4,096 states times the largest weight
-- (light_entries_bounded).
abbrev pub most_cost : ℕ
most_cost = 1044225
