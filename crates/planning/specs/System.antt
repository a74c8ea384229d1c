-- Transition systems and the cost of a state: source 000, Definitions 2.1 and 2.9, as document 01 restates them.
-- Any type of states will do; a task (Task) is one system, its abstraction by a pattern (Pattern) another. Assumes nothing.
use Rattle.std.specs.Prelude.{◌≡◌, Bool, not, ◌&&◌, cond, List, ℕ, zero, suc, ◌≤◌, ◌<◌, T}
use Rattle.planning.specs.Finite.{All}
use Rattle.planning.specs.Extended.{ℕ∞, fin, inf, ◌≤?◌, add∞, largest, least_from, infinite_from}

-- Actions ("moves") are the numbers below `actions`. An action has a test (its precondition, "need", is met), the states after its
-- outcomes, in order, and a weight: what it adds to a cost. Document 01 counts every move as 1.
pub record System (S : Type 0) : Type 0 where
  pub actions : ℕ
  pub goal : S → Bool
  pub enabled : ℕ → S → Bool
  pub successors : ℕ → S → List S
  pub weight : ℕ → ℕ

-- "A move applies in a state that meets its need and is not a goal state."
unfoldable pub applies : {S : Type 0} → System S → ℕ → S → Bool
applies Y m s = Y.enabled m s && not (Y.goal s)

-- "0 at a goal, infinite where nothing applies, else the least over applying moves of 1 plus the largest cost among its outcomes":
-- the right-hand side of Definition 2.9, over any costs f of the next states.
unfoldable pub bellman : {S : Type 0} → System S → (S → ℕ∞) → S → ℕ∞
bellman Y f s = cond (Y.goal s) (fin 0)
    (least_from 0 Y.actions (λ m. cond (applies Y m s) (add∞ (fin (Y.weight m)) (largest f (Y.successors m s))) inf))

-- Definition 2.9: the costs of round 0 are 0, those of round n + 1 come from round n.
unfoldable pub iterate : {S : Type 0} → System S → ℕ → S → ℕ∞
iterate Y zero s = fin 0
iterate Y (suc n) s = bellman Y (iterate Y n) s

-- The limit of a sequence: a finite one is reached and kept, an infinite one passes every bound.
unfoldable pub IsLimit : (ℕ → ℕ∞) → ℕ∞ → Type 0
IsLimit f (fin k) = (n : ℕ) × ((m : ℕ) → n ≤ m → f m ≡ fin k)
IsLimit f inf = (d : ℕ) → (n : ℕ) × ((m : ℕ) → n ≤ m → T (f m ≤? d) → ⊥)

-- "The cost of a state [is] the limit of Definition 2.9 starting from 0."
unfoldable pub IsCost : {S : Type 0} → System S → S → ℕ∞ → Type 0
IsCost Y s v = IsLimit (λ n. iterate Y n s) v

-- The cost, computed: n rounds, and what has reached n is infinite. It is the limit where n is above every finite cost (cost_is_limit).
unfoldable pub cost_within : {S : Type 0} → System S → ℕ → S → ℕ∞
cost_within Y n s = infinite_from n (iterate Y n s)

-- What the laws ask of a system and its valid states: weights are at least 1, and actions lead from valid states to valid states.
pub record Invariant {S : Type 0} (Y : System S) (Ok : S → Type 0) : Type 0 where
  pub weight_positive : (m : ℕ) → m < Y.actions → 1 ≤ Y.weight m
  pub closed : (m : ℕ) (s : S) → m < Y.actions → Ok s → T (applies Y m s) → All Ok (Y.successors m s)
