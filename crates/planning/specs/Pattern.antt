-- Patterns, the abstraction of a task by a pattern, and when patterns are additive: document 01, "Patterns and their tables", with source
-- 000, Definitions 4.2 and 4.8. A pattern is a list of cells, 1 where the variable is in. Assumes nothing.
use Rattle.std.specs.Prelude.{◌≡◌, ◌≢◌, Bool, false, not, ◌&&◌, ◌||◌, cond, List, [], ◌∷◌, map, ℕ, suc, ◌≤◌, ◌<◌, eqb, length, get_or}
use Rattle.planning.specs.Finite.{All, Some, some_of}
use Rattle.planning.specs.Task.{Action, Task, State, no_action}

-- The cells of the pattern's variables, and z in place of the others.
unfoldable pub keep : ℕ → List ℕ → List ℕ → List ℕ
keep z p [] = []
keep z [] (x ∷ s) = z ∷ keep z [] s
keep z (b ∷ p) (x ∷ s) = cond (eqb b 1) x z ∷ keep z p s

-- "Its abstraction keeps only those variables in states, needs, outcomes and goal": a state has 0 elsewhere, a partial assignment names
-- nothing elsewhere.
abbrev pub project : List ℕ → List ℕ → List ℕ
project p s = keep 0 p s

abbrev pub mask : List ℕ → List ℕ → List ℕ
mask p cells = keep 255 p cells

-- "every outcome is kept, also one that now changes nothing". What an action counts in the abstraction is q; document 01: its weight.
unfoldable pub mask_action : List ℕ → (Action → ℕ) → Action → Action
mask_action p q a = record { precondition = mask p a.precondition; outcomes = map (mask p) a.outcomes; weight = q a }

unfoldable pub abstraction : List ℕ → (Action → ℕ) → Task → Task
abstraction p q t = record { sizes = t.sizes; goal = mask p t.goal; actions = map (mask_action p q) t.actions }

abbrev pub AbstractState : Task → List ℕ → List ℕ → Type 0
AbstractState t p s = State t s × (project p s ≡ s)

-- "An outcome's assignment of the value its own need demands no longer counts as touching": such a cell counts as one that names nothing. Where
-- the need names no value, its cell is 255 and an outcome's 255 stays what it is.
abbrev pub counted_cell : ℕ → ℕ → ℕ
counted_cell n y = cond (eqb y n) 255 y

-- The assignments of an outcome that count, by the need of its action.
unfoldable pub counted : List ℕ → List ℕ → List ℕ
counted n [] = []
counted [] (y ∷ o) = y ∷ o
counted (n ∷ need) (y ∷ o) = counted_cell n y ∷ counted need o

-- "A move touches a pattern if an outcome names one of its variables, even with the value it has": here, cells that name one.
unfoldable pub affects : List ℕ → List ℕ → Bool
affects p [] = false
affects [] (y ∷ o) = affects [] o
affects (b ∷ p) (y ∷ o) = (eqb b 1 && not (eqb y 255)) || affects p o

-- Only the assignments that count touch.
unfoldable pub affects_pattern : Action → List ℕ → Bool
affects_pattern a p = some_of (λ o. affects p (counted a.precondition o)) a.outcomes

-- The numbers of the patterns that an action affects, ascending; the patterns are numbered from k.
unfoldable pub affected_from : ℕ → List (List ℕ) → Action → List ℕ
affected_from k [] a = []
affected_from k (p ∷ ps) a = cond (affects_pattern a p) (k ∷ affected_from (suc k) ps a) (affected_from (suc k) ps a)

-- "Patterns are additive when each move touches at most one": Definition 4.8 with the owner of every action.
unfoldable pub Additive : Task → List (List ℕ) → Type 0
Additive t ps = All (λ a. length (affected_from 0 ps a) ≤ 1) t.actions

-- "Verdicts are compared with the owner rule over the remaining assignments", stated of variables and without the scan: an outcome's assignment
-- remains if it names the variable and the need does not demand that very value; the variables of an action's remaining assignments meet at most
-- one pattern. The verdict is yes exactly then (verdict_owners).
abbrev pub Remains : Action → List ℕ → ℕ → Type 0
Remains a o v = (get_or o v 255 ≢ 255) × (get_or o v 255 ≢ get_or a.precondition v 255)

-- An assignment of action a that remains is to a variable of pattern p.
abbrev pub Meets : Action → List ℕ → Type 0
Meets a p = Some (λ o. (v : ℕ) × Remains a o v × (get_or p v 0 ≡ 1)) a.outcomes

unfoldable pub OwnerRule : Task → List (List ℕ) → Type 0
OwnerRule t ps = All (λ a. (p q : ℕ) → p < length ps → q < length ps → Meets a (get_or ps p []) → Meets a (get_or ps q []) → p ≡ q) t.actions

-- "The verdict is yes, or the lowest move that touches two, with the lowest two patterns".
pub data Verdict : Type 0 where
  additive : Verdict
  conflict : ℕ → ℕ → ℕ → Verdict

unfoldable pub judge : ℕ → List ℕ → (Unit {0} → Verdict) → Verdict
judge m [] next = next tt
judge m (p ∷ []) next = next tt
judge m (p ∷ (q ∷ qs)) next = conflict m p q

unfoldable pub verdict_from : ℕ → List Action → List (List ℕ) → Verdict
verdict_from m [] ps = additive
verdict_from m (a ∷ rest) ps = judge m (affected_from 0 ps a) (λ u. verdict_from (suc m) rest ps)

unfoldable pub verdict : Task → List (List ℕ) → Verdict
verdict t ps = verdict_from 0 t.actions ps

-- "the lowest move that touches two, with the lowest two patterns", said of the actions without the scan: action m affects at least two
-- patterns, of which p and q come first, and no action below m affects two. The verdict names exactly this (verdict-conflict).
pub record FirstConflict (actions : List Action) (ps : List (List ℕ)) (m p q : ℕ) : Type 0 where
  pub action_below : m < length actions
  pub others : List ℕ
  pub affected : affected_from 0 ps (get_or actions m no_action) ≡ p ∷ (q ∷ others)
  pub none_before : (j : ℕ) → j < m → length (affected_from 0 ps (get_or actions j no_action)) ≤ 1
