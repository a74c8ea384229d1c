-- Tasks over finitely many variables: document 01, "The tower as a task". A state is the list of the variables' values, in order of the
-- variables. Assumes nothing.
use Rattle.std.specs.Prelude.{Bool, true, false, ◌&&◌, ◌||◌, cond, List, [], ◌∷◌, map, ℕ, ◌≤◌, T, eqb, ltb, length, get_or}
use Rattle.planning.specs.Finite.{All, Some}
use Rattle.planning.specs.System.{System}

-- "Need, outcome and goal each name some variables with one value each": a partial assignment is a list of cells, 255 where the
-- variable is not named. An action ("move") has a precondition ("need"), its outcomes in order, every one kept, and a weight.
pub record Action : Type 0 where
  pub precondition : List ℕ
  pub outcomes : List (List ℕ)
  pub weight : ℕ

pub record Task : Type 0 where
  pub sizes : List ℕ
  pub goal : List ℕ
  pub actions : List Action

-- "A state meets a need or goal if it has all the named values."
abbrev pub meets_cell : ℕ → ℕ → Bool
meets_cell y x = eqb y 255 || eqb y x

unfoldable pub meets : List ℕ → List ℕ → Bool
meets [] s = true
meets (y ∷ cells) [] = true
meets (y ∷ cells) (x ∷ s) = meets_cell y x && meets cells s

-- "An outcome changes the named variables and no other."
abbrev pub apply_cell : ℕ → ℕ → ℕ
apply_cell y x = cond (eqb y 255) x y

unfoldable pub apply : List ℕ → List ℕ → List ℕ
apply o [] = []
apply [] (x ∷ s) = x ∷ s
apply (y ∷ o) (x ∷ s) = apply_cell y x ∷ apply o s

-- The precondition of an action is met. (Kept apart from the goal's test: preconditions may come to say more.)
unfoldable pub permits : Action → List ℕ → Bool
permits a s = meets a.precondition s

-- A number that names no action stands for one without outcomes.
abbrev pub no_action : Action
no_action = record { precondition = []; outcomes = []; weight = 1 }

abbrev pub action_at : Task → ℕ → Action
action_at t m = get_or t.actions m no_action

-- The task as a transition system.
unfoldable pub system : Task → System (List ℕ)
system t = record {
  actions = length t.actions;
  goal = meets t.goal;
  enabled = λ m s. permits (action_at t m) s;
  successors = λ m s. map (λ o. apply o s) (action_at t m).outcomes;
  weight = λ m. (action_at t m).weight;
}

-- "Variable v has values 0 up to its size less one": a state has a value for each variable; a partial assignment names such values.
unfoldable pub in_sizes : List ℕ → List ℕ → Bool
in_sizes [] [] = true
in_sizes [] (x ∷ s) = false
in_sizes (z ∷ zs) [] = false
in_sizes (z ∷ zs) (x ∷ s) = ltb x z && in_sizes zs s

unfoldable pub fits_sizes : List ℕ → List ℕ → Bool
fits_sizes zs [] = true
fits_sizes [] (y ∷ o) = true
fits_sizes (z ∷ zs) (y ∷ o) = (eqb y 255 || ltb y z) && fits_sizes zs o

abbrev pub State : Task → List ℕ → Type 0
State t s = T (in_sizes t.sizes s)

-- What the laws ask of a task: no empty variable, and of each action a weight of at least 1, an outcome, and values below the sizes.
pub record WellFormedAction (zs : List ℕ) (a : Action) : Type 0 where
  pub weight_positive : 1 ≤ a.weight
  pub some_outcome : Some (λ o. Unit {0}) a.outcomes
  pub outcomes_fit : All (λ o. T (fits_sizes zs o)) a.outcomes

pub record WellFormed (t : Task) : Type 0 where
  pub sizes_positive : All (λ z. 1 ≤ z) t.sizes
  pub actions_well_formed : All (WellFormedAction t.sizes) t.actions
